use Rattle.std.proofs.Common.{◌≡◌, ◌++◌, ◌∷◌, [], ◌∙◌, ap, subst, sym, None}
use Rattle.file_names.specs.Tree.{enter_fault}
use Rattle.file_names.specs.Folders.{HasPath}
use Rattle.file_names.proofs.Entering.{parent_open, entered_ok}
use Rattle.file_names.proofs.names.Names.add.Goals as goal

pub put_path-requires-clause-parent : goal.put_path-requires-clause-parent
put_path-requires-clause-parent c =
    let may = subst (λ l. enter_fault l c.args.path.now ≡ None) (sym c.self.view_is) c.requires in
    rw c.as_slice.ensures.bytes (parent_open c.self.inside.history.items c.self.inside.folders c.self.invariant c.args.path.now c.as_slice.ensures.path may)

pub invariant_of-self-2 : goal.invariant_of-self-2
invariant_of-self-2 c =
    let may = subst (λ l. enter_fault l c.args.path.now ≡ None) (sym c.self.view_is) c.requires in
    let has : HasPath c.self.inside.folders c.args.path.now c.args.named c.put_path.new.folders = rw c.as_slice.ensures.bytes at c.in_ok-put_path.ensures.put in
    let items : c.push_reserved.new.self.items ≡ c.self.inside.history.items ++ (c.args.caller, record { path = c.args.path.now; named = c.args.named }) ∷ [] =
    c.push_reserved.ensures.items ∙ ap (λ l. l ++ (c.args.caller, record { path = c.in_ok-copy.field-0; named = c.args.named }) ∷ []) c.reserve.ensures.items ∙ ap (λ p. c.self.inside.history.items ++ (c.args.caller, record { path = p; named = c.args.named }) ∷ []) c.in_ok-copy.ensures in
    rw items (entered_ok c.self.inside.history.items c.self.inside.folders c.put_path.new.folders c.args.caller c.args.path.now c.args.named c.self.invariant c.as_slice.ensures.path may has)
