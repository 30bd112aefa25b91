use Rattle.std.proofs.Common.{◌≡◌, ◌-◌, ◌%◌, List, [], ◌∷◌, ◌++◌, take, drop, map, sym, ap, ◌∙◌, subst, append_assoc}
use Rattle.std.specs.Prelude.{IfOk}
use Rattle.std.specs.Arc.{arc_value}
use Rattle.std.proofs.lemmas.List.{take-append-drop}
use Rattle.radix_list.proofs.grown.Grown.apart.Goals as goal

pub returns : goal.returns
returns g c =
    let xs = c.args.self.now in
    let whole = c.len-len.result - c.len-len.result % 32 in
    let last : List g.row.T.Denot = arc_value c.args.item.now ∷ [] in
    let all : take whole c.in_ok-body.body ++ (map arc_value c.deref.result.now ++ last) ≡ xs ++ last =
    ap (λ l. l ++ (map arc_value c.deref.result.now ++ last)) c.in_ok-body.ensures
    ∙ (ap (λ l. take whole xs ++ (l ++ last)) (ap (map arc_value) c.deref.ensures.value ∙ c.in_ok-kept.ensures)
    ∙ (sym (append_assoc (take whole xs) (drop whole xs) last) ∙ ap (λ l. l ++ last) (take-append-drop whole xs))) in
    subst (λ (l : List g.row.T.Denot). IfOk c.new.result (λ list. list ≡ l)) all c.new.ensures
