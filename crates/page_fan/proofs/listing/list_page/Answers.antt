use Rattle.std.proofs.Common.{rules, ◌≡◌, ◌++◌, [], ◌∷◌, take, get_or, ap, sym, ◌∙◌, append_assoc}
use Rattle.std.proofs.lemmas.List.Elements.{All-push}
use Rattle.replica_place.specs.Chosen.{chosen}
use Rattle.page_fan.specs.declared.stand.Put.{Put}
use Rattle.page_fan.specs.Groups.{CanBePut}
use Rattle.page_fan.specs.Listed.{puts_at}
use Rattle.page_fan.proofs.ListedPuts.{puts_at_next}
use Rattle.page_fan.proofs.listing.list_page.Goals as goal

pub loop-provider-preserved : goal.loop-provider-preserved
loop-provider-preserved c =
    let at = c.args.at in
    let i = c.loop-provider.provider-index in
    let providers = chosen c.args.placement.now in
    let put : Put = record { provider = get_or providers i 0; at = at } in
    let more : c.push.new.self.items ≡ c.loop-provider.puts.items ++ put ∷ [] = search rules in
    record {
      listed = rw more (ap (λ xs. xs ++ put ∷ []) c.loop-provider.invariant.listed
          ∙ (append_assoc c.args.puts.now.items (puts_at at (take i providers)) (put ∷ [])
          ∙ ap (λ xs. c.args.puts.now.items ++ xs) (sym (puts_at_next at providers i (get_or providers i 0) (search rules) (search rules)))));
      can_be_put = λ count buffer within served old.
          let chosen = rw c.chosen-provider-items.ensures at c.loop-provider-test.true in
          rw more (All-push (CanBePut count buffer) c.loop-provider.puts.items _ (c.loop-provider.invariant.can_be_put count buffer within served old) (record { known = served i 0 chosen; within = within }));
    }

pub returns-then-is_err-clause-can_be_put : goal.returns-then-is_err-clause-can_be_put
returns-then-is_err-clause-can_be_put c = λ providers buffer within served old.
    let same : c.push.new.self.items ≡ c.loop-provider.puts.items = search rules in
    rw same (c.loop-provider.invariant.can_be_put providers buffer within served old)
