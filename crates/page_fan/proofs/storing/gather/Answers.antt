use Rattle.std.proofs.Common.{◌≡◌, ◌++◌, ◌∷◌, map, length, ap, sym, ◌∙◌, arith, rules}
use Rattle.std.specs.Prelude.{Some}
use Rattle.page_fan.proofs.Gathered.{next_at, earlier_at, gathered_all}
use Rattle.page_fan.proofs.storing.gather.Goals as goal

pub add-requires-clause-full : goal.add-requires-clause-full
add-requires-clause-full c = λ k d l.
    let pages = c.loop-next.pages.pages in
    let page = c.in-Some-next.page in
    let popped : c.loop-next.rest.items ≡ Some page ∷ c.pop_front.new.self.items = search rules in
    let whole : map Some pages ++ Some page ∷ c.pop_front.new.self.items ≡ c.args.answer.items = ap (λ xs. map Some pages ++ xs) (sym popped) ∙ c.loop-next.invariant.all in
    let at = earlier_at pages page c.pop_front.new.self.items c.args.answer.items whole k d l in
    (c.requires.lengths k _ at.0 at.1).2 at.2 ∙ sym c.loop-next.invariant.page_size

pub add-requires-clause-some : goal.add-requires-clause-some
add-requires-clause-some c =
    let pages = c.loop-next.pages.pages in
    let page = c.in-Some-next.page in
    let popped : c.loop-next.rest.items ≡ Some page ∷ c.pop_front.new.self.items = search rules in
    let whole : map Some pages ++ Some page ∷ c.pop_front.new.self.items ≡ c.args.answer.items = ap (λ xs. map Some pages ++ xs) (sym popped) ∙ c.loop-next.invariant.all in
    let at = next_at pages page c.pop_front.new.self.items c.args.answer.items whole in
    (c.requires.lengths (length pages) page at.0 at.1).0

pub add-requires-clause-fits : goal.add-requires-clause-fits
add-requires-clause-fits c =
    let pages = c.loop-next.pages.pages in
    let page = c.in-Some-next.page in
    let popped : c.loop-next.rest.items ≡ Some page ∷ c.pop_front.new.self.items = search rules in
    let whole : map Some pages ++ Some page ∷ c.pop_front.new.self.items ≡ c.args.answer.items = ap (λ xs. map Some pages ++ xs) (sym popped) ∙ c.loop-next.invariant.all in
    let at = next_at pages page c.pop_front.new.self.items c.args.answer.items whole in
    rw c.loop-next.invariant.page_size (c.requires.lengths (length pages) page at.0 at.1).1

pub returns-clause-all : goal.returns-clause-all
returns-clause-all c =
    let empty = rw c.in_default.is at c.pop_front.ensures.cases in
    record {
      size = c.loop-next.invariant.page_size;
      all = gathered_all c.loop-next.pages.pages c.loop-next.rest.items c.args.answer.items c.loop-next.invariant.all (omega (arith, c.loop-next.rest.ok.0, empty.0));
      cut = c.loop-next.invariant.cut;
    }
