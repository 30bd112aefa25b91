use Rattle.std.proofs.Common.{◌≡◌, ◌≤◌, ◌+◌, length, map, All, sym, ap, ◌∙◌, subst, arith}
use Rattle.file_names.specs.declared.form.PageHolders.{PageHolders}
use Rattle.file_layer.specs.Files.{LieAt}
use Rattle.file_layer.proofs.Lying.{page_added, lie_added, all_met, in_order}
use Rattle.file_layer.proofs.places.places_met.Goals as goal

pub loop-page-preserved : goal.loop-page-preserved
loop-page-preserved g c = (
  page_added c.args.snapshot.now _ c.loop-page.page c.loop-page.places.items _ c.loop-page.auto.page c.loop-page.invariant.0 c.in_ok-add_page.ensures,
  lie_added c.args.snapshot.now c.loop-page.page c.loop-page.places.items _ c.loop-page.invariant.1 c.in_ok-add_page.ensures,
)

pub returns-clause-which : goal.returns-clause-which
returns-clause-which g c =
    let le : c.page_of-first.result ≤ c.page_of-last.result =
    in_order c.args.offset c.args.count c.bytes-bytes.result c.page_of-first.result c.page_of-last.result c.last_byte-end.result (grind (arith, c.bytes-bytes.ensures.bounds)) c.requires.some c.page_of-first.ensures.page c.page_of-last.ensures.page c.last_byte-end.ensures.last in
    let done : c.loop-page.page ≡ c.page_of-last.result + 1 = omega (arith, le, c.loop-page-test.false, c.loop-page.auto.page, c.loop-page.auto.page-end) in
    ap (map (λ (p : PageHolders). p.page)) c.of.ensures ∙ c.loop-page.invariant.0
    ∙ all_met c.args.snapshot.now.page_size c.args.offset c.args.count c.bytes-bytes.result c.page_of-first.result c.page_of-last.result c.last_byte-end.result c.loop-page.page c.requires.some
    (c.bytes-bytes.ensures.is ∙ c.page_size.ensures) c.page_of-first.ensures.page c.page_of-last.ensures.page c.last_byte-end.ensures.last done

pub returns-clause-lie : goal.returns-clause-lie
returns-clause-lie g c = λ houses lie. subst (All (LieAt (length houses))) (sym c.of.ensures) (c.loop-page.invariant.1 houses lie)
