use Rattle.std.proofs.Common.{◌≡◌, true, refl, sym, ◌∙◌, ap, subst, List, [], append-nil}
use Rattle.std.specs.Prelude.{All}
use Rattle.std.proofs.lemmas.Bool.{false≢true}
use Rattle.snapshot.specs.Versions.{Version}
use Rattle.range_reader.specs.Opened.{has_opened}
use Rattle.range_reader.proofs.KeptPlaces.{all_keeping}
use Rattle.client_session.specs.Kept.{IsKept}
use Rattle.client_session.specs.Sessions.{SessionState}
use Rattle.client_session.proofs.Kept.{opened_kept}
use Rattle.client_session.proofs.session.Session.come.Goals as goal

pub returns-then-is_some-clause-coming : goal.returns-then-is_some-clause-coming
returns-then-is_some-clause-coming g c =
    let s : SessionState g.row.D.Denot = c.args.self.now in
    let has : has_opened s.opened c.args.blob c.args.version ≡ true =
    ap (λ (x : SessionState g.row.D.Denot). has_opened x.opened c.args.blob c.args.version) (sym c.self.view_is) ∙ (sym c.of.ensures.found ∙ (sym c.is_some.ensures ∙ c.if-is_some.true)) in
    record {
      gap = [];
      others = tt;
      log = sym (append-nil s.log);
      same = refl;
      by_kept = λ kept. refl;
      one_turn = λ none. absurd (false≢true (sym none ∙ has));
      keeps = has;
      stays = tt;
      not_opened = tt;
    }

pub invariant_of-self : goal.invariant_of-self
invariant_of-self g c =
    let i = c.self-2.inside in
    let s = c.self-2.invariant in
    let v = c.in-Ok.snapshot in
    let new : IsKept i.shared.now.fixed i.pass.seen v =
    subst (λ (x : SessionState g.row.D.Denot). IsKept x.store.fixed x.log v) (sym c.self-2.view_is)
    (opened_kept c.args.self.now c.snapshot_of.new.self c.args.blob c.args.version v c.in-Ok.ensures.opening) in
    record {
      pass_is = s.pass_is;
      holding = s.holding;
      housed = s.housed;
      served = s.served;
      true_doors = s.true_doors;
      marks = s.marks;
      kept = subst (λ (vs : List Version). All (IsKept i.shared.now.fixed i.pass.seen) vs) (sym c.keep.ensures.kept)
          (all_keeping (IsKept i.shared.now.fixed i.pass.seen) i.opened v s.kept new);
    }
