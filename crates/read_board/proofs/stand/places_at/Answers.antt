use Rattle.std.proofs.Common.{◌≡◌, ◌∙◌, refl, ap, length, arith}
use Rattle.std.proofs.lemmas.List.Elements.{All-push}
use Rattle.left_right.specs.Sides.{view}
use Rattle.read_board.proofs.stand.places_at.Goals as goal
use Rattle.read_board.proofs.stand.places_at.Goals.{in-Some+else-is_err, in_default}

pub loop-init : goal.loop-init
loop-init c = (refl, refl, λ k d within. absurd (omega (arith, within, ap length c.new-all.ensures.items)))

pub loop-preserved : goal.loop-preserved
loop-preserved c =
    let i = c.loop.invariant in
    let kept = c.place_at.ensures.kept in
    let place = view c.args.writer.now.desk.place in (
      kept.0 ∙ i.0,
      kept.1 ∙ i.1,
      elim c.match-place_at.branch [
        | in-Some+else-is_err w ↦
            let more = rw w.if-is_err.ensures.negation at w.push.ensures.items in
            rw (w.all-is, more) (All-push (λ p. view p.place ≡ place) c.loop.all.items w.in-Some.place i.2 (w.in-Some.ensures.known ∙ i.1))
        | in_default w ↦ rw w.all-is i.2
      ],
    )
