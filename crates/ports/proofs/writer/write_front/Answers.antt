use Rattle.std.proofs.Common.{◌≡◌, ◌++◌, ℕ, List, arith, take, drop, sym, subst, ap, ◌∙◌, append_assoc}
use Rattle.std.proofs.Math.Seq.{take-add}
use Rattle.std.proofs.lemmas.List.{take_rest}
use Rattle.std.specs.Io.KnownBytes.{Appends}
use Rattle.std.proofs.KnownBytes.{Appends-trans}
use Rattle.ports.proofs.writer.write_front.Goals as goal

pub writes-preserved : goal.writes-preserved
writes-preserved g c =
    let all = c.args.bytes.now in
    let done = c.writes.done in
    let n = c.write_some-n.result in
    let more = subst (λ (xs : List ℕ). Appends (g.W.Write.contents c.writes.writer.stream) (g.W.Write.contents c.write_some-n.new.writer.stream) (take n xs)) (take_rest all done) c.write_some-n.ensures.held in
    let wrote = subst (λ (xs : List ℕ). c.write_some-n.new.writer.written ≡ c.writes.writer.written ++ take n xs) (take_rest all done) c.write_some-n.ensures.written in (
      omega arith,
      subst (Appends _ _) (sym (take-add done n all)) (Appends-trans _ _ _ _ _ c.writes.invariant.1 more),
      wrote ∙ (ap (λ (xs : List ℕ). xs ++ take n (drop done all)) c.writes.invariant.2 ∙ (append_assoc c.args.writer.now.written (take done all) (take n (drop done all)) ∙ ap (λ (xs : List ℕ). c.args.writer.now.written ++ xs) (sym (take-add done n all)))),
      c.write_some-n.ensures.given ∙ c.writes.invariant.3,
    )
