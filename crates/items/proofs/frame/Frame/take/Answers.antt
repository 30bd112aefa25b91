use Rattle.std.proofs.Common.{ℕ, List, ◌++◌, take, subst}
use Rattle.items.specs.BegunFrame.{begun_bytes, GoesOnAs}
use Rattle.items.proofs.FrameTaken.{complete_not_open}
use Rattle.items.proofs.frame.Frame.take.Goals as goal

pub returns : goal.returns
returns g c =
    let taken = c.in_ok-taken.ensures.ok in
    let next = c.take_parts.new.begun in
    let goes : List ℕ → Type 0 = λ l. GoesOnAs g.B.Body.framing (l ++ take c.in_ok-taken.taken c.args.piece.now) (begun_bytes g.B.Body.come next) in
    record {
      within = taken.within;
      goes_on = subst goes c.self.view_is taken.goes_on;
      enough = λ less part. complete_not_open g.B.Body.framing g.met.B.Body.is_framing g.B.Body.come next taken.begun_well (taken.enough less) part;
    }
