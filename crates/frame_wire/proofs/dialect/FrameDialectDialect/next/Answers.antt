use Rattle.std.proofs.Common.{◌≡◌, ◌∙◌, Option, None, Result, Ok, IfOk, sym, ap, subst}
use Rattle.request_form.specs.Stream.{IsNext}
use Rattle.request_form.specs.declared.form.Heard.{Heard}
use Rattle.frame_wire.specs.Fed.{Fed, heard_by, fed_by}
use Rattle.frame_wire.specs.declared.spoken.Spoken.{Spoken}
use Rattle.frame_wire.specs.declared.spoken.Spoken.TheVariants.{First, Second}
use Rattle.frame_wire.specs.declared.dialect.FrameDialect.TheInside.{Inside}
use Rattle.frame_wire.proofs.SpokenLemmas.{opening_next}
use Rattle.frame_wire.proofs.dialect.FrameDialectDialect.next.Goals as goal
use Rattle.frame_wire.proofs.dialect.FrameDialectDialect.next.Goals.{in-Opening, in-First, in-Second}

-- what an arm answers is the answer
abbrev IsAnswer : {E : Type 0} → Fed → Result (Option Heard) E → Spoken → Type 0
IsAnswer old result spoken = IfOk result (λ item. IsNext (heard_by old) item (heard_by (fed_by spoken)))

joined : {E : Type 0} (old now : Fed) (arm result : Result (Option Heard) E) (spoken : Spoken) (inside : Inside) → old ≡ now → result ≡ arm → inside.spoken ≡ spoken → IsAnswer old arm spoken → IsAnswer now result inside.spoken
joined {E = E} old now arm result spoken inside same is stays answer =
    subst (λ (f : Fed). IsAnswer f result inside.spoken) same
    (subst (λ (r : Result (Option Heard) E). IsAnswer old r inside.spoken) (sym is) (subst (λ (s : Spoken). IsAnswer old arm s) (sym stays) answer))

pub returns : goal.returns
returns c =
    elim c.match-self.branch [
      | in-Opening w ↦
          joined (fed_by c.self.inside.spoken) c.args.self.now (Ok None) c.match-self.result c.self.inside.spoken c.match-self.self-inside c.self.view_is w.result-is (ap (λ (i : Inside). i.spoken) w.self-inside-is)
          (opening_next c.self.inside.spoken w.in-Opening.field-0 w.in-Opening.is c.self.invariant)
      | in-First w ↦
          joined (fed_by (First w.in-First.frames)) c.args.self.now w.next.result c.match-self.result (First w.next.new.self) c.match-self.self-inside (ap fed_by (sym w.in-First.is) ∙ c.self.view_is) w.result-is
          (ap (λ (i : Inside). i.spoken) w.self-inside-is) w.next.ensures
      | in-Second w ↦
          joined (fed_by (Second w.in-Second.told w.in-Second.frames)) c.args.self.now w.next_second.result c.match-self.result (Second w.next_second.new.told w.next_second.new.frames) c.match-self.self-inside
          (ap fed_by (sym w.in-Second.is) ∙ c.self.view_is) w.result-is (ap (λ (i : Inside). i.spoken) w.self-inside-is) w.next_second.ensures
    ]
