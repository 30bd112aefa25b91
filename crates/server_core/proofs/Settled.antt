-- What was answered, once what was held of the replies is written.
use Rattle.std.proofs.Common.{ℕ, List, [], ◌∷◌, ◌++◌, inl, inr, sym, ◌∙◌, subst, append-nil}
use Rattle.std.specs.Prelude.{Option}
use Rattle.items.specs.Items.{ItemStream}
use Rattle.server_core.specs.declared.flow.Flow.{Flow}
use Rattle.server_core.specs.declared.flow.Flow.TheVariants as Flows
use Rattle.server_core.specs.Talk.{Talk, PointOf}
use Rattle.server_core.specs.Conversing.{Progress, Writes, Goes, IsDrained, IsAnswered, IsSettled}
use Rattle.server_core.proofs.GoingOn.{written_at, Progress-out, Progress-all, Stops-here}

module _ {Item : Type 0} (talk : Talk Item) (old : PointOf talk.Session) (before : List ℕ → ItemStream Item) (held : List ℕ) (new : PointOf talk.Session) (after : List ℕ → ItemStream Item) (written : Option (List ℕ)) where
  goes_out : (rest : List ℕ) → Writes held [] new.written written rest → Goes talk old before held new after → Goes talk old before rest (written_at new written) after
  goes_out rest w goes = record { items = goes.items; progress = Progress-all talk [] old goes.items held new written rest w goes.progress; goes = goes.goes; reads = goes.reads }

  abbrev drained : Flow → Type 0
  drained flow = IsDrained talk old before [] (written_at new written) after flow

  pub settle_drained : (flow flow' : Flow) → IsDrained talk old before held new after flow → IsSettled held new.written written flow flow' → drained flow'
  settle_drained Flows.Goes flow' d (inl x) = subst drained (sym x.0) (goes_out [] x.1 d.0, d.1)
  settle_drained Flows.Goes flow' d (inr x) = subst drained (sym x.0) (x.1.0, x.1.1, Stops-here talk old before x.1.0 (written_at new written) after (goes_out x.1.0 x.1.2 d.0))
  settle_drained Flows.Quits flow' d (inl x) = subst drained (sym x.0) (record { items = d.items; progress = Progress-all talk [] old d.items held new written [] x.1 d.progress; reads = d.reads; whole = d.whole })
  settle_drained Flows.Quits flow' d (inr x) = subst drained (sym x.0) (
    x.1.0,
    x.1.1,
    record {
      items = d.items;
      progress = Progress-all talk [] old d.items held new written x.1.0 x.1.2 d.progress;
      reads = λ more. ([], (d.reads more).0 ∙ sym (append-nil d.items));
      whole = λ more. ([], (d.whole more).0 ∙ sym (append-nil d.items));
    },
  )
  settle_drained Flows.WriteFault flow' d x =
      subst drained (sym x.0) (subst (λ (w : Option (List ℕ)). IsDrained talk old before [] (written_at new w) after Flows.WriteFault) (sym x.1) d)
  settle_drained Flows.NoMemory flow' d x = subst drained (sym x.0) (
    x.1.0 ++ d.0,
    record { items = d.1.items; progress = Progress-out talk [] old d.1.items held new written x.1.0 x.1.1 d.0 d.1.progress; reads = d.1.reads; whole = d.1.whole },
  )

module _ {Item : Type 0} (talk : Talk Item) (from : List ℕ) (old : PointOf talk.Session) (heard : Item) (held : List ℕ) (new : PointOf talk.Session) (written : Option (List ℕ)) where
  abbrev answered : Flow → Type 0
  answered flow = IsAnswered talk from old heard [] (written_at new written) flow

  all_out : (rest : List ℕ) → Writes held [] new.written written rest → Progress talk from old (heard ∷ []) held new → Progress talk from old (heard ∷ []) rest (written_at new written)
  all_out rest w p = Progress-all talk from old (heard ∷ []) held new written rest w p

  pub settle_answered : (flow flow' : Flow) → IsAnswered talk from old heard held new flow → IsSettled held new.written written flow flow' → answered flow'
  settle_answered Flows.Goes flow' d (inl x) = subst answered (sym x.0) (all_out [] x.1 d.0, d.1)
  settle_answered Flows.Goes flow' d (inr x) = subst answered (sym x.0) (x.1.0, x.1.1, all_out x.1.0 x.1.2 d.0)
  settle_answered Flows.Quits flow' d (inl x) = subst answered (sym x.0) (all_out [] x.1 d.0, d.1)
  settle_answered Flows.Quits flow' d (inr x) = subst answered (sym x.0) (x.1.0, x.1.1, all_out x.1.0 x.1.2 d.0)
  settle_answered Flows.WriteFault flow' d x =
      subst answered (sym x.0) (subst (λ (w : Option (List ℕ)). IsAnswered talk from old heard [] (written_at new w) Flows.WriteFault) (sym x.1) d)
  settle_answered Flows.NoMemory flow' d x = subst answered (sym x.0) (x.1.0 ++ d.0, Progress-out talk from old (heard ∷ []) held new written x.1.0 x.1.1 d.0 d.1)
