-- How a conversation ended, and that no other status comes where the input is full and answered.
use Rattle.std.proofs.Common.{◌≡◌, ◌≢◌, ℕ, ◌<◌, ◌≤◌, true, false, List, [], length, refl, sym, ◌∙◌, ap, subst, arith}
use Rattle.std.proofs.lemmas.Bool.{false≢true}
use Rattle.std.proofs.KnownBytes.{Appends-nil, Consumes-nil}
use Rattle.std.specs.Io.KnownBytes.{Appends, Consumes}
use Rattle.std.specs.Prelude.{Option}
use Rattle.items.specs.Rounds.{has_last}
use Rattle.server_core.specs.Conversed.{Input}
use Rattle.blobseer_run.specs.declared.status.Status.TheVariants as Statuses
use Rattle.blobseer_run.specs.Outside.{Outside, TakesOff}
use Rattle.blobseer_run.specs.Conversation.{input_limit, Dialogue, IsDue, Ended, Conversed}
use Rattle.blobseer_run.specs.Status.{code_of, out_of_memory, input_too_long}

-- where the input stands
abbrev pub input_of : Outside → Input
input_of outside = record { given = outside.given; left = outside.left; ends = outside.ends }

less_and_full : (taken limit : ℕ) → taken < limit → taken ≡ limit → ⊥
less_and_full taken limit less full = omega arith

some_and_none : (rest : List ℕ) → 0 < length rest → rest ≡ [] → ⊥
some_and_none rest some none = omega (arith, some, ap length none)

module _ {Item : Type 0} (d : Dialogue Item) (taken text rest : List ℕ) (old new : Outside) (status : ℕ) where
  module _ (full : length taken ≡ input_limit) (none : has_last d.is_last (d.heard taken).whole ≡ false) (wrote : rest ≡ []) (memory : status ≢ out_of_memory) where
    not_due : (due : List Item) → IsDue (d.heard taken) taken old new due → has_last d.is_last due ≡ true → ⊥
    not_due due (IsDue.all less rose none_left is) quits = less_and_full (length taken) input_limit less full
    not_due due (IsDue.whole is) quits = false≢true (sym none ∙ (ap (has_last d.is_last) (sym is) ∙ quits))

    -- no other status comes where the input is full and its items are answered
    pub full_of : Ended d taken text rest old new status → status ≡ input_too_long
    full_of (Ended.finished e less rose none_left uncut r x) = absurd (less_and_full (length taken) input_limit less full)
    full_of (Ended.cut e less rose none_left cut quit r x) = absurd (less_and_full (length taken) input_limit less full)
    full_of (Ended.quit e due is quits r x) = absurd (not_due due is quits)
    full_of (Ended.unread e less rose quit r x) = absurd (less_and_full (length taken) input_limit less full)
    full_of (Ended.unwritten e rose due is some x) = absurd (some_and_none rest some wrote)
    full_of (Ended.starved e due is x) = absurd (memory e)
    full_of (Ended.too_long e at quit r x) = e

  abbrev pub conversed_with : TakesOff old new taken → length taken ≤ input_limit → Appends old.written new.written text → Ended d taken text rest old new status → Conversed d old new status
  conversed_with takes within adds e = record {
    taken = taken;
    text = text;
    rest = rest;
    takes = takes;
    within = within;
    adds = adds;
    ended = e;
    full = λ full none wrote memory. full_of full none wrote memory e;
  }

-- where nothing could be done for want of memory
abbrev pub conversed_none : {Item : Type 0} (d : Dialogue Item) (old new : Outside) → new.given ≡ old.given → new.left ≡ old.left → new.written ≡ old.written → d.Says (d.heard []).whole []
    → Conversed d old new (code_of Statuses.OutOfMemory)
conversed_none d old new given left written says =
    let P : Option (List ℕ) → Type 0 = λ o. Appends old.given o [] in
    let Q : Option (List ℕ) → Type 0 = λ o. Consumes old.left o [] in
    let R : Option (List ℕ) → Type 0 = λ o. Appends old.written o [] in
    conversed_with d [] [] [] old new (code_of Statuses.OutOfMemory) (record { gave = subst P (sym given) (Appends-nil old.given); took = subst Q (sym left) (Consumes-nil old.left) }) (omega arith)
    (subst R (sym written) (Appends-nil old.written)) (Ended.starved refl (d.heard []).whole (IsDue.whole refl) says)
