-- Reads of published versions stay what they are.
use Rattle.std.proofs.Common.{◌≡◌, ℕ, ◌+◌, ◌≤◌, nat_lt, Bool, true, false, if◌then◌else◌, List, [], ◌∷◌, ◌++◌, length, take, drop, refl, sym, ap, subst, ◌∙◌, arith}
use Rattle.std.specs.Prelude.{Option, Some, None}
use Rattle.std.proofs.lemmas.Bool.{false≢true}
use Rattle.std.proofs.lemmas.Bool.Decides.{nat_tests}
use Rattle.blob_model.specs.Content.{content}
use Rattle.blob_model.specs.Limits.{Bounds}
use Rattle.blob_model.specs.Store.{Store, Blob, blob_at, assigned, published}
use Rattle.blob_model.specs.Answer.{Answered, refuse, unless_refused, not_published, range_past_size, bytes_of}
use Rattle.blob_model.specs.History.{AllOther, store_of}
use Rattle.blob_model.specs.Laws.{OldVersionsStay, PublishedAreNumbered}
use Rattle.blob_model.specs.declared.call.Call.TheVariants as Calls
use Rattle.blob_model.specs.declared.call.Event.{Event}
use Rattle.blob_model.specs.declared.call.Outcome.{Outcome}
use Rattle.blob_model.specs.declared.call.Outcome.TheVariants as Outcomes
use Rattle.blob_model.specs.declared.call.Refusal.{Refusal}
use Rattle.blob_model.specs.declared.call.Refusal.TheVariants as Refusals
use Rattle.request_form.specs.declared.form.Reply.{Reply}
use Rattle.request_form.specs.declared.form.Reply.TheVariants as Replies
use Rattle.request_form.specs.declared.form.Fault.TheVariants as Faults
use Rattle.request_form.specs.Replies.{reply_of}
use Rattle.request_form.specs.Session.{Session, outcome_at}
use Rattle.request_form.specs.Turns.{Turn, and_made, AfterGap}
use Rattle.request_form.specs.Answers.{Unless, ReadTurn, max_read}
use Rattle.request_form.specs.PublishedReads.{IsPublishedIn, Range, Tells, read_outcome}
use Rattle.request_form.specs.Laws.{PublishedReadsStay, PublishedReadsAgree}
use Rattle.request_form.proofs.Runs.{turn_grows}
use Rattle.request_form.proofs.Own.{read_tells}

-- ---- what a store answers
-- the range's bytes of a content, or what is refused
ranged : List ℕ → ℕ → ℕ → Outcome
ranged bytes offset count =
    if nat_lt (length bytes) (offset + count) then Outcomes.Refused (Refusals.RangePastSize (offset + count) (length bytes)) else Outcomes.Content (take count (drop offset bytes))

second_test : (store : Store) (t u : Bool) (q r : Refusal) (done : Answered) → t ≡ false
    → (let a : Answered = elim (if t then Some q else (if u then Some r else None)) [ Some r ↦ refuse store r | None ↦ done ] in a).1 ≡ (if u then Outcomes.Refused r else done.1)
second_test store true u q r done e = absurd (false≢true (sym e))
second_test store false true q r done e = refl
second_test store false false q r done e = refl

pub not_below : (a b : ℕ) → b ≤ a → nat_lt a b ≡ false
not_below a b le = grind (arith, nat_tests)

read_in : (store : Store) (blob version offset count : ℕ) (o : Option Blob) (b : Blob) → o ≡ Some b → version ≤ published b
    → (let a : Answered =
    elim o [
      | None ↦ refuse store (Refusals.NoBlob blob)
      | Some b ↦
          unless_refused store (not_published b version ∷ range_past_size b version offset count ∷ []) (store, Outcomes.Content (bytes_of b version offset count))
    ] in a).1 ≡ ranged (content b.updates version) offset count
unfolding ranged
read_in store blob version offset count None b is within = let never : ⊥ = cc in absurd never
read_in store blob version offset count (Some x) b is within =
    let same : x ≡ b = cc in
    second_test store (nat_lt (published x) version) (nat_lt (length (content x.updates version)) (offset + count)) _ _ _
    (ap (λ (y : Blob). nat_lt (published y) version) same ∙ not_below (published b) version within)
    ∙ ap (λ (y : Blob). ranged (content y.updates version) offset count) same

-- the store of a longer history answers the same
module _ (stay : OldVersionsStay) (numbered : PublishedAreNumbered) where
  same_read : (limits : Bounds) (history more : List Event) (range : Range) → IsPublishedIn (store_of limits history) range.blob range.version
      → read_outcome (store_of limits (history ++ more)) range ≡ read_outcome (store_of limits history) range
  same_read limits history more range (b, at, within) =
      let (new, there, stays) = stay limits history more range.blob b at in
      let few : range.version ≤ assigned b = omega (arith, numbered limits history range.blob b at, within) in
      let still : range.version ≤ published new = omega (arith, within, stays.published) in
      read_in (store_of limits (history ++ more)) range.blob range.version range.offset range.count (blob_at (store_of limits (history ++ more)) range.blob) new there still
      ∙ (ap (λ (c : List ℕ). ranged c range.offset range.count) (stays.content range.version few)
      ∙ sym (read_in (store_of limits history) range.blob range.version range.offset range.count (blob_at (store_of limits history) range.blob) b at within))

  -- ---- what a session is told
  too_long_told : (outcome : Outcome) (count : ℕ) (t : Bool) (reply : Reply) (s s' : Session) (Answer : Type 0) → (Answer → Tells outcome count reply)
      → Unless (if t then Some (Faults.ReadTooLong count) else None) s reply s' Answer → Tells outcome count reply
  too_long_told outcome count true reply s s' Answer f u = Tells.too_long u.0
  too_long_told outcome count false reply s s' Answer f u = f u

  turn_told : (range : Range) (s : Session) (front : List Event) (turn : Turn) → ReadTurn s range.blob range.version range.offset range.count front turn
      → Tells (outcome_at s front (Calls.Read range.blob range.version range.offset range.count)) range.count turn.said
  turn_told range s front _ (ReadTurn.content bytes e) = Tells.outcome_told (ap (λ (o : Outcome). reply_of o) (sym e))
  turn_told range s front _ (ReadTurn.refused refusal e) = Tells.outcome_told (ap (λ (o : Outcome). reply_of o) (sym e))
  turn_told range s front _ ReadTurn.out_of_memory = Tells.out_of_memory refl
  turn_told range s front _ (ReadTurn.not_read bytes e some page meets) = Tells.not_read page refl

  read_told : (range : Range) (s : Session) (reply : Reply) (s' : Session) (outcome : Outcome)
      → ((others : List Event) → s'.seen ≡ s.seen ++ others → outcome_at s others (Calls.Read range.blob range.version range.offset range.count) ≡ outcome)
      → AfterGap AllOther s (ReadTurn s range.blob range.version range.offset range.count) reply s' → Tells outcome range.count reply
  read_told range s reply s' outcome same a =
      let no : a.turn.made ≡ [] = sym (read_tells s a.others range.blob range.version range.offset range.count a.turn a.may).is in
      let seen : s'.seen ≡ s.seen ++ a.others =
      (turn_grows AllOther s _ reply s' a).seen ∙ ap (λ (l : List Event). s.seen ++ and_made a.others l) no in
      subst (λ (r : Reply). Tells outcome range.count r) (sym a.said)
      (subst (λ (o : Outcome). Tells o range.count a.turn.said) (same a.others seen) (turn_told range s a.others a.turn a.may))

  pub reads_stay : PublishedReadsStay
  reads_stay limits history range reply is r =
      let s : Session = r.before in
      let same : (others : List Event) → r.after.seen ≡ s.seen ++ others
      → outcome_at s others (Calls.Read range.blob range.version range.offset range.count) ≡ read_outcome (store_of limits history) range =
      λ others e.
      let seen : s.seen ++ others ≡ history ++ r.more = sym e ∙ r.seen in
      ap (λ (l : Bounds). read_outcome (store_of l (s.seen ++ others)) range) r.limits_are
      ∙ (ap (λ (h : List Event). read_outcome (store_of limits h) range) seen ∙ same_read limits history r.more range is) in
      too_long_told (read_outcome (store_of limits history) range) range.count (nat_lt max_read range.count) reply s r.after _
      (read_told range s reply r.after (read_outcome (store_of limits history) range) same) r.answered

  content_told : (outcome : Outcome) (count : ℕ) (bytes : List ℕ) → Tells outcome count (Replies.Content bytes) → Replies.Content bytes ≡ reply_of outcome
  content_told outcome count bytes (Tells.outcome_told e) = e
  content_told outcome count bytes (Tells.too_long e) = let never : ⊥ = cc in absurd never
  content_told outcome count bytes (Tells.out_of_memory e) = let never : ⊥ = cc in absurd never
  content_told outcome count bytes (Tells.not_read page e) = let never : ⊥ = cc in absurd never

  same_bytes : (bytes others : List ℕ) → Replies.Content bytes ≡ Replies.Content others → bytes ≡ others
  same_bytes bytes others e = cc

  pub reads_agree : PublishedReadsAgree
  reads_agree limits history range bytes others is r q =
      let outcome : Outcome = read_outcome (store_of limits history) range in
      let a = content_told outcome range.count bytes (reads_stay limits history range (Replies.Content bytes) is r) in
      let b = content_told outcome range.count others (reads_stay limits history range (Replies.Content others) is q) in
      same_bytes bytes others (a ∙ sym b)
