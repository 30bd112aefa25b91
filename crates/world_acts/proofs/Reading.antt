-- The turn of a read is a step, and the walk after it brings what the world's does.
use Rattle.std.proofs.Common.{◌≡◌, ℕ, ◌+◌, ◌-◌, ◌≤◌, Bool, true, false, List, ◌++◌, length, take, drop, refl, sym, ap, subst, ◌∙◌, arith}
use Rattle.std.specs.Prelude.{Option, Some, None, nat_lt, if◌then◌else◌, slice_range}
use Rattle.std.proofs.lemmas.Bool.Decides.{nat_tests}
use Rattle.std.proofs.lemmas.List.{map-append, length-take-le, take-append-drop}
use Rattle.blob_model.specs.Content.{Update, content, size_of}
use Rattle.blob_model.specs.Store.{Store, Blob, blob_at, assigned, published}
use Rattle.blob_model.specs.Answer.{Answered, answer, refuse, bytes_of}
use Rattle.blob_model.specs.History.{is_refused, store_of}
use Rattle.blob_model.specs.Laws.{OldVersionsStay, PublishedAreNumbered}
use Rattle.blob_model.specs.declared.call.Call.TheVariants as Calls
use Rattle.blob_model.specs.declared.call.Event.{Event}
use Rattle.blob_model.specs.declared.call.Outcome.TheVariants as Outcomes
use Rattle.blob_model.specs.declared.call.Refusal.{Refusal}
use Rattle.blob_model.specs.declared.call.Refusal.TheVariants as Refusals
use Rattle.range_log.specs.Extents.{Extent}
use Rattle.range_log.specs.Updates.{extents}
use Rattle.range_log.specs.Visits.{visits}
use Rattle.range_log.proofs.Bytes.{length-extents}
use Rattle.range_log.proofs.Growth.{rows_stay, extents_grow}
use Rattle.snapshot.specs.Versions.{updates_of, size_now}
use Rattle.range_reader.specs.Reading.{bound}
use Rattle.blob_core.specs.Walk.{read_walk}
use Rattle.blob_core.specs.Steps.{IsAllowed}
use Rattle.blob_core.specs.Standing.{ReachedStays}
use Rattle.blob_core.specs.declared.step.Step.TheVariants as Moves
use Rattle.version_manager.specs.Desks.{updates_or_none}
use Rattle.version_manager.specs.Log.{events}
use Rattle.version_manager.proofs.Stores.{in_blob_here}
use Rattle.world_acts.specs.Worlds.{IsStep, StoresAgree}
use Rattle.world_acts.specs.Reads.{ReadsAreSteps, WalksAgree}
use Rattle.world_acts.proofs.Steps.{quiet_step, worlds_are_reached}

-- ---- what the answers say
abbrev pub In : Store → ℕ → Option Blob → (Blob → Answered) → Answered
In s blob o f = elim o [ None ↦ refuse s (Refusals.NoBlob blob) | Some b ↦ f b ]

abbrev pub Sized : Store → Bool → Refusal → ℕ → Answered
Sized s t r n = elim (if t then Some r else None) [ Some x ↦ refuse s x | None ↦ (s, Outcomes.Size n) ]

sized : (s : Store) (t : Bool) (r : Refusal) (m n : ℕ) → (Sized s t r m).1 ≡ Outcomes.Size n → (t ≡ false) × (m ≡ n)
sized s true r m n e = absurd (let no : ⊥ = cc in no)
sized s false r m n e = (refl, (let same : m ≡ n = cc in same))

pub record IsOpen (s : Store) (blob version n : ℕ) : Type 0 where
  pub b : Blob
  pub there : blob_at s blob ≡ Some b
  pub published : nat_lt (published b) version ≡ false
  pub size : size_of b.updates version ≡ n

pub opened_by : (s : Store) (blob version n : ℕ) (o : Option Blob) → blob_at s blob ≡ o
    → (In s blob o (λ b. Sized s (nat_lt (published b) version) (Refusals.NotPublished version (published b)) (size_of b.updates version))).1 ≡ Outcomes.Size n → IsOpen s blob version n
opened_by s blob version n None is e = absurd (let no : ⊥ = cc in no)
opened_by s blob version n (Some b) is e =
    let d = sized s (nat_lt (published b) version) (Refusals.NotPublished version (published b)) (size_of b.updates version) n e in
    record { b = b; there = is; published = d.0; size = d.1 }

read_taken : (s : Store) (blob version offset count : ℕ) (b : Blob) → blob_at s blob ≡ Some b → nat_lt (published b) version ≡ false → nat_lt (size_of b.updates version) (offset + count) ≡ false
    → (answer s 0 (Calls.Read blob version offset count)).1 ≡ Outcomes.Content (bytes_of b version offset count)
read_taken s blob version offset count b is open' fits =
    ap (λ (a : Answered). a.1) (in_blob_here s blob b _ is) ∙ rw (open', fits) refl

within : (size end : ℕ) → end ≤ size → nat_lt size end ≡ false
within size end le = grind (arith, nat_tests, le)

pub within_back : (size end : ℕ) → nat_lt size end ≡ false → end ≤ size
within_back size end e = grind (arith, nat_tests, e)

pub reading : StoresAgree → ReadsAreSteps
reading agree f before now w caller blob version offset count s a opened fits =
    let st : Store = store_of f.limits (events before) in
    let o : IsOpen st blob version (size_now s) = opened_by st blob version (size_now s) (blob_at st blob) refl opened.done in
    let le : offset + count ≤ size_of o.b.updates version = omega (arith, fits, o.size) in
    let ok : IsAllowed f.page_size w (Moves.Read blob version offset count) =
    rw (agree f before w a) (ap is_refused (read_taken st blob version offset count o.b o.there o.published (within (size_of o.b.updates version) (offset + count) le))) in
    subst (λ (h : List (ℕ × Event)). IsStep f w (Moves.Read blob version offset count) h) (sym opened.same) (quiet_step f before w (Moves.Read blob version offset count) a ok refl)

same_content : (a b : List ℕ) → Outcomes.Content a ≡ Outcomes.Content b → a ≡ b
same_content a b e = cc

visits_same : (p : ℕ) (old new : List Update) (later : List Update) (v o n : ℕ) (xs : List Extent) → new ≡ old ++ later → v ≤ length old → xs ≡ take v (extents old)
    → visits p (extents new) v o n ≡ visits p xs v o n
visits_same p old new later v o n xs is le told =
    let (rest, e) = extents_grow old later in
    let count : length (take v (extents old)) ≡ v = length-take-le v (extents old) (omega (arith, le, length-extents old)) in
    let V : List Extent → ℕ = λ l. visits p l v o n in
    let stay : (us more : List Extent) → v ≤ length us → V (us ++ more) ≡ V us = λ us more h. (rows_stay p v us more h).4 o n in
    ap (λ (l : List Update). V (extents l)) is ∙ ap V e
    ∙ stay (extents old) rest (omega (arith, le, length-extents old))
    ∙ ap V (sym (take-append-drop v (extents old)))
    ∙ stay (take v (extents old)) (drop v (extents old)) (omega (arith, count))
    ∙ ap V (sym told)

pub walking : OldVersionsStay → PublishedAreNumbered → StoresAgree → ReachedStays → WalksAgree
walking old_stay numbered agree reached f before now more w caller blob version offset count s b opened fits a there =
    let p : ℕ = f.page_size in
    let st : Store = store_of f.limits (events before) in
    let o : IsOpen st blob version (size_now s) = opened_by st blob version (size_now s) (blob_at st blob) refl opened.done in
    let history : events (now ++ more) ≡ events before ++ events more =
    map-append (λ (x : ℕ × Event). x.1) now more ∙ ap (λ (h : List (ℕ × Event)). events h ++ events more) opened.same in
    let (new, is, stays) = old_stay f.limits (events before) (events more) blob o.b o.there in
    let here : blob_at w.store blob ≡ Some new =
    ap (λ (x : Store). blob_at x blob) (agree f (now ++ more) w a) ∙ ap (λ (l : List Event). blob_at (store_of f.limits l) blob) history ∙ is in
    let both : Some b ≡ Some new = sym there ∙ here in
    let same : b ≡ new = cc in
    let updates : b.updates ≡ o.b.updates ++ stays.later = ap (λ (x : Blob). x.updates) same ∙ stays.updates in
    let upto : version ≤ published o.b = within_back (published o.b) version o.published in
    let le : version ≤ assigned o.b = omega (arith, upto, numbered f.limits (events before) blob o.b o.there) in
    let flat : content b.updates version ≡ content o.b.updates version = ap (λ (x : Blob). content x.updates version) same ∙ stays.content version le in
    let long : published b ≡ published new = ap published same in
    let open' : nat_lt (published b) version ≡ false = within (published b) version (omega (arith, upto, stays.published, long)) in
    let size : size_of b.updates version ≡ size_of o.b.updates version = ap length flat in
    let small : nat_lt (size_of b.updates version) (offset + count) ≡ false = within (size_of b.updates version) (offset + count) (omega (arith, fits, o.size, size)) in
    let said : (answer w.store 0 (Calls.Read blob version offset count)).1 ≡ Outcomes.Content (bytes_of b version offset count) =
    read_taken w.store blob version offset count b there open' small in
    let walk = (reached p w (worlds_are_reached f (now ++ more) w a)).reads blob version offset count b (ap is_refused said) there in
    let bytes : (read_walk p w blob b version offset count).bytes ≡ bytes_of b version offset count =
    same_content (read_walk p w blob b version offset count).bytes (bytes_of b version offset count) (sym walk.0 ∙ said) in
    let rows : length s.rows ≡ version = opened.snapshot.rows in
    let us : updates_or_none (blob_at st blob) ≡ o.b.updates = ap updates_or_none o.there in
    let told : content (updates_of s) version ≡ content o.b.updates version =
    ap (λ (v : ℕ). content (updates_of s) v) (sym rows) ∙ opened.snapshot.tells.leave (length s.rows) (omega arith)
    ∙ ap (λ (v : ℕ). content (updates_or_none (blob_at st blob)) v) rows ∙ ap (λ (l : List Update). content l version) us in
    let cut : count ≡ (offset + count) - offset = omega arith in
    let falls : extents (updates_of s) ≡ take version (extents o.b.updates) =
    opened.snapshot.tells.fall ∙ ap (λ (v : ℕ). take v (extents (updates_or_none (blob_at st blob)))) rows ∙ ap (λ (l : List Update). take version (extents l)) us in
    let bounded : visits p (extents b.updates) version offset count ≡ bound s offset count =
    visits_same p o.b.updates b.updates stays.later version offset count (extents (updates_of s)) updates le falls
    ∙ ap (λ (v : ℕ). visits p (extents (updates_of s)) v offset count) (sym rows)
    ∙ ap (λ (q : ℕ). visits q (extents (updates_of s)) (length s.rows) offset count) (sym opened.snapshot.page_size) in (
      bytes
          ∙ ap (λ (c : List ℕ). take count (drop offset c)) (flat ∙ sym told)
          ∙ ap (λ (n : ℕ). take n (drop offset (content (updates_of s) version))) cut
          ∙ ap (λ (v : ℕ). slice_range (content (updates_of s) v) offset (offset + count)) (sym rows),
      omega (arith, walk.1, bounded),
    )
