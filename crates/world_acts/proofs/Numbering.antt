-- The turn of a numbering is a step, and the world keeps its ticket's hints.
use Rattle.std.proofs.Common.{◌≡◌, ℕ, ◌+◌, ◌-◌, ◌<◌, ◌≤◌, zero, suc, false, List, [], ◌∷◌, ◌++◌, length, take, drop, get_or, refl, sym, ap, subst, ◌∙◌, arith, append-nil}
use Rattle.std.specs.Prelude.{Option, Some, None, Result, Ok, Err, IfOk, reverse}
use Rattle.std.proofs.lemmas.List.{reverse-append, length-drop, length-take-le, get_or-drop}
use Rattle.std.proofs.Math.Seq.{take-length}
use Rattle.blob_model.specs.Content.{offset_of}
use Rattle.blob_model.specs.Store.{Store, Blob, blob_at, assigned, published, size_now, size_with}
use Rattle.blob_model.specs.Answer.{Answered, answer, refuse}
use Rattle.blob_model.specs.History.{is_refused, store_of}
use Rattle.blob_model.specs.declared.call.Call.TheVariants as Calls
use Rattle.blob_model.specs.declared.call.Event.{Event}
use Rattle.blob_model.specs.declared.call.Event.TheVariants as Events
use Rattle.blob_model.specs.declared.call.Outcome.TheVariants as Outcomes
use Rattle.blob_model.specs.declared.call.Place.{Place}
use Rattle.blob_model.specs.declared.call.Refusal.{Refusal}
use Rattle.tree_geom.specs.declared.touch.Touch.{Touch}
use Rattle.tree_geom.specs.Geometry.{no_touch}
use Rattle.range_log.specs.declared.«open».OpenTouch.{OpenTouch}
use Rattle.range_log.specs.Log.{touch_at}
use Rattle.range_log.specs.Extents.{touches}
use Rattle.range_log.specs.Updates.{extents}
use Rattle.range_log.proofs.Bytes.{length-extents}
use Rattle.range_log.proofs.Grown.{length-touches}
use Rattle.page_store.specs.Stored.{Cut, bytes_of_pages}
use Rattle.border_hints.specs.Numbered.{NumberedUpdate}
use Rattle.publisher.specs.Windows.{opens_from}
use Rattle.publisher.proofs.Opens.{open_as, opens_push}
use Rattle.blob_core.specs.World.{World, UpdateEntry, kept_at, same_update, log_of, waiting_after}
use Rattle.blob_core.specs.World.{bytes_of_pages as bytes_in_world}
use Rattle.blob_core.specs.Steps.{after, next_kept}
use Rattle.blob_core.specs.declared.world.UpdateKey.{UpdateKey}
use Rattle.blob_core.specs.declared.step.Step.TheVariants as Moves
use Rattle.blob_core.proofs.Lists.{entry_new, update_itself}
use Rattle.blob_core.proofs.Taken.{assign_done}
use Rattle.version_manager.specs.declared.fault.DeskFault.{DeskFault}
use Rattle.version_manager.specs.declared.journal.DeskFixed.{DeskFixed}
use Rattle.version_manager.specs.Desks.{updates_or_none, published_or_none}
use Rattle.version_manager.specs.Log.{Changed, IsNewTicket, events}
use Rattle.version_manager.specs.Origins.{origin_in}
use Rattle.version_manager.proofs.Stores.{in_blob_here}
use Rattle.world_acts.specs.Worlds.{IsWorldOf, StoresAgree}
use Rattle.world_acts.specs.Turns.{KeepsHints, IsKeptTicket, NumberingsAreSteps}
use Rattle.world_acts.proofs.Turns.{turn, accepted}
use Rattle.world_acts.proofs.Pages.{joined_is, cut_is}
use Rattle.world_acts.proofs.Owning.{waiting_own}

-- ---- hints, the newest first and the oldest first
take_last : {X : Type 0} (xs : List X) (n : ℕ) (d : X) → n < length xs → take (suc n) xs ≡ take n xs ++ get_or xs n d ∷ []
take_last [] n d lt = absurd (omega (arith, lt))
take_last (x ∷ xs) zero d lt = refl
take_last (x ∷ xs) (suc n) d lt = ap (λ l. x ∷ l) (take_last xs n d (omega (arith, lt)))

reversed : (log : List Touch) (v n : ℕ) → n ≤ length (drop v log) → waiting_after log v n ≡ reverse (opens_from (v + 1) (take n (drop v log)))
reversed log v zero le = refl
reversed log v (suc n) le =
    let xs : List Touch = drop v log in
    let t : Touch = touch_at log (suc (v + n)) in
    let count : length (take n xs) ≡ n = length-take-le n xs (omega (arith, le)) in
    let taken : take (suc n) xs ≡ take n xs ++ t ∷ [] =
    take_last xs n no_touch (omega (arith, le)) ∙ ap (λ (x : Touch). take n xs ++ x ∷ []) (get_or-drop v log n no_touch) in
    ap (λ (l : List OpenTouch). open_as (suc (v + n)) t ∷ l) (reversed log v n (omega (arith, le)))
    ∙ sym (reverse-append (opens_from (v + 1) (take n xs)) (open_as (suc (v + n)) t ∷ []))
    ∙ ap (λ (l : List OpenTouch). reverse l) (sym (opens_push (v + 1) (suc (v + n)) (take n xs) t (omega (arith, count))))
    ∙ ap (λ (l : List Touch). reverse (opens_from (v + 1) l)) (sym taken)

waiting_is : (p : ℕ) (b : Blob) (v : ℕ) → waiting_after (log_of p b.updates) v (assigned b - v) ≡ reverse (opens_from (v + 1) (drop v (log_of p b.updates)))
waiting_is p b v =
    let log : List Touch = log_of p b.updates in
    let all : length log ≡ assigned b = length-touches p (extents b.updates) ∙ length-extents b.updates in
    let rest : assigned b - v ≡ length (drop v log) = omega (arith, length-drop v log, all) in
    reversed log v (assigned b - v) (omega (arith, rest))
    ∙ ap (λ (n : ℕ). reverse (opens_from (v + 1) (take n (drop v log)))) rest
    ∙ ap (λ (l : List Touch). reverse (opens_from (v + 1) l)) (take-length (drop v log))

-- ---- what the store said
unless_done : (s : Store) (o : Option Refusal) (done : Answered) → is_refused (let a : Answered = elim o [ Some r ↦ refuse s r | None ↦ done ] in a).1 ≡ false
    → (let a : Answered = elim o [ Some r ↦ refuse s r | None ↦ done ] in a) ≡ done
unless_done s (Some r) done e = absurd (let no : ⊥ = cc in no)
unless_done s None done e = refl

assign_said : (s : Store) (caller blob : ℕ) (place : Place) (bytes : List ℕ) (b : Blob) → blob_at s blob ≡ Some b → is_refused (answer s caller (Calls.Assign blob place bytes)).1 ≡ false
    → (answer s caller (Calls.Assign blob place bytes)).1 ≡ Outcomes.Assigned (assigned b + 1) (offset_of place (size_now b)) (size_with b place bytes)
assign_said s caller blob place bytes b is ok =
    let here = in_blob_here s blob b _ is in
    ap (λ (a : Answered). a.1) (here ∙ unless_done s _ _ (sym (ap (λ (a : Answered). is_refused a.1) here) ∙ ok))

abbrev entry_of : List ℕ → ℕ → List OpenTouch → UpdateEntry
entry_of numbers v waiting = record { pages = numbers; published = v; waiting = waiting }

-- ---- the ticket
module _ (agree : StoresAgree) (f : DeskFixed) (before now : List (ℕ × Event)) (w : World) (caller blob : ℕ) (place : Place) (pages : Cut) (numbers : List ℕ) (a : IsWorldOf f before w) where
  kept_next : (t : NumberedUpdate) (b : Blob) → blob_at w.store blob ≡ Some b → assigned b + 1 ≡ t.version → IsNewTicket f blob caller pages before now t
      → KeepsHints (after f.page_size w (Moves.Assign caller blob place numbers)) numbers t
  kept_next t b is version new =
      let p : ℕ = f.page_size in
      let key : UpdateKey = record { blob = blob; version = assigned b + 1 } in
      let With : Option Blob → List (UpdateKey × UpdateEntry) = λ o. elim o [ None ↦ w.updates | Some x ↦ (record { blob = blob; version = assigned x + 1 }, next_kept p x numbers) ∷ w.updates ] in
      let there : blob_at (store_of f.limits (events before)) blob ≡ Some b = ap (λ (s : Store). blob_at s blob) (sym (agree f before w a)) ∙ is in
      let Opens : Option Blob → List OpenTouch = λ o. opens_from (published_or_none o + 1) (drop (published_or_none o) (touches p (extents (updates_or_none o)))) in
      let waiting : t.waiting ≡ opens_from (published b + 1) (drop (published b) (log_of p b.updates)) = new.hints.waiting ∙ ap Opens there in
      let rows : length t.snapshot.rows ≡ published b = new.hints.rows ∙ ap published_or_none there in
      let At : ℕ → ℕ → Option UpdateEntry = λ i v. kept_at (With (blob_at w.store blob)) i v in
      ap (λ (i : ℕ). At i t.version) new.blob_is
      ∙ ap (λ (v : ℕ). At blob v) (sym version)
      ∙ ap (λ (o : Option Blob). kept_at (With o) blob (assigned b + 1)) is
      ∙ entry_new same_update w.updates key (next_kept p b numbers) (update_itself key)
      ∙ ap (λ (l : List OpenTouch). Some (entry_of numbers (published b) l)) (waiting_is p b (published b) ∙ ap (λ (l : List OpenTouch). reverse l) (sym waiting))
      ∙ ap (λ (v : ℕ). Some (entry_of numbers v (reverse t.waiting))) (sym rows)

  ticket_numbered : (said : Result NumberedUpdate DeskFault)
      → Changed f (Calls.Assign blob place (bytes_of_pages pages.pages)) (Events.Assign caller blob place (bytes_of_pages pages.pages))
      (λ t. Outcomes.Assigned t.version t.at t.size) (λ fault. fault) before caller said now
      → IfOk said (λ t. IsNewTicket f blob caller pages before now t) → IfOk said (λ t. IsKeptTicket (after f.page_size w (Moves.Assign caller blob place numbers)) numbers now t)
  ticket_numbered (Err e) c new = tt
  ticket_numbered (Ok t) c new =
      let bytes : List ℕ = bytes_of_pages pages.pages in
      let goes = (accepted agree f before now w (Events.Assign caller blob place bytes) a c.log_after c.added).accepted in
      let (b, is, fits, done) = assign_done w.store caller blob place bytes goes in
      let told : Outcomes.Assigned (assigned b + 1) (offset_of place (size_now b)) (size_with b place bytes) ≡ Outcomes.Assigned t.version t.at t.size =
      sym (assign_said w.store caller blob place bytes b is goes) ∙ ap (λ (s : Store). (answer s caller (Calls.Assign blob place bytes)).1) (agree f before w a) ∙ c.done in
      let version : assigned b + 1 ≡ t.version = cc in
      let own : origin_in (events now) blob t.version ≡ blob =
      subst (λ (h : List (ℕ × Event)). origin_in (events h) blob t.version ≡ blob) (append-nil now) (waiting_own f now [] blob t.version c.log_after new.unfinished) in
      record {
        hints = kept_next t b is version new;
        own = record { some = new.unfinished.some; own = subst (λ (i : ℕ). origin_in (events now) i t.version ≡ i) (sym new.blob_is) own };
      }

pub numbering : StoresAgree → NumberingsAreSteps
numbering agree f before now w caller blob place pages numbers said a may cut are c new =
    let joined : bytes_in_world w.pages numbers ≡ bytes_of_pages pages.pages = joined_is w.pages numbers pages.pages are in
    let Taken : List ℕ → Type 0 = λ bytes. is_refused (answer w.store caller (Calls.Assign blob place bytes)).1 ≡ false in (
      turn agree f before now w caller _ (Events.Assign caller blob place (bytes_of_pages pages.pages)) _ _ said (Moves.Assign caller blob place numbers) a c
          (ap (λ (bytes : List ℕ). Events.Assign caller blob place bytes ∷ []) joined)
          (λ x. (cut_is f.page_size w.pages numbers pages.pages are cut may.some, subst Taken (sym joined) x.accepted)),
      ticket_numbered agree f before now w caller blob place pages numbers a said c new,
    )
