-- What a read by the board tells of the store.
use Rattle.std.proofs.Common.{◌≡◌, ℕ, ◌+◌, ◌<◌, ◌≤◌, nat_lt, Bool, true, false, if◌then◌else◌, List, [], ◌∷◌, length, take, drop, Option, Some, None, Result, Ok, Err, refl, ap, sym, ◌∙◌, subst, arith, slice_get, inl, inr}
use Rattle.std.specs.Prelude.{nat_le}
use Rattle.std.proofs.lemmas.Bool.Decides.{nat_tests}
use Rattle.std.proofs.lemmas.Option.{slice_get_within, get_or_from_slice_get}
use mathlib.Core.List.{IsPrefix}
use Rattle.blob_model.specs.Content.{Update, content, size_of}
use Rattle.blob_model.specs.Store.{Store, Blob, blob_at, assigned, published}
use Rattle.blob_model.specs.Answer.{Answered, refuse, unless_refused, not_published, range_past_size, bytes_of}
use Rattle.blob_model.specs.History.{store_of}
use Rattle.blob_model.specs.Laws.{OldVersionsStay, PublishedAreNumbered}
use Rattle.blob_model.specs.declared.call.Event.{Event}
use Rattle.blob_model.specs.declared.call.Outcome.{Outcome}
use Rattle.blob_model.specs.declared.call.Outcome.TheVariants as Outcomes
use Rattle.blob_model.specs.declared.call.Refusal.{Refusal}
use Rattle.blob_model.specs.declared.call.Refusal.TheVariants as Refusals
use Rattle.version_manager.specs.Desks.{updates_or_none, published_or_none}
use Rattle.version_manager.specs.Log.{events}
use Rattle.version_manager.specs.declared.journal.DeskFixed.{DeskFixed}
use Rattle.request_form.specs.PublishedReads.{Range, Tells, read_outcome}
use Rattle.request_form.specs.Replies.{reply_of}
use Rattle.request_form.specs.declared.form.Fault.{Fault}
use Rattle.request_form.specs.declared.form.Fault.TheVariants as Faults
use Rattle.request_form.specs.declared.form.Reply.TheVariants as Replies
use Rattle.client_session.specs.Opening.{ReadsRange, RangeCause}
use Rattle.client_session.specs.Results.{read_reply}
use Rattle.read_board.specs.declared.refresh.Refresh.{Refresh}
use Rattle.read_board.specs.Refreshes.{version_of, updates_of, on_board, covering}
use Rattle.read_board.specs.Refreshing.{Holds, AllHold}
use Rattle.read_board.specs.Reads.{goes_by}
use Rattle.read_board.specs.Telling.{ReadsByList, IsMoment, BoardReadsTell, BoardReadsAgree}
use Rattle.read_board.proofs.Agreeing.{on_stands, get_front}
use Rattle.request_form.proofs.PublishedReads.{not_below}

-- ---- the refresh by which a read goes holds in the history
covered : (o : Option Refresh) (version : ℕ) (on : Refresh) → covering o version ≡ Some on → (o ≡ Some on) × (version ≤ version_of on)
covered None version on is = absurd (cc (is))
covered (Some e) version on is = covered_case e version on (nat_le version (version_of e)) refl is
  where
    covered_case : (e : Refresh) (version : ℕ) (on : Refresh) (b : Bool) → nat_le version (version_of e) ≡ b → (if b then Some e else None) ≡ Some on → (◌≡◌ {A = Option Refresh} (Some e) (Some on)) × (version ≤ version_of on)
    covered_case e version on true le is =
        let same : e ≡ on = cc (is) in
        let within : version ≤ version_of e = grind (arith, nat_tests, le) in
        (is, subst (λ (r : Refresh). version ≤ version_of r) same within)
    covered_case e version on false le is = absurd (cc (is))

went : (place : Bool) (list : List Refresh) (blob version : ℕ) (on : Refresh) → goes_by place list blob version ≡ Some on → (on_board blob list ≡ Some on) × (version ≤ version_of on)
went true list blob version on is = covered (on_board blob list) version on is
went false list blob version on is = absurd (cc (is))

-- what stands in a list is among all, and holds
held_by : (f : DeskFixed) (log : List (ℕ × Event)) (all list : List Refresh) (blob : ℕ) (on : Refresh) → AllHold f log all → IsPrefix list all → on_board blob list ≡ Some on → Holds f log on × (on.blob ≡ blob)
held_by f log all list blob on hold begins is =
    let (i, at, same) = on_stands blob list on is in
    let there : slice_get all i ≡ Some on = subst (λ (l : List Refresh). slice_get l i ≡ Some on) begins.1 (get_front list begins.0 i on at) in
    (subst (Holds f log) (get_or_from_slice_get all i on on there) (hold i on (slice_get_within all i on there)), same)

below : (a b : ℕ) → a < b → nat_lt a b ≡ true
below a b lt = grind (arith, nat_tests)

-- of a test that passes and another
passes : (store : Store) (t u : Bool) (q r : Refusal) (done : Answered) → t ≡ false
    → (unless_refused store (record { refuses = t; refusal = q } ∷ record { refuses = u; refusal = r } ∷ []) done).1 ≡ (if u then Outcomes.Refused r else done.1)
passes store true u q r done e = absurd (cc (e))
passes store false true q r done e = refl
passes store false false q r done e = refl

module _ (store : Store) (range : Range) where
  abbrev size_in : Blob → ℕ
  size_in b = size_of b.updates range.version

  abbrev read_of : Option Blob → Answered
  read_of o = elim o [
    | None ↦ refuse store (Refusals.NoBlob range.blob)
    | Some b ↦
        unless_refused store (not_published b range.version ∷ range_past_size b range.version range.offset range.count ∷ []) (store, Outcomes.Content (bytes_of b range.version range.offset range.count))
  ]

  past_or_content : Bool → Blob → Outcome
  past_or_content u b = if u then Outcomes.Refused (Refusals.RangePastSize (range.offset + range.count) (size_in b)) else Outcomes.Content (bytes_of b range.version range.offset range.count)

  read_is : (b : Blob) → range.version ≤ published b → (u : Bool) → nat_lt (size_in b) (range.offset + range.count) ≡ u → (read_of (Some b)).1 ≡ past_or_content u b
  unfolding past_or_content
  read_is b le u is =
      passes store (nat_lt (published b) range.version) (nat_lt (size_in b) (range.offset + range.count)) _ _ _ (not_below (published b) range.version le)
      ∙ ap (λ (x : Bool). if x then Outcomes.Refused (Refusals.RangePastSize (range.offset + range.count) (size_in b)) else Outcomes.Content (bytes_of b range.version range.offset range.count)) is

  module _ (p : ℕ) (us : List Update) where
    told_case : (b : Blob) → range.version ≤ published b → content us range.version ≡ content b.updates range.version → (said : Result (List ℕ) Fault) → ReadsRange p us range.version range.offset range.count said
        → Tells (read_of (Some b)).1 range.count (read_reply said)
    unfolding past_or_content
    told_case b le same (Ok bytes) reads =
        let within : range.offset + range.count ≤ size_in b = omega (arith, reads.within, ap length same) in
        let is = read_is b le false (not_below (size_in b) (range.offset + range.count) within) in
        let bytes_are : bytes ≡ bytes_of b range.version range.offset range.count = reads.bytes ∙ ap (λ (l : List ℕ). take range.count (drop range.offset l)) same in
        Tells.outcome_told (ap Replies.Content bytes_are ∙ ap reply_of (sym is))
    told_case b le same (Err fault) reads = cause_told fault reads.cause
      where
        cause_told : (fault : Fault) → RangeCause p us range.version range.offset range.count fault → Tells (read_of (Some b)).1 range.count (Replies.Refused fault)
        cause_told fault (RangeCause.too_long e long) = Tells.too_long (ap Replies.Refused e)
        cause_told fault (RangeCause.past e few past) =
            let size : size_of us range.version ≡ size_in b = ap length same in
            let is = read_is b le true (below (size_in b) (range.offset + range.count) (omega (arith, past, size))) in
            Tells.outcome_told (ap Replies.Refused (e ∙ ap (λ (n : ℕ). Faults.RangePastSize (range.offset + range.count) n) size) ∙ ap reply_of (sym is))
        cause_told fault (RangeCause.lost page e few within meets) = Tells.not_read page (ap Replies.Refused e)
        cause_told fault (RangeCause.no_memory e) = Tells.out_of_memory (ap Replies.Refused e)

    told_by : (o : Option Blob) (b : Blob) → o ≡ Some b → range.version ≤ published b → content us range.version ≡ content b.updates range.version → (said : Result (List ℕ) Fault)
        → ReadsRange p us range.version range.offset range.count said → Tells (read_of o).1 range.count (read_reply said)
    told_by None b is le same said reads = absurd (cc (is))
    told_by (Some x) b is le same said reads =
        let eq : x ≡ b = cc (is) in
        subst (λ (y : Blob). Tells (read_of (Some y)).1 range.count (read_reply said)) (sym eq) (told_case b le same said reads)

-- ---- in every history of the store
module _ (stay : OldVersionsStay) (numbered : PublishedAreNumbered) (f : DeskFixed) (log : List (ℕ × Event)) (range : Range) where
  abbrev at : List Event → Option Blob
  at history = blob_at (store_of f.limits history) range.blob

  -- the blob of a moment has the version with the same content
  moment : (b : Blob) → at (events log) ≡ Some b → range.version ≤ published b → (history : List Event) → IsMoment f (events log) range history
      → (x : Blob) × (at history ≡ Some x) × (range.version ≤ published x) × (content x.updates range.version ≡ content b.updates range.version)
  moment b here le history (more, inl later) =
      let (new, there, stays) = stay f.limits (events log) more range.blob b here in
      let few : range.version ≤ assigned b = omega (arith, numbered f.limits (events log) range.blob b here, le) in
      (new, ap at later ∙ there, omega (arith, le, stays.published), stays.content range.version few)
  moment b here le history (more, inr (earlier, (x, there, within))) =
      let (new, now, stays) = stay f.limits history more range.blob x there in
      let few : range.version ≤ assigned x = omega (arith, numbered f.limits history range.blob x there, within) in
      let same : new ≡ b = let e : Some new ≡ Some b = sym now ∙ (ap at (sym earlier) ∙ here) in cc (e) in
      (x, there, within, sym (stays.content range.version few) ∙ ap (λ (y : Blob). content y.updates range.version) same)

  pub read_tells : (all list : List Refresh) (said : Result (List ℕ) Fault) (history : List Event) → ReadsByList f log all list range said → IsMoment f (events log) range history
      → Tells (read_outcome (store_of f.limits history) range) range.count (read_reply said)
  read_tells all list said history r is =
      let (on, le) = went r.has_place list range.blob range.version r.on r.goes in
      let (holds, same) = held_by f log all list range.blob r.on r.hold r.begins on in
      let (b, there) = holds.there in
      let here : at (events log) ≡ Some b = ap (λ (k : ℕ). blob_at (store_of f.limits (events log)) k) (sym same) ∙ there in
      let published_is : published_or_none (blob_at (store_of f.limits (events log)) r.on.blob) ≡ published b = ap published_or_none there in
      let within : range.version ≤ published b = omega (arith, le, holds.published, published_is) in
      let (x, now, published_there, content_is) = moment b here within history is in
      let content_told : content (updates_of r.on) range.version ≡ content x.updates range.version =
      holds.tells.leave range.version le ∙ (ap (λ (o : Option Blob). content (updates_or_none o) range.version) there ∙ sym content_is)
      in
      told_by (store_of f.limits history) range f.page_size (updates_of r.on) (at history) x now published_there content_told said r.reads

pub board_reads_tell : OldVersionsStay → PublishedAreNumbered → BoardReadsTell
board_reads_tell stay numbered f log all list range said history r is = read_tells stay numbered f log range all list said history r is

content_of : (outcome : Outcome) (count : ℕ) (bytes : List ℕ) → Tells outcome count (Replies.Content bytes) → Replies.Content bytes ≡ reply_of outcome
content_of outcome count bytes (Tells.outcome_told e) = e
content_of outcome count bytes (Tells.too_long e) = absurd (cc (e))
content_of outcome count bytes (Tells.out_of_memory e) = absurd (cc (e))
content_of outcome count bytes (Tells.not_read page e) = absurd (cc (e))

pub board_reads_agree : OldVersionsStay → PublishedAreNumbered → BoardReadsAgree
board_reads_agree stay numbered f log all list range history bytes others r is turn =
    let outcome = read_outcome (store_of f.limits history) range in
    let mine = content_of outcome range.count bytes (read_tells stay numbered f log range all list (Ok bytes) history r is) in
    let theirs = content_of outcome range.count others turn in
    let same : Replies.Content bytes ≡ Replies.Content others = mine ∙ sym theirs in
    cc (same)
