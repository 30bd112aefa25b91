-- There is always a run with nobody else there, in which nothing outside fails, and no memory is wanting where the tickets are numbered.
use Rattle.std.proofs.Common.{◌≡◌, ℕ, ◌+◌, ◌-◌, ◌≤◌, ◌==◌, nat_lt, Bool, true, false, if◌then◌else◌, List, [], ◌∷◌, ◌++◌, length, refl, sym, ◌∙◌, ap, subst, append-nil, zero-add, arith}
use Rattle.std.specs.Prelude.{Option, Some, None, IfSome}
use Rattle.std.proofs.lemmas.Bool.{false≢true}
use Rattle.std.proofs.lemmas.Bool.Decides.{nat_tests}
use Rattle.blob_model.specs.Content.{offset_of}
use Rattle.blob_model.specs.Store.{Store, Blob, blob_at, empty_store, assigned, published, size_now, size_with, is_finished}
use Rattle.blob_model.specs.Answer.{Answered, answer, refuse, bytes_of}
use Rattle.blob_model.specs.History.{IsNumbered, store_of}
use Rattle.blob_model.specs.Limits.{Bounds}
use Rattle.blob_model.specs.Laws.{OldVersionsStay}
use Rattle.blob_model.proofs.Stays.{store_from-append}
use Rattle.range_log.specs.Updates.{extents}
use Rattle.range_log.specs.Rows.{folds_of}
use Rattle.blob_model.specs.declared.call.Event.{Event}
use Rattle.blob_model.specs.declared.call.Event.TheVariants as Events
use Rattle.blob_model.specs.declared.call.Place.{Place}
use Rattle.blob_model.specs.declared.call.Place.TheVariants.{WriteAt, Append}
use Rattle.blob_model.specs.declared.call.Call.{Call}
use Rattle.blob_model.specs.declared.call.Call.TheVariants as Calls
use Rattle.blob_model.specs.declared.call.Outcome.{Outcome}
use Rattle.blob_model.specs.declared.call.Outcome.TheVariants as Outcomes
use Rattle.blob_model.specs.declared.call.Refusal.{Refusal}
use Rattle.blob_model.specs.declared.call.Refusal.TheVariants as Refusals
use Rattle.request_form.specs.declared.form.Request.{Request}
use Rattle.request_form.specs.declared.form.Request.TheVariants as Requests
use Rattle.request_form.specs.declared.form.Reply.{Reply}
use Rattle.request_form.specs.declared.form.Reply.TheVariants as Replies
use Rattle.request_form.specs.declared.form.Heard.{Heard}
use Rattle.request_form.specs.declared.form.Heard.TheVariants.{Asked, Wrong}
use Rattle.request_form.specs.declared.form.Fault.{Fault}
use Rattle.request_form.specs.declared.form.Fault.TheVariants as Faults
use Rattle.request_form.specs.Session.{Fixed, Session, HeldTicket, store_at, outcome_at, sees, holds, ticket_at, IsNobody}
use Rattle.request_form.specs.Replies.{fault_of, reply_of, added_reply, update_reply, start_reply, page_faults, fault_count}
use Rattle.request_form.specs.Stream.{AllWellHeard}
use Rattle.request_form.specs.Turns.{Tickets, Turn, tells, refuses, with_tickets, and_made}
use Rattle.request_form.specs.Answers.{Class, class_of, is_waiting_in, update_fault, read_fault, ranges_fault, update_faults, class_faults, max_read, max_tickets}
use Rattle.request_form.specs.HangUp.{AllNumbered}
use Rattle.request_form.specs.Transcript.{item_faults, faults_of, starves, NoneStarves}
use Rattle.request_form.proofs.Numbered.{IsLast, all_numbered_later, numbered_more, numbered_without, numbered_let_go, numbered_at, last_numbered}
use Rattle.request_form.proofs.Told.{Told, told, after, after_numbering, add_turn, read_turn, many_turn, range_turn, any, finish_tests, finish_turn, report_turn, repair_turn, start_turn, whole_tests, whole_turn, update_told, held_told, unless, class_told, request_told, replies_told, last_told, told_is}

-- ---- what a store answers, by whether it refuses
data Shape (done said : Outcome) : Type 0 where
  made : said ≡ done → Shape done said
  refused : (r : Refusal) → said ≡ Outcomes.Refused r → Shape done said

data InBlob (s : Store) (blob : ℕ) (tells : Blob → Outcome) (said : Outcome) : Type 0 where
  made : (b : Blob) → blob_at s blob ≡ Some b → said ≡ tells b → InBlob s blob tells said
  refused : (r : Refusal) → said ≡ Outcomes.Refused r → InBlob s blob tells said

unless_shape : (s : Store) (o : Option Refusal) (done : Answered) → Shape done.1 (let a : Answered = elim o [ Some r ↦ refuse s r | None ↦ done ] in a).1
unless_shape s (Some r) done = Shape.refused r refl
unless_shape s None done = Shape.made refl

in_made : (s : Store) (blob : ℕ) (b : Blob) (tells : Blob → Outcome) (said : Outcome) → blob_at s blob ≡ Some b → Shape (tells b) said → InBlob s blob tells said
in_made s blob b tells said at (Shape.made e) = InBlob.made b at e
in_made s blob b tells said at (Shape.refused r e) = InBlob.refused r e

in_blob_shape : (s : Store) (blob : ℕ) (o : Option Blob) (f : Blob → Answered) (tells : Blob → Outcome) → blob_at s blob ≡ o → ((b : Blob) → Shape (tells b) (f b).1)
    → InBlob s blob tells (let a : Answered = elim o [ None ↦ refuse s (Refusals.NoBlob blob) | Some b ↦ f b ] in a).1
in_blob_shape s blob None f tells at g = InBlob.refused (Refusals.NoBlob blob) refl
in_blob_shape s blob (Some b) f tells at g = in_made s blob b tells (f b).1 at (g b)

module _ (s : Store) (caller : ℕ) where
  create_shape : Shape (Outcomes.Blob (length s.blobs + 1)) (answer s caller Calls.Create).1
  create_shape = unless_shape s _ _

  assign_shape : (blob : ℕ) (place : Place) (bytes : List ℕ)
      → InBlob s blob (λ b. Outcomes.Assigned (assigned b + 1) (offset_of place (size_now b)) (size_with b place bytes)) (answer s caller (Calls.Assign blob place bytes)).1
  assign_shape blob place bytes = in_blob_shape s blob (blob_at s blob) _ _ refl (λ b. unless_shape s _ _)

  branch_shape : (blob version : ℕ) → InBlob s blob (λ b. Outcomes.Blob (length s.blobs + 1)) (answer s caller (Calls.Branch blob version)).1
  branch_shape blob version = in_blob_shape s blob (blob_at s blob) _ _ refl (λ b. unless_shape s _ _)

  read_shape : (blob version offset count : ℕ) → InBlob s blob (λ b. Outcomes.Content (bytes_of b version offset count)) (answer s caller (Calls.Read blob version offset count)).1
  read_shape blob version offset count = in_blob_shape s blob (blob_at s blob) _ _ refl (λ b. unless_shape s _ _)

-- ---- faults that are none of the outside, nor of memory
abbrev IsMild : Fault → Type 0
IsMild fault = (page_faults fault ≡ 0) × (starves (Replies.Refused fault) ≡ false)

refusal_mild : (r : Refusal) → IsMild (fault_of r)
refusal_mild (Refusals.NoBlob blob) = (refl, refl)
refusal_mild (Refusals.NotPublished version published) = (refl, refl)
refusal_mild (Refusals.OffsetPastSize offset size) = (refl, refl)
refusal_mild (Refusals.BlobTooBig end limit) = (refl, refl)
refusal_mild (Refusals.TooManyVersions limit) = (refl, refl)
refusal_mild (Refusals.TooManyOpen limit) = (refl, refl)
refusal_mild (Refusals.TooManyBlobs limit) = (refl, refl)
refusal_mild (Refusals.Already version) = (refl, refl)
refusal_mild (Refusals.RangePastSize end size) = (refl, refl)
refusal_mild (Refusals.Pending version held) = (refl, refl)

outcome_mild : (o : Outcome) → (fault_count (reply_of o) ≡ 0) × (starves (reply_of o) ≡ false)
outcome_mild (Outcomes.Refused r) = refusal_mild r
outcome_mild _ = (refl, refl)

abbrev MildIf : Option Fault → Type 0
MildIf o = IfSome o IsMild

mild_if : (b : Bool) (fault : Fault) (o : Option Fault) → IsMild fault → MildIf o → MildIf (if b then Some fault else o)
mild_if true fault o h k = h
mild_if false fault o h k = k

update_mild : (s : Session) (bytes : List ℕ) → MildIf (update_fault s bytes)
update_mild s bytes =
    mild_if (length bytes == 0) _ _ (refl, refl) (mild_if (nat_lt s.limit (length bytes)) _ _ (refl, refl) (mild_if (length s.tickets == max_tickets) _ _ (refl, refl) tt))

read_mild : (count : ℕ) → MildIf (read_fault count)
read_mild count = mild_if (nat_lt max_read count) _ _ (refl, refl) tt

ranges_mild : (sum : ℕ) (ranges : List (ℕ × ℕ)) → MildIf (ranges_fault sum ranges)
ranges_mild sum [] = tt
ranges_mild sum (range ∷ ranges) = mild_if (nat_lt max_read (sum + range.1)) _ _ (refl, refl) (ranges_mild (sum + range.1) ranges)

-- ---- what is told, for which the outside didn't fail, and, where the tickets are numbered, no memory was wanting
abbrev pub now : Session → Store
now s = store_of s.fixed.limits s.seen

abbrev AreNumbered : Session → Type 0
AreNumbered s = AllNumbered (now s) s.tickets

record Good (s : Session) (count : Session → Reply → ℕ) (t : Told) : Type 0 where
  pub calm : count t.next t.reply ≡ 0
  pub fed : AreNumbered s → starves t.reply ≡ false
  pub numbered : AreNumbered s → AreNumbered t.next

-- a ticket that is held next is of a version that is numbered by then
abbrev HeldIsNumbered : Store → Tickets → Type 0
HeldIsNumbered store (Tickets.hold blob version) = IsNumbered (blob_at store blob) version
HeldIsNumbered store _ = Unit {0}

record GoodTurn (s : Session) (turn : Turn) : Type 0 where
  pub calm : fault_count turn.said ≡ 0
  pub fed : AreNumbered s → starves turn.said ≡ false
  pub held : HeldIsNumbered (store_of s.fixed.limits (s.seen ++ and_made [] turn.made)) turn.tickets

-- the counts of faults that a reply alone tells
abbrev counted : Session → Reply → ℕ
counted next reply = fault_count reply

same_good : (s next : Session) (count : Session → Reply → ℕ) (reply : Reply) → next.seen ≡ s.seen → next.fixed ≡ s.fixed → next.tickets ≡ s.tickets → count next reply ≡ 0 → starves reply ≡ false
    → Good s count (told reply next)
same_good s next count reply seen fixed tickets calm fed = record {
  calm = calm;
  fed = λ all. fed;
  numbered = λ all.
      subst (λ (l : List HeldTicket). AllNumbered (now next) l) (sym tickets)
      (subst (λ (l : List Event). AllNumbered (store_of next.fixed.limits l) s.tickets) (sym seen)
      (subst (λ (b : Bounds). AllNumbered (store_of b s.seen) s.tickets) (sym (ap (λ (f : Fixed). f.limits) fixed)) all));
}

unless_good : (o : Option Fault) (s : Session) (count : Session → Reply → ℕ) (t : Told) → MildIf o → ((fault : Fault) → count s (Replies.Refused fault) ≡ page_faults fault)
    → Good s count t → Good s count (unless o s t)
unless_good (Some fault) s count t mild counts good = same_good s s count (Replies.Refused fault) refl refl refl (counts fault ∙ mild.0) mild.1
unless_good None s count t mild counts good = good

not_below : (n version : ℕ) → version ≡ n → nat_lt n (version - 1) ≡ false
not_below n version e = grind (arith, nat_tests)

not_above : (n version : ℕ) → version ≤ n → nat_lt n version ≡ true → ⊥
not_above n version le lt = grind (arith, nat_tests)

-- a ticket's version is there
there_numbered : (o : Option Blob) (version : ℕ) → IsNumbered o version → (o ≡ None → ⊥) × ((b : Blob) → o ≡ Some b → nat_lt (assigned b) version ≡ true → ⊥)
there_numbered None version n = absurd n
there_numbered (Some c) version n =
    ((λ none. (let never : ⊥ = cc in never)), (λ b same low. (let is : c ≡ b = cc in not_above (assigned b) version (subst (λ (x : Blob). version ≤ assigned x) is n.1) low)))

-- the replies to updates
start_calm : (place : Place) (ticket version at size : ℕ) → (fault_count (start_reply place ticket version at size) ≡ 0) × (starves (start_reply place ticket version at size) ≡ false)
start_calm Append ticket version at size = (refl, refl)
start_calm (WriteAt offset) ticket version at size = (refl, refl)

whole_calm : (next : Session) (blob : ℕ) (place : Place) (version at size : ℕ)
    → (update_faults next blob (update_reply place version at size) ≡ 0) × (starves (update_reply place version at size) ≡ false)
whole_calm next blob Append version at size = (refl, refl)
whole_calm next blob (WriteAt offset) version at size = (refl, refl)

held_calm : (next : Session) (blob : ℕ) (place : Place) (ticket version at size : ℕ) → is_waiting_in (store_at next []) blob (version - 1) ≡ true
    → update_faults next blob (start_reply place ticket version at size) ≡ 0
held_calm next blob Append ticket version at size waits = ap (λ (t : Bool). (let n : ℕ = if t then 0 else 1 in n)) waits
held_calm next blob (WriteAt offset) ticket version at size waits = ap (λ (t : Bool). (let n : ℕ = if t then 0 else 1 in n)) waits

-- a class that some request has
abbrev IsOfRequest : Class → Type 0
IsOfRequest (Class.adds Calls.Create) = Unit {0}
IsOfRequest (Class.adds (Calls.Branch blob version)) = Unit {0}
IsOfRequest (Class.adds _) = ⊥
IsOfRequest _ = Unit {0}

of_request : (request : Request) → IsOfRequest (class_of request)
of_request Requests.Create = tt
of_request (Requests.Branch blob version) = tt
of_request _ = tt

refused_good : (s : Session) (refusal : Refusal) → GoodTurn s (tells (Replies.Refused (fault_of refusal)))
refused_good s refusal = record { calm = (refusal_mild refusal).0; fed = λ all. (refusal_mild refusal).1; held = tt }

module _ (stay : OldVersionsStay) (s : Session) where
  later_numbered : (t : Tickets) (more : List Event) → HeldIsNumbered (store_of s.fixed.limits (s.seen ++ more)) t → AreNumbered s → AreNumbered (with_tickets t (sees s more))
  later_numbered Tickets.stay more held all = all_numbered_later stay s.fixed.limits s.seen more (s.seen ++ more) s.tickets refl all
  later_numbered (Tickets.hold blob version) more held all =
      numbered_more (store_of s.fixed.limits (s.seen ++ more)) s.tickets _ (all_numbered_later stay s.fixed.limits s.seen more (s.seen ++ more) s.tickets refl all) held
  later_numbered (Tickets.drop number) more held all =
      numbered_without (store_of s.fixed.limits (s.seen ++ more)) s.tickets number (all_numbered_later stay s.fixed.limits s.seen more (s.seen ++ more) s.tickets refl all)
  later_numbered (Tickets.let_go blob version) more held all =
      numbered_let_go (store_of s.fixed.limits (s.seen ++ more)) s.tickets blob version (all_numbered_later stay s.fixed.limits s.seen more (s.seen ++ more) s.tickets refl all)

  turn_good : (turn : Turn) → GoodTurn s turn → Good s counted (after s turn)
  turn_good turn good = record { calm = good.calm; fed = good.fed; numbered = later_numbered turn.tickets (and_made [] turn.made) good.held }

  -- ---- looks, reads and new blobs
  add_by : (call : Call) (blob : ℕ) → Shape (Outcomes.Blob blob) (outcome_at s [] call) → fault_count (added_reply call blob) ≡ 0 → starves (added_reply call blob) ≡ false
      → GoodTurn s (add_turn s call (outcome_at s [] call))
  add_by call blob (Shape.made e) calm fed = subst (λ (o : Outcome). GoodTurn s (add_turn s call o)) (sym e) (record { calm = calm; fed = λ all. fed; held = tt })
  add_by call blob (Shape.refused r e) calm fed = subst (λ (o : Outcome). GoodTurn s (add_turn s call o)) (sym e) (refused_good s r)

  branch_by : (blob version : ℕ) (tells : Blob → ℕ) → InBlob (store_at s []) blob (λ b. Outcomes.Blob (tells b)) (outcome_at s [] (Calls.Branch blob version))
      → GoodTurn s (add_turn s (Calls.Branch blob version) (outcome_at s [] (Calls.Branch blob version)))
  branch_by blob version tells (InBlob.made b at e) = add_by (Calls.Branch blob version) (tells b) (Shape.made e) refl refl
  branch_by blob version tells (InBlob.refused r e) = add_by (Calls.Branch blob version) 0 (Shape.refused r e) refl refl

  read_by : (blob version offset count : ℕ) → InBlob (store_at s []) blob (λ b. Outcomes.Content (bytes_of b version offset count)) (outcome_at s [] (Calls.Read blob version offset count))
      → GoodTurn s (read_turn (outcome_at s [] (Calls.Read blob version offset count)))
  read_by blob version offset count (InBlob.made b at e) = subst (λ (o : Outcome). GoodTurn s (read_turn o)) (sym e) (record { calm = refl; fed = λ all. refl; held = tt })
  read_by blob version offset count (InBlob.refused r e) = subst (λ (o : Outcome). GoodTurn s (read_turn o)) (sym e) (refused_good s r)

  range_by : (blob version : ℕ) (range : ℕ × ℕ) (ranges : List (ℕ × ℕ)) (bytes : List ℕ) (tells : Blob → List ℕ)
      → InBlob (store_at s []) blob (λ b. Outcomes.Content (tells b)) (outcome_at s [] (Calls.Read blob version range.0 range.1))
      → ((more : List ℕ) → GoodTurn s (many_turn s blob version ranges more)) → GoodTurn s (many_turn s blob version (range ∷ ranges) bytes)
  range_by blob version range ranges bytes tells (InBlob.made b at e) goes = subst (λ (o : Outcome). GoodTurn s (range_turn s blob version ranges bytes o)) (sym e) (goes (bytes ++ tells b))
  range_by blob version range ranges bytes tells (InBlob.refused r e) goes = subst (λ (o : Outcome). GoodTurn s (range_turn s blob version ranges bytes o)) (sym e) (refused_good s r)

  many_good : (blob version : ℕ) (ranges : List (ℕ × ℕ)) (bytes : List ℕ) → GoodTurn s (many_turn s blob version ranges bytes)
  many_good blob version [] bytes = record { calm = refl; fed = λ all. refl; held = tt }
  many_good blob version (range ∷ ranges) bytes =
      range_by blob version range ranges bytes _ (read_shape (store_at s []) s.caller blob version range.0 range.1) (λ more. many_good blob version ranges more)

  -- ---- finishes, which change the tickets in a way that holds none
  module _ (blob version : ℕ) (says : ℕ → Reply) (settled hindered : Tickets) (missing : Refusal → Turn)
      (calm : (n : ℕ) → fault_count (says n) ≡ 0) (fed : (n : ℕ) → starves (says n) ≡ false)
      (first : (store : Store) → HeldIsNumbered store settled) (second : (store : Store) → HeldIsNumbered store hindered) where
    tests_good : (b : Blob) (low done early : Bool) (pages : List ℕ) → (low ≡ true → GoodTurn s (missing (Refusals.NotPublished version (published b))))
        → GoodTurn s (finish_tests s blob version says settled hindered missing b low done (let t : Bool = elim early [ true ↦ any pages | false ↦ false ] in t))
    tests_good b true done early pages misses = misses refl
    tests_good b false true early pages misses = record { calm = refl; fed = λ all. refl; held = first (store_of s.fixed.limits (s.seen ++ [])) }
    tests_good b false false true [] misses = record { calm = calm _; fed = λ all. fed _; held = first (store_of s.fixed.limits (s.seen ++ Events.Finish s.caller blob version ∷ [])) }
    tests_good b false false true (page ∷ pages) misses = record { calm = refl; fed = λ all. refl; held = second (store_of s.fixed.limits (s.seen ++ [])) }
    tests_good b false false false pages misses = record { calm = calm _; fed = λ all. fed _; held = first (store_of s.fixed.limits (s.seen ++ Events.Finish s.caller blob version ∷ [])) }

    finish_good : (o : Option Blob) → (o ≡ None → GoodTurn s (missing (Refusals.NoBlob blob)))
        → ((b : Blob) → o ≡ Some b → nat_lt (assigned b) version ≡ true → GoodTurn s (missing (Refusals.NotPublished version (published b))))
        → GoodTurn s (finish_turn s blob version says settled hindered missing o)
    finish_good None misses low = misses refl
    finish_good (Some b) misses low =
        tests_good b (nat_lt (assigned b) version) (is_finished b version) (nat_lt (published b) (version - 1)) (folds_of s.fixed.page (extents b.updates) version) (low b refl)

  repair_good : (blob version : ℕ) → GoodTurn s (repair_turn s blob version)
  repair_good blob version =
      finish_good blob version (λ n. Replies.Repaired n) (Tickets.let_go blob version) Tickets.stay (λ refusal. refuses (fault_of refusal)) (λ n. refl) (λ n. refl) (λ store. tt)
      (λ store. tt) (blob_at (store_at s []) blob)
      (λ none. refused_good s (Refusals.NoBlob blob)) (λ b at low. refused_good s (Refusals.NotPublished version (published b)))

  -- of a ticket that is held, the version is numbered
  report_by : (ticket : HeldTicket) (o : Option Blob) → (AreNumbered s → IsNumbered o ticket.version)
      → GoodTurn s (finish_turn s ticket.blob ticket.version (λ n. Replies.Finished n) (Tickets.drop ticket.number) Tickets.stay (λ refusal. refuses Faults.NoMemory) o)
  report_by ticket o there =
      finish_good ticket.blob ticket.version (λ n. Replies.Finished n) (Tickets.drop ticket.number) Tickets.stay (λ refusal. refuses Faults.NoMemory) (λ n. refl) (λ n. refl) (λ store. tt)
      (λ store. tt) o
      (λ none. record { calm = refl; fed = λ all. absurd ((there_numbered o ticket.version (there all)).0 none); held = tt })
      (λ b at low. record { calm = refl; fed = λ all. absurd ((there_numbered o ticket.version (there all)).1 b at low); held = tt })

  report_good : (number : ℕ) (ticket : HeldTicket) → ticket_at s.tickets number ≡ Some ticket → Good s counted (after s (report_turn s ticket))
  report_good number ticket held =
      let good : GoodTurn s (report_turn s ticket) =
      report_by ticket (blob_at (store_at s []) ticket.blob)
      (λ all. subst (λ (l : List Event). IsNumbered (blob_at (store_of s.fixed.limits l) ticket.blob) ticket.version) (sym (append-nil s.seen)) (numbered_at (now s) s.tickets number ticket all held)) in
      turn_good (report_turn s ticket) good

  -- ---- updates
  was_there : (blob : ℕ) (place : Place) (bytes : List ℕ) (version at size : ℕ) → outcome_at s [] (Calls.Assign blob place bytes) ≡ Outcomes.Assigned version at size
      → IsLast (store_at s (Events.Assign s.caller blob place bytes ∷ [])) blob version
  was_there blob place bytes version at size e =
      let now_is : (answer (now s) s.caller (Calls.Assign blob place bytes)).1 ≡ Outcomes.Assigned version at size =
      subst (λ (l : List Event). (answer (store_of s.fixed.limits l) s.caller (Calls.Assign blob place bytes)).1 ≡ Outcomes.Assigned version at size) (append-nil s.seen) e in
      subst (λ (st : Store). IsLast st blob version) (sym (store_from-append (empty_store s.fixed.limits) s.seen (Events.Assign s.caller blob place bytes ∷ [])))
      (last_numbered (now s) s.caller blob place bytes version at size now_is)

  last_is_numbered : (store : Store) (blob version : ℕ) → IsLast store blob version → 1 ≤ version → IsNumbered (blob_at store blob) version
  last_is_numbered store blob version (b, there, is) some = subst (λ (o : Option Blob). IsNumbered o version) (sym there) (some, (let le : version ≤ assigned b = omega (arith, is) in le))

  -- where it is started, and where it is finished or held back
  start_by : (blob : ℕ) (place : Place) (bytes : List ℕ) (v a z : Blob → ℕ) → ((b : Blob) → 1 ≤ v b)
      → InBlob (store_at s []) blob (λ b. Outcomes.Assigned (v b) (a b) (z b)) (outcome_at s [] (Calls.Assign blob place bytes))
      → GoodTurn s (start_turn s blob place bytes (outcome_at s [] (Calls.Assign blob place bytes)))
  start_by blob place bytes v a z some (InBlob.made b at e) =
      let last : IsLast (store_at s (Events.Assign s.caller blob place bytes ∷ [])) blob (v b) = was_there blob place bytes (v b) (a b) (z b) e in
      subst (λ (o : Outcome). GoodTurn s (start_turn s blob place bytes o)) (sym e) (record {
        calm = (start_calm place s.next (v b) (a b) (z b)).0;
        fed = λ all. (start_calm place s.next (v b) (a b) (z b)).1;
        held = last_is_numbered (store_at s (Events.Assign s.caller blob place bytes ∷ [])) blob (v b) last (some b);
      })
  start_by blob place bytes v a z some (InBlob.refused r e) = subst (λ (o : Outcome). GoodTurn s (start_turn s blob place bytes o)) (sym e) (refused_good s r)

  module _ (blob : ℕ) (place : Place) (bytes : List ℕ) (version at size : ℕ) where
    abbrev front : List Event
    front = Events.Assign s.caller blob place bytes ∷ []

    abbrev Fine : Turn → Type 0
    Fine turn = Good s (λ (next : Session) (r : Reply). update_faults next blob r) (after_numbering s (Events.Assign s.caller blob place bytes) turn)

    finished_fine : Fine (record { said = update_reply place version at size; made = Events.Finish s.caller blob version ∷ []; tickets = Tickets.stay })
    finished_fine = record {
      calm = (whole_calm (sees s (Events.Assign s.caller blob place bytes ∷ Events.Finish s.caller blob version ∷ [])) blob place version at size).0;
      fed = λ all. (whole_calm s blob place version at size).1;
      numbered = later_numbered Tickets.stay (Events.Assign s.caller blob place bytes ∷ Events.Finish s.caller blob version ∷ []) tt;
    }

    -- by the blob's marks, where this is its last version
    tests_fine : (b : Blob) (low early : Bool) (pages : List ℕ) → blob_at (store_at s front) blob ≡ Some b → low ≡ false → nat_lt (published b) (version - 1) ≡ early
        → IsNumbered (blob_at (store_at s front) blob) version → Fine (whole_tests s blob place version at size low (let t : Bool = elim early [ true ↦ any pages | false ↦ false ] in t))
    tests_fine b true early pages there none is n = absurd (false≢true (sym none))
    tests_fine b false true [] there none is n = finished_fine
    tests_fine b false true (page ∷ pages) there none is n =
        let next : Session = holds (sees s front) blob version in
        let still : blob_at (store_at next []) blob ≡ Some b =
        subst (λ (l : List Event). blob_at (store_of s.fixed.limits l) blob ≡ Some b) (sym (append-nil (s.seen ++ front))) there in
        let waits : is_waiting_in (store_at next []) blob (version - 1) ≡ true =
        ap (λ (o : Option Blob). (let t : Bool = elim o [ None ↦ false | Some b ↦ nat_lt (published b) (version - 1) ] in t)) still ∙ is in
        record {
          calm = held_calm next blob place s.next version at size waits;
          fed = λ all. (start_calm place s.next version at size).1;
          numbered = later_numbered (Tickets.hold blob version) front n;
        }
    tests_fine b false false pages there none is n = finished_fine

    whole_fine : IsLast (store_at s front) blob version → 1 ≤ version → Fine (whole_turn s blob place version at size (blob_at (store_at s front) blob))
    whole_fine last some =
        let b : Blob = last.0 in
        let low : nat_lt (assigned b) (version - 1) ≡ false = not_below (assigned b) version last.2 in
        subst (λ (o : Option Blob). Fine (whole_turn s blob place version at size o)) (sym last.1)
        (tests_fine b (nat_lt (assigned b) (version - 1)) (nat_lt (published b) (version - 1)) (folds_of s.fixed.page (extents b.updates) version) last.1 low refl
        (last_is_numbered (store_at s front) blob version last some))

  update_by : (blob : ℕ) (place : Place) (bytes : List ℕ) (v a z : Blob → ℕ) → ((b : Blob) → 1 ≤ v b)
      → InBlob (store_at s []) blob (λ b. Outcomes.Assigned (v b) (a b) (z b)) (outcome_at s [] (Calls.Assign blob place bytes))
      → Good s (λ (next : Session) (r : Reply). update_faults next blob r) (update_told s blob place bytes (outcome_at s [] (Calls.Assign blob place bytes)))
  update_by blob place bytes v a z some (InBlob.made b at e) =
      subst (λ (o : Outcome). Good s (λ (next : Session) (r : Reply). update_faults next blob r) (update_told s blob place bytes o)) (sym e)
      (whole_fine blob place bytes (v b) (a b) (z b) (was_there blob place bytes (v b) (a b) (z b) e) (some b))
  update_by blob place bytes v a z some (InBlob.refused r e) =
      subst (λ (o : Outcome). Good s (λ (next : Session) (r : Reply). update_faults next blob r) (update_told s blob place bytes o)) (sym e)
      (record { calm = (refusal_mild r).0; fed = λ all. (refusal_mild r).1; numbered = later_numbered Tickets.stay [] tt })

  -- ---- each request
  abbrev ClassGood : Class → Type 0
  ClassGood c = Good s (λ (next : Session) (r : Reply). class_faults next c r) (class_told s c)

  held_good : (number : ℕ) (o : Option HeldTicket) → ticket_at s.tickets number ≡ o → Good s counted (held_told s number o)
  held_good number None held = same_good s s counted (Replies.Refused (Faults.NoTicket number)) refl refl refl refl refl
  held_good number (Some ticket) held = report_good number ticket held

  class_good : (c : Class) → IsOfRequest c → ClassGood c
  class_good Class.greets is = same_good s _ counted (Replies.HelloIs 2) refl refl refl refl refl
  class_good Class.quits is = same_good s _ counted Replies.Bye refl refl refl refl refl
  class_good (Class.looks call) is =
      let mild = outcome_mild (outcome_at s [] call) in
      turn_good (tells (reply_of (outcome_at s [] call))) (record { calm = mild.0; fed = λ all. mild.1; held = tt })
  class_good (Class.adds Calls.Create) is = turn_good _ (add_by Calls.Create _ (create_shape (store_at s []) s.caller) refl refl)
  class_good (Class.adds (Calls.Branch blob version)) is = turn_good _ (branch_by blob version _ (branch_shape (store_at s []) s.caller blob version))
  class_good (Class.adds _) none = absurd none
  class_good (Class.reads blob version offset count) is =
      unless_good (read_fault count) s _ _ (read_mild count) (λ fault. refl) (turn_good _ (read_by blob version offset count (read_shape (store_at s []) s.caller blob version offset count)))
  class_good (Class.reads_many blob version ranges) is = unless_good (ranges_fault 0 ranges) s _ _ (ranges_mild 0 ranges) (λ fault. refl) (turn_good _ (many_good blob version ranges []))
  class_good (Class.starts blob place bytes) is =
      unless_good (update_fault s bytes) s _ _ (update_mild s bytes) (λ fault. refl)
      (turn_good _ (start_by blob place bytes _ _ _ (λ b. (let le : 1 ≤ assigned b + 1 = omega arith in le)) (assign_shape (store_at s []) s.caller blob place bytes)))
  class_good (Class.updates blob place bytes) is =
      unless_good (update_fault s bytes) s _ _ (update_mild s bytes) (λ fault. refl)
      (update_by blob place bytes _ _ _ (λ b. (let le : 1 ≤ assigned b + 1 = omega arith in le)) (assign_shape (store_at s []) s.caller blob place bytes))
  class_good (Class.reports number) is = held_good number (ticket_at s.tickets number) refl
  class_good (Class.repairs blob version) is = turn_good _ (repair_good blob version)

-- ---- and each list of items
module _ (stay : OldVersionsStay) where
  pub all_calm : (s : Session) (items : List Heard) → AllWellHeard items → faults_of IsNobody s items (replies_told s items) (last_told s items) (told_is s items) ≡ 0
  unfolding told_is
  all_calm s [] well = refl
  all_calm s (Asked request ∷ items) well =
      let t : Told = request_told s request in
      let first : item_faults t.next (Asked request) t.reply ≡ 0 = (class_good stay s (class_of request) (of_request request)).calm in
      rw first (rw (zero-add (faults_of IsNobody t.next items (replies_told t.next items) (last_told t.next items) (told_is t.next items))) (all_calm t.next items well.1))
  all_calm s (Wrong fault ∷ items) well =
      let first : item_faults s (Wrong fault) (Replies.Refused fault) ≡ 0 = well.0 in
      rw first (rw (zero-add (faults_of IsNobody s items (replies_told s items) (last_told s items) (told_is s items))) (all_calm s items well.1))

  pub all_fed : (s : Session) (items : List Heard) → AllNumbered (now s) s.tickets → NoneStarves items (replies_told s items)
  all_fed s [] all = tt
  all_fed s (Asked request ∷ items) all =
      let good = class_good stay s (class_of request) (of_request request) in
      (good.fed all, all_fed (request_told s request).next items (good.numbered all))
  all_fed s (Wrong fault ∷ items) all = all_fed s items all
