-- What a look at the recent version and its opening give.
use Rattle.std.proofs.Common.{◌≡◌, ℕ, ◌≤◌, Bool, true, false, List, [], ◌∷◌, ◌++◌, Option, Some, None, Result, refl, ap, sym, ◌∙◌, subst, arith, append_assoc}
use Rattle.std.specs.Prelude.{nat_lt}
use Rattle.std.proofs.lemmas.Bool.Decides.{nat_tests}
use Rattle.std.proofs.lemmas.List.{map-append}
use Rattle.blob_model.specs.Content.{size_of}
use Rattle.blob_model.specs.Store.{Store, Blob, blob_at, published}
use Rattle.blob_model.specs.Answer.{Answered, answer, refuse, unless_refused, not_published}
use Rattle.blob_model.specs.History.{AllOther, store_of}
use Rattle.blob_model.specs.Laws.{OldVersionsStay}
use Rattle.blob_model.specs.declared.call.Call.TheVariants as Calls
use Rattle.blob_model.specs.declared.call.Event.{Event}
use Rattle.blob_model.specs.declared.call.Outcome.{Outcome}
use Rattle.blob_model.specs.declared.call.Outcome.TheVariants as Outcomes
use Rattle.blob_model.specs.declared.call.Refusal.{Refusal}
use Rattle.blob_model.specs.declared.call.Refusal.TheVariants as Refusals
use Rattle.snapshot.specs.Versions.{Version, size_now}
use Rattle.version_manager.specs.Desks.{published_or_none, OnRefused}
use Rattle.version_manager.specs.Log.{IsSnapshotOf, events, outcome_in}
use Rattle.version_manager.specs.declared.journal.DeskFixed.{DeskFixed}
use Rattle.version_manager.specs.declared.fault.DeskFault.{DeskFault}
use Rattle.version_manager.specs.declared.fault.DeskFault.TheVariants as DeskFaults
use Rattle.request_form.specs.Session.{Session, sees}
use Rattle.request_form.specs.Answers.{LookAnswer}
use Rattle.request_form.specs.Replies.{reply_of, fault_of}
use Rattle.request_form.specs.declared.form.Fault.{Fault}
use Rattle.request_form.specs.declared.form.Fault.TheVariants as Faults
use Rattle.client_session.specs.Results.{desk_fault}
use Rattle.client_session.specs.Opening.{Opening, NotOpened}
use Rattle.client_session.specs.Sessions.{SessionState, StoreState, session_of, Continues}
use Rattle.client_session.proofs.Turns.{seen_gap}
use Rattle.read_board.specs.Refreshing.{Holds, HasLooked, IsRecent, IsNotThere}
use Rattle.request_form.proofs.Looks.{other-append}

sees_on : (s : Session) (a b : List Event) → sees (sees s a) b ≡ sees s (a ++ b)
sees_on s a b = ap (λ (h : List Event). record { fixed = s.fixed; caller = s.caller; seen = h; tickets = s.tickets; next = s.next; limit = s.limit }) (append_assoc s.seen a b)

-- ---- what a store answers of the recent version, and of a version's size
abbrev recent_of : Option Blob → ℕ → Store → Answered
recent_of o blob s = elim o [ None ↦ refuse s (Refusals.NoBlob blob) | Some b ↦ (s, Outcomes.Recent (published b) (size_of b.updates (published b))) ]

abbrev pub sized_of : Option Blob → ℕ → ℕ → Store → Answered
sized_of o blob version s =
    elim o [ None ↦ refuse s (Refusals.NoBlob blob) | Some b ↦ unless_refused s (not_published b version ∷ []) (s, Outcomes.Size (size_of b.updates version)) ]

recent_version : (o : Option Blob) (blob v n : ℕ) (s : Store) → reply_of (Outcomes.Recent v n) ≡ reply_of (recent_of o blob s).1 → (b : Blob) × (o ≡ Some b) × (v ≡ published b)
recent_version None blob v n s e = absurd (cc (e))
recent_version (Some b) blob v n s e = (b, refl, cc (e))

recent_refused : (o : Option Blob) (blob : ℕ) (r : Refusal) (s : Store) → reply_of (Outcomes.Refused r) ≡ reply_of (recent_of o blob s).1 → (o ≡ None) × (fault_of r ≡ Faults.NoBlob blob)
recent_refused None blob r s e = (refl, cc (e))
recent_refused (Some b) blob r s e = absurd (cc (e))

passes : (s : Store) (x : Bool) (r : Refusal) (n m : ℕ) → (unless_refused s (record { refuses = x; refusal = r } ∷ []) (s, Outcomes.Size n)).1 ≡ Outcomes.Size m → x ≡ false
passes s true r n m e = absurd (cc (e))
passes s false r n m e = refl

passed : (s : Store) (x : Bool) (r r' : Refusal) (n : ℕ) → x ≡ false → (unless_refused s (record { refuses = x; refusal = r } ∷ []) (s, Outcomes.Size n)).1 ≡ Outcomes.Refused r' → ⊥
passed s true r r' n is e = absurd (cc (is))
passed s false r r' n is e = absurd (cc (e))

size_some : (o : Option Blob) (blob v n : ℕ) (s : Store) → (sized_of o blob v s).1 ≡ Outcomes.Size n → (b : Blob) × (o ≡ Some b)
size_some None blob v n s e = absurd (cc (e))
size_some (Some b) blob v n s e = (b, refl)

pub size_not_refused : (o : Option Blob) (b : Blob) (blob v : ℕ) (r : Refusal) (s : Store) → o ≡ Some b → v ≤ published b → (sized_of o blob v s).1 ≡ Outcomes.Refused r → ⊥
size_not_refused None b blob v r s is le e = absurd (cc (is))
size_not_refused (Some c) b blob v r s is le e =
    let same : c ≡ b = cc (is) in
    let le' : v ≤ published c = subst (λ (x : Blob). v ≤ published x) (sym same) le in
    let no : nat_lt (published c) v ≡ false = grind (arith, nat_tests, le') in
    passed s (nat_lt (published c) v) (Refusals.NotPublished v (published c)) r (size_of c.updates v) no e

-- where the size of a version is told the blob is there, and the version is published
sized_there : (o : Option Blob) (blob v n : ℕ) (s : Store) → (sized_of o blob v s).1 ≡ Outcomes.Size n → (v ≤ published_or_none o) × (b : Blob) × (o ≡ Some b)
sized_there None blob v n s e = absurd (cc (e))
sized_there (Some b) blob v n s e =
    let no = passes s (nat_lt (published b) v) (Refusals.NotPublished v (published b)) (size_of b.updates v) n e in
    (grind (arith, nat_tests, no), b, refl)

-- the refresh of a version that was opened holds its updates
pub holds_opened : (f : DeskFixed) (log : List (ℕ × Event)) (caller blob v : ℕ) (snapshot : Version) → outcome_in f log caller (Calls.Size blob v) ≡ Outcomes.Size (size_now snapshot)
    → IsSnapshotOf f log blob v snapshot → Holds f log (record { blob = blob; snapshot = snapshot })
holds_opened f log caller blob v snapshot done is =
    let known = sized_there (blob_at (store_of f.limits (events log)) blob) blob v (size_now snapshot) (store_of f.limits (events log)) done in
    record { there = (known.1, known.2); published = omega (arith, is.rows, known.0); tells = is.tells }

-- ---- the two turns of a refresh
module _ {D : Type 0} (s s1 : SessionState D) (blob : ℕ) where
  pub look : (said : Outcome) → LookAnswer AllOther (session_of s) (Calls.Recent blob) (reply_of said) (session_of s1) → s1 ≡ record s { log = s1.log; turns = s1.turns } → HasLooked s s1
  look said a rest = record { others = a.others; is_gap = a.is_gap; seen = a.seen; rest = rest }

  -- the store that the first turn saw
  seen_store : (said : Outcome) → (a : LookAnswer AllOther (session_of s) (Calls.Recent blob) (reply_of said) (session_of s1))
      → reply_of said ≡ reply_of (recent_of (blob_at (store_of s.store.fixed.limits (events s1.log)) blob) blob (store_of s.store.fixed.limits (events s1.log))).1
  seen_store said a =
      let now : events s1.log ≡ events s.log ++ a.others = ap (λ (x : Session). x.seen) a.seen in
      a.said ∙ ap (λ (h : List Event). reply_of (answer (store_of s.store.fixed.limits h) s.caller (Calls.Recent blob)).1) (sym now)

  pub not_there : (r : Refusal) → Continues s s1 → LookAnswer AllOther (session_of s) (Calls.Recent blob) (reply_of (Outcomes.Refused r)) (session_of s1) → IsNotThere s1 blob (fault_of r)
  not_there r on a =
      let (none, is) = recent_refused (blob_at (store_of s.store.fixed.limits (events s1.log)) blob) blob r (store_of s.store.fixed.limits (events s1.log)) (seen_store (Outcomes.Refused r) a) in
      IsNotThere.no_blob is (ap (λ (st : StoreState). blob_at (store_of st.fixed.limits (events s1.log)) blob) on.store ∙ none)

  module _ (v n : ℕ) (on : Continues s s1) (a : LookAnswer AllOther (session_of s) (Calls.Recent blob) (reply_of (Outcomes.Recent v n)) (session_of s1)) (s2 : SessionState D) (said : Result Version Fault)
      (o : Opening s1 blob v said s2) where
    pub then_opened : s1 ≡ record s { log = s1.log; turns = s1.turns } → HasLooked s s2
    then_opened rest = record {
      others = a.others ++ events o.gap;
      is_gap = other-append s.caller a.others (events o.gap) a.is_gap (subst (λ (k : ℕ). AllOther k (events o.gap)) on.caller o.others);
      seen = ap (λ (x : SessionState D). session_of x) o.same
          ∙ (seen_gap s1.store.fixed s1.caller s1.log s2.log o.gap s1.held s1.next s1.limit o.log ∙ (ap (λ (x : Session). sees x (events o.gap)) a.seen ∙ sees_on (session_of s) a.others (events o.gap)));
      rest = o.same ∙ ap (λ (x : SessionState D). record x { log = s2.log; turns = s2.turns }) rest;
    }

    there : (b : Blob) × (blob_at (store_of s.store.fixed.limits (events s1.log)) blob ≡ Some b) × (v ≡ published b)
    there = recent_version (blob_at (store_of s.store.fixed.limits (events s1.log)) blob) blob v n (store_of s.store.fixed.limits (events s1.log)) (seen_store (Outcomes.Recent v n) a)

    pub is_recent : IsRecent s s2 blob v
    is_recent =
        let (b, here, is) = there in
        record { mid = s1.log; begins = on.begins; goes_on = (o.gap, o.log); is = is ∙ ap published_or_none (sym here) }

    pub not_opened : OldVersionsStay → (fault : Fault) → NotOpened s1.store.fixed s2.log s1.caller blob v fault → IsNotThere s2 blob fault
    not_opened stay fault why = refused_case why.why why.said why.refused
      where
        refused_case : (d : DeskFault) → fault ≡ desk_fault d → OnRefused d (λ refusal. outcome_in s1.store.fixed s2.log s1.caller (Calls.Size blob v) ≡ Outcomes.Refused refusal) → IsNotThere s2 blob fault
        refused_case DeskFaults.NoMemory is e = IsNotThere.no_memory is
        refused_case (DeskFaults.Refused r) is e =
            let (b, here, v_is) = there in
            let f = s.store.fixed in
            let (new, now, stays) = stay f.limits (events s1.log) (events o.gap) blob b here in
            let log_is : events s2.log ≡ events s1.log ++ events o.gap = ap events o.log ∙ map-append (λ (x : ℕ × Event). x.1) s1.log o.gap in
            let fixed_is : s1.store.fixed ≡ f = ap (λ (st : StoreState). st.fixed) on.store in
            let at : blob_at (store_of s1.store.fixed.limits (events s2.log)) blob ≡ Some new =
            ap (λ (g : DeskFixed). blob_at (store_of g.limits (events s2.log)) blob) fixed_is ∙ (ap (λ (h : List Event). blob_at (store_of f.limits h) blob) log_is ∙ now)
            in
            absurd (size_not_refused (blob_at (store_of s1.store.fixed.limits (events s2.log)) blob) new blob v r (store_of s1.store.fixed.limits (events s2.log)) at (omega (arith, v_is, stays.published)) e)
