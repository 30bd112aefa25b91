-- Sessions that begin, and passes that come back.
use Rattle.std.proofs.Common.{◌≡◌, ℕ, ◌+◌, ◌<◌, ◌^◌, List, [], ◌∷◌, ◌++◌, length, refl, sym, ap, subst, ◌∙◌, Contains, ◌-◌, ◌≤◌, min, arith}
use Rattle.std.proofs.lemmas.List.Elements.{Contains-append_left, Contains-push}
use Rattle.blob_model.specs.Limits.{Bounds, greatest}
use Rattle.blob_model.specs.History.{events_by, IsLegal}
use Rattle.blob_model.specs.declared.call.Event.{Event}
use Rattle.turn_lock.specs.History.{entries_by, Begins}
use Rattle.turn_lock.specs.Shown.{OwnerView}
use Rattle.client_session.specs.Sessions.{StoreState, IsOwnerOf, SessionState, session_of}
use Rattle.version_manager.specs.Desks.{DeskState}
use Rattle.version_manager.specs.Folds.{AreInOrder}
use Rattle.version_manager.specs.Log.{IsHistory, tag, tagged, events, fixed_of}
use Rattle.version_manager.specs.declared.journal.DeskFixed.{DeskFixed}
use Rattle.version_manager.specs.Laws.{EntriesAreEvents}
use Rattle.workload_law.specs.Sessions.{FinishesItsOwn}
use Rattle.workload_law.specs.Closing.{OwnsStay, IdleOwnsAll}
use Rattle.workload_run.specs.Callers.{CameBack, IsFresh}
use Rattle.store_sessions.specs.Made.{IsNewSession}
use Rattle.request_form.specs.Session.{Session}
use Rattle.request_form.specs.Answers.{max_update}
use Rattle.client_session.specs.Tickets.{OpenUpdate, tickets_of}
use Rattle.workload_run.specs.Making.{HasDoneOwn}

abbrev Entries : Type 0
Entries = List (ℕ × Event)

-- ---- entries and events

pub events_tagged : (es : List Event) → events (tagged es) ≡ es
events_tagged [] = refl
events_tagged (e ∷ es) = ap (λ (l : List Event). e ∷ l) (events_tagged es)

-- what a closed store's desk says of its history
pub closed_history : (d : DeskState) (f : DeskFixed) → fixed_of d ≡ f → f.limits ≡ greatest → IsLegal d.limits d.history → length d.history < 2 ^ 38 → AreInOrder d.page_size d.limits d.history
    → IsHistory f.page_size greatest d.history
closed_history d f is limits legal short in_order =
    let within : d.limits ≡ greatest = ap (λ (x : DeskFixed). x.limits) is ∙ limits in
    let page : d.page_size ≡ f.page_size = ap (λ (x : DeskFixed). x.page_size) is in
    record {
      legal = subst (λ (b : Bounds). IsLegal b d.history) within legal;
      short = short;
      in_order = subst (λ (p : ℕ). AreInOrder p greatest d.history) page (subst (λ (b : Bounds). AreInOrder d.page_size b d.history) within in_order);
    }

pub events_append : (xs ys : Entries) → events (xs ++ ys) ≡ events xs ++ events ys
events_append [] ys = refl
events_append (x ∷ xs) ys = ap (λ (l : List Event). x.1 ∷ l) (events_append xs ys)

head_of : (x y : ℕ × Event) (xs ys : Entries) → (x ∷ xs) ≡ (y ∷ ys) → x ≡ y
head_of x y xs ys e = cc

tail_of : (x y : ℕ × Event) (xs ys : Entries) → (x ∷ xs) ≡ (y ∷ ys) → xs ≡ ys
tail_of x y xs ys e = cc

pub tags_front : (xs ys : Entries) → xs ++ ys ≡ tagged (events (xs ++ ys)) → xs ≡ tagged (events xs)
tags_front [] ys e = refl
tags_front (x ∷ xs) ys e =
    let head : x ≡ tag x.1 = head_of x (tag x.1) (xs ++ ys) (tagged (events (xs ++ ys))) e in
    let tail : xs ++ ys ≡ tagged (events (xs ++ ys)) = tail_of x (tag x.1) (xs ++ ys) (tagged (events (xs ++ ys))) e in
    ap (λ (y : ℕ × Event). y ∷ xs) head ∙ ap (λ (l : Entries). tag x.1 ∷ l) (tags_front xs ys tail)

pub tags_of_front : (xs ys : Entries) → Begins xs ys → ys ≡ tagged (events ys) → xs ≡ tagged (events xs)
tags_of_front xs ys begins tags = tags_front xs begins.0 (subst (λ (l : Entries). l ≡ tagged (events l)) begins.1 tags)

-- a caller without entries has no events
pub none_by : EntriesAreEvents → (log : Entries) (caller : ℕ) → log ≡ tagged (events log) → entries_by caller log ≡ [] → events_by caller (events log) ≡ []
none_by are log caller tags none =
    sym (events_tagged (events_by caller (events log))) ∙ ap (λ (l : Entries). events l) (sym (are log caller tags) ∙ none)

-- the same entries are the same events
pub same_by : EntriesAreEvents → (xs ys : Entries) (caller : ℕ) → xs ≡ tagged (events xs) → ys ≡ tagged (events ys) → entries_by caller xs ≡ entries_by caller ys
    → events_by caller (events xs) ≡ events_by caller (events ys)
same_by are xs ys caller tags others same =
    sym (events_tagged (events_by caller (events xs))) ∙ (ap (λ (l : Entries). events l) (sym (are xs caller tags) ∙ (same ∙ are ys caller others)) ∙ events_tagged (events_by caller (events ys)))

-- ---- what came back

pub came_back : EntriesAreEvents → (caller : ℕ) (log seen : Entries) → seen ≡ tagged (events seen) → Begins log seen → entries_by caller seen ≡ entries_by caller log
    → CameBack caller (events log) (events seen)
came_back are caller log seen tags begins same = record {
  later = events begins.0;
  begins = ap (λ (l : Entries). events l) begins.1 ∙ events_append log begins.0;
  same = same_by are seen log caller tags (tags_of_front log seen begins tags) same;
}

-- its finishes stay its own
pub owns_back : OwnsStay → (limits : Bounds) (caller : ℕ) (seen history : List Event) → CameBack caller seen history → FinishesItsOwn limits seen caller → FinishesItsOwn limits history caller
owns_back stay limits caller seen history back own =
    subst (λ (h : List Event). FinishesItsOwn limits h caller) (sym back.begins)
    (stay limits caller seen back.later (ap (λ (h : List Event). events_by caller h) (sym back.begins) ∙ back.same) own)

-- ---- a session's pass that came back

-- what is known of the owner then
pub record TookBack (caller : ℕ) (log : Entries) (old new : OwnerView Event DeskFixed) : Type 0 where
  pub tags : new.seen ≡ tagged (events new.seen)
  pub kept : new.kept ≡ old.kept ++ caller ∷ []
  pub begins : Begins old.seen new.seen
  pub begins_log : Begins log new.seen
  pub own : entries_by caller new.seen ≡ entries_by caller log
  pub before : (c : ℕ) → Contains old.kept c → entries_by c new.seen ≡ entries_by c old.seen

pub took : (store : StoreState) (caller : ℕ) (log : Entries) (old new : OwnerView Event DeskFixed)
    → (old.out ≡ new.out + 1) × (new ≡ record old { out = new.out; seen = new.seen; kept = old.kept ++ caller ∷ [] }) → Begins old.seen new.seen × Begins log new.seen
    → entries_by caller new.seen ≡ entries_by caller log → ((c : ℕ) → Contains old.kept c → entries_by c new.seen ≡ entries_by c old.seen) → IsOwnerOf store new → TookBack caller log old new
took store caller log old new counts begins own before owner = record {
  tags = owner.log.tags;
  kept = ap (λ (o : OwnerView Event DeskFixed). o.kept) counts.1;
  begins = begins.0;
  begins_log = begins.1;
  own = own;
  before = before;
}

-- the same since before the pass was made
pub took_since : {caller : ℕ} {log : Entries} {old mid new : OwnerView Event DeskFixed} → mid ≡ record old { made = old.made + 1; out = old.out + 1 } → TookBack caller log mid new
    → TookBack caller log old new
took_since {caller = caller} {old = old} {mid = mid} {new = new} given took =
    let seen : mid.seen ≡ old.seen = ap (λ (o : OwnerView Event DeskFixed). o.seen) given in
    let kept : mid.kept ≡ old.kept = ap (λ (o : OwnerView Event DeskFixed). o.kept) given in
    record {
      tags = took.tags;
      kept = took.kept ∙ ap (λ (l : List ℕ). l ++ caller ∷ []) kept;
      begins = subst (λ (l : Entries). Begins l new.seen) seen took.begins;
      begins_log = took.begins_log;
      own = took.own;
      before = λ c k. took.before c (subst (λ (l : List ℕ). Contains l c) (sym kept) k) ∙ ap (λ (l : Entries). entries_by c l) seen;
    }

module _ (are : EntriesAreEvents) {caller : ℕ} {log : Entries} {old new : OwnerView Event DeskFixed} (took : TookBack caller log old new) where
  pub tags_old : old.seen ≡ tagged (events old.seen)
  tags_old = tags_of_front old.seen new.seen took.begins took.tags

  -- of a caller that had come back before
  pub stays_by : (c : ℕ) → Contains old.kept c → events_by c (events new.seen) ≡ events_by c (events old.seen)
  stays_by c k = same_by are new.seen old.seen c took.tags tags_old (took.before c k)

  -- of this one
  pub own_by : events_by caller (events new.seen) ≡ events_by caller (events log)
  own_by = same_by are new.seen log caller took.tags (tags_of_front log new.seen took.begins_log took.tags) took.own

  pub keeps : (c : ℕ) → Contains old.kept c → Contains new.kept c
  keeps c k = subst (λ (l : List ℕ). Contains l c) (sym took.kept) (Contains-append_left old.kept (caller ∷ []) c k)

  pub keeps_own : Contains new.kept caller
  keeps_own = subst (λ (l : List ℕ). Contains l caller) (sym took.kept) (Contains-push old.kept caller)

module _ {D : Type 0} (s : SessionState D) where
  pub fresh_at : EntriesAreEvents → (worker : ℕ) → s.caller ≡ worker + 1 → s.store.fixed.limits ≡ greatest → s.log ≡ tagged (events s.log) → entries_by (worker + 1) s.log ≡ [] → s.held ≡ [] → s.limit ≡ max_update → IsFresh worker (session_of s)
  fresh_at are worker caller limits tags none none_held limit = record {
    caller = caller;
    limits = limits;
    none = none_by are s.log (worker + 1) tags none;
    ready = record { none_held = ap (λ (l : List OpenUpdate). tickets_of l) none_held; limit = limit };
  }

-- a session that was just made
pub fresh_new : {D : Type 0} {faults : D → ℕ} {store : StoreState} {owner : OwnerView Event DeskFixed} {s : SessionState D} → EntriesAreEvents → owner.seen ≡ tagged (events owner.seen)
    → store.fixed.limits ≡ greatest → IsNewSession faults store owner s → IsFresh owner.made (session_of s)
fresh_new {owner = owner} {s = s} are tags limits new =
    fresh_at s are owner.made new.caller (ap (λ (t : StoreState). t.fixed.limits) new.of_store ∙ limits) (subst (λ (l : List (ℕ × Event)). l ≡ tagged (events l)) (sym new.log) tags)
    (subst (λ (c : ℕ). entries_by c s.log ≡ []) new.caller new.none) new.none_held new.limit

-- what a session has done that hadn't done anything
module _ (idle : IdleOwnsAll) (worker : ℕ) (s s' : Session) (fresh : IsFresh worker s) (own : List Event) (did : HasDoneOwn s own s') where
  pub own_is : events_by (worker + 1) s'.seen ≡ own
  own_is =
      subst (λ (c : ℕ). events_by c s'.seen ≡ events_by c s.seen ++ own) fresh.caller did.leaves.mine ∙ ap (λ (l : List Event). l ++ own) fresh.none

  pub own_finishes : FinishesItsOwn greatest s'.seen (worker + 1)
  own_finishes =
      let goes : FinishesItsOwn greatest s.seen (worker + 1) → FinishesItsOwn greatest s'.seen (worker + 1) =
      subst (λ (b : Bounds). FinishesItsOwn b s.seen (worker + 1) → FinishesItsOwn b s'.seen (worker + 1)) fresh.limits
      (subst (λ (c : ℕ). FinishesItsOwn s.fixed.limits s.seen c → FinishesItsOwn s.fixed.limits s'.seen c) fresh.caller did.leaves.finishes) in
      goes (idle greatest (worker + 1) s.seen fresh.none)

-- the count of the maker, to which doors went back
pub rose_stop : (n before between sum after : ℕ) → (between < 2 ^ 64 - 1 → before ≤ between) → (sum < 2 ^ 64 - 1 → n ≤ sum) → min (between + sum) (2 ^ 64 - 1) ≤ after → after < 2 ^ 64 - 1 → before + n ≤ after
rose_stop n before between sum after made counted back less =
    let low : between < 2 ^ 64 - 1 = omega (arith, back, less) in
    let few : sum < 2 ^ 64 - 1 = omega (arith, back, less) in
    omega (arith, made low, counted few, back, less)
