-- Sessions that enter nothing: readers, and the keeper's.
use Rattle.std.proofs.Common.{◌≡◌, ℕ, List, [], refl, sym, ap, subst, ◌∙◌, append-nil, arith, ⊎_elim, suc, ◌+◌, ◌==◌, Bool, true, ◌∷◌, ◌++◌, length, map, fold, if◌then◌else◌}
use Rattle.std.specs.Prelude.{Option, Some, None, Result, sum_by, All}
use Rattle.std.proofs.lemmas.Bool.Decides.{nat_tests}
use Rattle.std.proofs.lemmas.List.{length-append, map_push}
use Rattle.std.proofs.lemmas.List.Elements.{All-push}
use Rattle.std.proofs.lemmas.List.Sums.{fold_push}
use Rattle.blob_model.specs.History.{events_by, AllOther, store_of}
use Rattle.blob_model.specs.declared.call.Event.{Event}
use Rattle.version_manager.specs.Log.{events}
use Rattle.request_form.specs.Session.{Session, sees}
use Rattle.request_form.specs.Answers.{Turn, AfterGap, ReadTurn, Unless, read_fault}
use Rattle.request_form.specs.Turns.{with_tickets, and_made}
use Rattle.request_form.specs.declared.form.Reply.{Reply}
use Rattle.request_form.specs.declared.form.Fault.{Fault}
use Rattle.client_session.specs.Sessions.{SessionState, session_of, Continues, StoreState}
use Rattle.client_session.specs.Results.{read_reply}
use Rattle.client_session.proofs.Waiting.{goes_both}
use Rattle.workload_law.specs.Sessions.{GapsHaveNoOwn}
use Rattle.read_board.specs.declared.refresh.Refresh.{Refresh}
use Rattle.read_board.specs.declared.standing.Way.{Way}
use Rattle.read_board.specs.Refreshing.{HasLooked, AllHold, IsNotThere, LeftPending, Refreshed}
use Rattle.read_board.specs.Reads.{Goes, bytes_said}
use Rattle.workload_run.specs.Idling.{Idles}
use Rattle.read_board.specs.Keeping.{StandingState, KeeperState}
use Rattle.workload_run.proofs.Updates.{rose_both}
use Rattle.workload_run.specs.Readers.{HasRead}
use Rattle.blob_model.specs.Limits.{Bounds}
use Rattle.blob_model.specs.Store.{blob_at}
use Rattle.read_board.specs.Refreshes.{version_of, on_board, IsFullFor}
use Rattle.workload_run.specs.Keeping.{MayRefresh, RefreshHindered, Refreshes}

module _ {D : Type 0} where
  pub idles_none : (s : SessionState D) → Idles s s
  idles_none s = record { none = refl; goes_on = record { store = refl; caller = refl; begins = ([], sym (append-nil s.log)) } }

  pub idles_both : {s mid s' : SessionState D} → Idles s mid → Idles mid s' → Idles s s'
  idles_both {s = s} {mid = mid} {s' = s'} one two = record {
    none = subst (λ (c : ℕ). events_by c (events s'.log) ≡ events_by c (events mid.log)) one.goes_on.caller two.none ∙ one.none;
    goes_on = goes_both s mid s' one.goes_on two.goes_on;
  }

  -- a session that has seen others' events alone
  pub idles_gap : GapsHaveNoOwn → (s s' : SessionState D) → Continues s s' → (others : List Event) → AllOther s.caller others → session_of s' ≡ sees (session_of s) others → Idles s s'
  idles_gap gaps s s' on others gap seen = record {
    none = ap (λ (x : Session). events_by s.caller x.seen) seen ∙ gaps s.caller (events s.log) others gap;
    goes_on = on;
  }

  pub idles_looked : GapsHaveNoOwn → (s s' : SessionState D) → Continues s s' → HasLooked s s' → Idles s s'
  idles_looked gaps s s' on looked = idles_gap gaps s s' on looked.others looked.is_gap looked.seen

  -- a session whose doors alone are others
  idles_same : (s s' : SessionState D) → Continues s s' → s' ≡ record s { doors = s'.doors } → Idles s s'
  idles_same s s' on same = record { none = ap (λ (x : SessionState D). events_by s.caller (events x.log)) same; goes_on = on }

  module _ (gaps : GapsHaveNoOwn) (s s' : SessionState D) (on : Continues s s') (blob version offset count : ℕ) where
    idles_turn : (others : List Event) → AllOther s.caller others → (turn : Turn) → ReadTurn (session_of s) blob version offset count others turn
        → session_of s' ≡ with_tickets turn.tickets (sees (session_of s) (and_made others turn.made)) → Idles s s'
    idles_turn others gap _ (ReadTurn.content bytes e) seen = idles_gap gaps s s' on others gap seen
    idles_turn others gap _ (ReadTurn.refused refusal e) seen = idles_gap gaps s s' on others gap seen
    idles_turn others gap _ ReadTurn.out_of_memory seen = idles_gap gaps s s' on others gap seen
    idles_turn others gap _ (ReadTurn.not_read bytes e some page meets) seen = idles_gap gaps s s' on others gap seen

    -- nor does a session's own read
    pub idles_read : (reply : Reply) (e : Option Fault) → Unless e (session_of s) reply (session_of s') (AfterGap AllOther (session_of s) (ReadTurn (session_of s) blob version offset count) reply (session_of s')) → Idles s s'
    idles_read reply (Some fault) x = record { none = ap (λ (t : Session). events_by s.caller t.seen) x.1; goes_on = on }
    idles_read reply None a = idles_turn a.others a.is_gap a.turn a.may a.seen

    -- a read of a reader enters nothing, whichever way it takes
    pub idles_goes : (by : Option Refresh) (said : Result (List ℕ × Way) Fault) (before after : ℕ) → Goes by s blob version offset count said s' before after → Idles s s'
    idles_goes (Some on_board) said before after board = idles_same s s' on board.session
    idles_goes None said before after turn = idles_read (read_reply (bytes_said said)) (read_fault count) turn.answers

module _ {D : Type 0} (faults : D → ℕ) where
  pub read_none : (r : StandingState D) → HasRead faults 0 r r
  read_none r = record { board = refl; place = refl; idles = idles_none r.session; rose = record { later = omega arith; by = λ less. omega arith } }

  pub read_both : (m n : ℕ) (r mid r' : StandingState D) → HasRead faults m r mid → HasRead faults n mid r' → HasRead faults n r r'
  read_both m n r mid r' one two = record {
    board = two.board ∙ one.board;
    place = two.place ∙ one.place;
    idles = idles_both one.idles two.idles;
    rose = rose_both m n (sum_by faults r.session.doors) (sum_by faults mid.session.doors) (sum_by faults r'.session.doors) one.rose two.rose;
  }

abbrev step : ℕ → Option Refresh → Refresh → Option Refresh
step blob found e = if e.blob == blob then Some e else found

-- one more refresh
pub one_more : (k k' : KeeperState) (version : ℕ) → Refreshed k k' 1 version → length k'.all ≡ length k.all + 1
one_more k k' version done = ap (λ (l : List Refresh). length l) done.all ∙ length-append k.all (done.refresh ∷ [])

pub versions_more : (k k' : KeeperState) (version : ℕ) → Refreshed k k' 1 version → map version_of k'.all ≡ map version_of k.all ++ version ∷ []
versions_more k k' version done =
    ap (λ (l : List Refresh). map version_of l) done.all
    ∙ (map_push version_of k.all done.refresh ∙ ap (λ (v : ℕ). map version_of k.all ++ v ∷ []) done.version_is)

-- a refresh of the blob is the blob's last one
pub on_pushed : (rs : List Refresh) (r : Refresh) → r.blob ≡ 1 → on_board 1 (rs ++ r ∷ []) ≡ Some r
on_pushed rs r one =
    let yes : (r.blob == 1) ≡ true = grind (arith, nat_tests, one) in
    fold_push (step 1) None rs r ∙ ap (λ (t : Bool). if t then Some r else fold (step 1) None rs) yes

of_first : (x : Refresh) (xs : List Refresh) → All (λ (r : Refresh). r.blob ≡ 1) (x ∷ xs) → x.blob ≡ 1
of_first x xs all = all 0 x (omega arith)

of_rest : (x : Refresh) (xs : List Refresh) → All (λ (r : Refresh). r.blob ≡ 1) (x ∷ xs) → All (λ (r : Refresh). r.blob ≡ 1) xs
of_rest x xs all k d lt = all (suc k) d (omega (arith, lt))

-- what is found of blob 1 stays found, where all are of it
found_on : (xs : List Refresh) (found : Refresh) → All (λ (r : Refresh). r.blob ≡ 1) xs → fold (step 1) (Some found) xs ≡ None → ⊥
found_on [] found all none = (let no : Some found ≡ None = none in cc)
found_on (x ∷ xs) found all none =
    let yes : (x.blob == 1) ≡ true = (let one = of_first x xs all in grind (arith, nat_tests, one)) in
    found_on xs x (of_rest x xs all) (ap (λ (t : Bool). fold (step 1) (if t then Some x else Some found) xs) (sym yes) ∙ none)

-- no board is full for blob 1 on which no other blob is
pub not_full : (all : List Refresh) → All (λ (r : Refresh). r.blob ≡ 1) all → IsFullFor 1 all → ⊥
not_full [] of_one full = omega (arith, full.1)
not_full (x ∷ xs) of_one full =
    let yes : (x.blob == 1) ≡ true = (let one = of_first x xs of_one in grind (arith, nat_tests, one)) in
    found_on xs x (of_rest x xs of_one) (ap (λ (t : Bool). fold (step 1) (if t then Some x else None) xs) (sym yes) ∙ full.0)

of_one_pending : (k k' : KeeperState) → LeftPending k k' 1 → All (λ (r : Refresh). r.blob ≡ 1) k.all → All (λ (r : Refresh). r.blob ≡ 1) k'.all
of_one_pending k k' left of_one =
    ⊎_elim (λ (same : k'.all ≡ k.all). subst (λ (l : List Refresh). All (λ (r : Refresh). r.blob ≡ 1) l) (sym same) of_one)
    (λ (more : (r : Refresh) × (r.blob ≡ 1) × (k'.all ≡ k.all ++ r ∷ [])).
    subst (λ (l : List Refresh). All (λ (r : Refresh). r.blob ≡ 1) l) (sym more.2) (All-push (λ (r : Refresh). r.blob ≡ 1) k.all more.0 of_one more.1)) left.all

module _ {D : Type 0} where
  module _ (gaps : GapsHaveNoOwn) (k k' : KeeperState) (s s' : SessionState D) (may : MayRefresh k s) (hold : AllHold s'.store.fixed s'.log k'.all) (looked : HasLooked s s') (on : Continues s s') (board : k'.board ≡ k.board) where
    refreshes_of : All (λ (r : Refresh). r.blob ≡ 1) k'.all → Refreshes k k' s s'
    refreshes_of of_one = record {
      may = record {
        store = ap (λ b. b.store) board ∙ (may.store ∙ ap (λ (x : StoreState). x ∷ []) (sym on.store));
        limits = ap (λ (x : StoreState). x.fixed.limits) on.store ∙ may.limits;
        hold = hold;
        of_one = of_one;
      };
      board = board;
      idles = idles_looked gaps s s' on looked;
      rest = looked.rest;
    }

    pub left_pending : LeftPending k k' 1 → Refreshes k k' s s'
    left_pending left = refreshes_of (of_one_pending k k' left may.of_one)

    pub hindered : (fault : Fault) → IsNotThere s' 1 fault → RefreshHindered s' fault
    hindered fault (IsNotThere.no_memory is) = RefreshHindered.starved is
    hindered fault (IsNotThere.no_blob is none) =
        RefreshHindered.missing is (ap (λ (l : Bounds). blob_at (store_of l (events s'.log)) 1) (sym (ap (λ (x : StoreState). x.fixed.limits) on.store ∙ may.limits)) ∙ none)

  pub refreshes_none : (k : KeeperState) (s : SessionState D) → MayRefresh k s → Refreshes k k s s
  refreshes_none k s may = record { may = may; board = refl; idles = idles_none s; rest = refl }

  pub refreshes_both : (k mid k' : KeeperState) (s t s' : SessionState D) → Refreshes k mid s t → Refreshes mid k' t s' → Refreshes k k' s s'
  refreshes_both k mid k' s t s' one two = record {
    may = two.may;
    board = two.board ∙ one.board;
    idles = idles_both one.idles two.idles;
    rest = two.rest ∙ ap (λ (x : SessionState D). record x { log = s'.log; turns = s'.turns }) one.rest;
  }
