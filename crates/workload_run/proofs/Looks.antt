-- The last session's look at the log and at the grid, and what it sums up.
use Rattle.std.proofs.Common.{◌≡◌, ℕ, ◌≤◌, nat_lt, if◌then◌else◌, Bool, true, false, List, [], ◌++◌, length, refl, sym, ap, subst, ◌∙◌, append_assoc, append-nil, arith, ◌+◌, ◌*◌, ◌<◌, sum}
use Rattle.std.specs.Prelude.{Option, Some, None, Result, Ok, Err}
use Rattle.std.proofs.lemmas.Bool.{true≢false}
use Rattle.std.proofs.lemmas.Bool.Decides.{nat_tests}
use Rattle.blob_model.specs.Answer.{answer}
use Rattle.blob_model.specs.History.{store_of, AllOther}
use Rattle.blob_model.specs.declared.call.Call.{Call}
use Rattle.blob_model.specs.declared.call.Call.TheVariants as Calls
use Rattle.blob_model.specs.declared.call.Event.{Event}
use Rattle.blob_model.specs.declared.call.Outcome.{Outcome}
use Rattle.blob_model.specs.declared.call.Outcome.TheVariants as Outcomes
use Rattle.request_form.specs.Session.{Fixed, Session, outcome_at, sees}
use Rattle.request_form.specs.Answers.{Turn, AfterGap, Unless, LookAnswer, ReadTurn, Answers, read_fault, max_read}
use Rattle.request_form.specs.Turns.{with_tickets, and_made}
use Rattle.request_form.specs.Replies.{reply_of}
use Rattle.request_form.specs.declared.form.Request.TheVariants as Requests
use Rattle.request_form.specs.declared.form.Reply.{Reply}
use Rattle.request_form.specs.declared.form.Reply.TheVariants as Replies
use Rattle.request_form.specs.declared.form.Fault.{Fault}
use Rattle.request_form.specs.declared.form.Fault.TheVariants as Faults
use Rattle.workload_law.specs.Ends.{LooksLeaveNone, IsOutside, LeavesAdd}
use Rattle.workload_law.specs.Closing.{ReadsAreShort}
use Rattle.workload_run.specs.Making.{HasDoneOwn}
use Rattle.workload_run.specs.Look.{recent_told, IsUntold, IsTold, LookEnds, summed_up, SummaryEnds}
use Rattle.workload_law.proofs.OwnEvents.{both_empty}
use Rattle.workload_law.proofs.CallEnds.{none_after}
use Rattle.workload_law.specs.declared.plan.LoadPlan.{LoadPlan}
use Rattle.workload_law.specs.Load.{IsSized, IsLoadPage, all_ops}
use Rattle.workload_law.specs.Laws.{IsReadBack}
use Rattle.workload_law.specs.Pieces.{in_order_of}
use Rattle.workload_law.specs.Summed.{summary_of, cells_sum}
use Rattle.workload_run.specs.declared.looking.Last.{Last}
use Rattle.workload_run.proofs.Updates.{leaves_same, same_fault}

-- ---- nothing more was seen

module _ (xs mid ys a b : List Event) (one : mid ≡ xs ++ a) (two : ys ≡ mid ++ b) (same : ys ≡ xs) where
  all_none : a ++ b ≡ []
  all_none = none_after xs (a ++ b) (sym (append_assoc xs a b) ∙ (ap (λ (l : List Event). l ++ b) (sym one) ∙ (sym two ∙ same)))

  pub mid_same : mid ≡ xs
  mid_same = one ∙ (ap (λ (l : List Event). xs ++ l) (both_empty a b all_none).0 ∙ append-nil xs)

  pub end_same : ys ≡ mid
  end_same = same ∙ sym mid_same

-- what a session that has seen the same is told is the same
module _ (s t : Session) (call : Call) where
  pub outcome_same : t.fixed ≡ s.fixed → t.caller ≡ s.caller → t.seen ≡ s.seen → outcome_at t [] call ≡ outcome_at s [] call
  outcome_same fixed caller seen =
      ap (λ (f : Fixed). (answer (store_of f.limits (t.seen ++ [])) t.caller call).1) fixed
      ∙ (ap (λ (h : List Event). (answer (store_of s.fixed.limits (h ++ [])) t.caller call).1) seen ∙ ap (λ (c : ℕ). (answer (store_of s.fixed.limits (s.seen ++ [])) c call).1) caller)

-- ---- gaps

-- a session that saw others' events alone
pub record SawOthers (s : Session) (others : List Event) (s' : Session) : Type 0 where
  pub is_gap : AllOther s.caller others
  pub seen : s' ≡ sees s others

module _ (looks : LooksLeaveNone) (s s' : Session) (others : List Event) (saw : SawOthers s others s') where
  pub saw_left : s.tickets ≡ [] → HasDoneOwn s [] s'
  saw_left none =
      let call : Call = Calls.Recent 0 in
      let left = looks s call (reply_of (outcome_at s others call)) s' (record { others = others; is_gap = saw.is_gap; said = refl; seen = saw.seen }) in
      record { leaves = left.0; none_held = left.1 ∙ none }

-- ---- the most recent version

told_pair : (r : Result (ℕ × ℕ) Fault) (x y : ℕ × ℕ) → r ≡ Ok x → r ≡ Ok y → x ≡ y
told_pair r x y e f = cc

never_told : (r : Result (ℕ × ℕ) Fault) (fault : Fault) (x : ℕ × ℕ) → r ≡ Err fault → r ≡ Ok x → ⊥
never_told r fault x e f = cc

recent_is : (blob : ℕ) (outcome : Outcome) (version size : ℕ) → recent_told blob outcome ≡ Ok (version, size) → outcome ≡ Outcomes.Recent version size
recent_is blob (Outcomes.Recent v n) version size e = ap (λ (x : ℕ × ℕ). Outcomes.Recent x.0 x.1) (told_pair (Ok (v, n)) (v, n) (version, size) refl e)
recent_is blob outcome version size e = absurd (never_told (recent_told blob outcome) (Faults.NoBlob blob) (version, size) refl e)

abbrev is_recent : Reply → Bool
is_recent (Replies.RecentIs version size) = true
is_recent _ = false

-- nothing else is said so
said_recent : (outcome : Outcome) (version size : ℕ) → reply_of outcome ≡ Replies.RecentIs version size → outcome ≡ Outcomes.Recent version size
said_recent (Outcomes.Recent v n) version size e = let same : Replies.RecentIs v n ≡ Replies.RecentIs version size = e in cc
said_recent outcome version size e = absurd (true≢false (sym (ap (λ (r : Reply). is_recent r) e)))

module _ (s mid : Session) (blob : ℕ) (outcome : Outcome) (look : LookAnswer AllOther s (Calls.Recent blob) (reply_of outcome) mid) where
  pub recent_saw : SawOthers s look.others mid
  recent_saw = record { is_gap = look.is_gap; seen = look.seen }

  said_alone : mid.seen ≡ s.seen → reply_of outcome ≡ reply_of (outcome_at s [] (Calls.Recent blob))
  said_alone same =
      let none : look.others ≡ [] = none_after s.seen look.others (sym (ap (λ (x : Session). x.seen) look.seen) ∙ same) in
      look.said ∙ ap (λ (l : List Event). reply_of (outcome_at s l (Calls.Recent blob))) none

  pub told_recent : mid.seen ≡ s.seen → (version size : ℕ) → recent_told blob outcome ≡ Ok (version, size) → outcome_at s [] (Calls.Recent blob) ≡ Outcomes.Recent version size
  told_recent same version size told =
      said_recent (outcome_at s [] (Calls.Recent blob)) version size (sym (said_alone same) ∙ ap (λ (o : Outcome). reply_of o) (recent_is blob outcome version size told))

  pub told_none : mid.seen ≡ s.seen → (fault : Fault) → recent_told blob outcome ≡ Err fault → (version size : ℕ) → outcome_at s [] (Calls.Recent blob) ≡ Outcomes.Recent version size → ⊥
  told_none same fault told version size is =
      let said : reply_of outcome ≡ Replies.RecentIs version size = said_alone same ∙ ap (λ (o : Outcome). reply_of o) is in
      let recent : outcome ≡ Outcomes.Recent version size = said_recent outcome version size said in
      never_told (recent_told blob outcome) fault (version, size) told (ap (λ (o : Outcome). recent_told blob o) recent)

-- ---- its bytes

module _ (s s' : Session) (blob version size : ℕ) where
  abbrev read_call : Call
  read_call = Calls.Read blob version 0 size

  module _ (reply : Reply) where
    left_turn : LooksLeaveNone → s.tickets ≡ [] → (others : List Event) → AllOther s.caller others → (turn : Turn) → ReadTurn s blob version 0 size others turn
        → s' ≡ with_tickets turn.tickets (sees s (and_made others turn.made)) → HasDoneOwn s [] s'
    left_turn looks none others gap _ (ReadTurn.content bytes e) seen = saw_left looks s s' others (record { is_gap = gap; seen = seen }) none
    left_turn looks none others gap _ (ReadTurn.refused refusal e) seen = saw_left looks s s' others (record { is_gap = gap; seen = seen }) none
    left_turn looks none others gap _ ReadTurn.out_of_memory seen = saw_left looks s s' others (record { is_gap = gap; seen = seen }) none
    left_turn looks none others gap _ (ReadTurn.not_read bytes e some page meets) seen = saw_left looks s s' others (record { is_gap = gap; seen = seen }) none

    left_by : LooksLeaveNone → s.tickets ≡ [] → (e : Option Fault) → Unless e s reply s' (AfterGap AllOther s (ReadTurn s blob version 0 size) reply s') → HasDoneOwn s [] s'
    left_by looks none (Some fault) x = subst (λ (t : Session). HasDoneOwn s [] t) (sym x.1) (record { leaves = leaves_same s; none_held = none })
    left_by looks none None a = left_turn looks none a.others a.is_gap a.turn a.may a.seen

    pub read_left : LooksLeaveNone → s.tickets ≡ [] → Answers AllOther s (Requests.Read blob version 0 size) reply s' → HasDoneOwn s [] s'
    read_left looks none answers = left_by looks none (read_fault size) answers

  alone : (others : List Event) → s' ≡ sees s others → s'.seen ≡ s.seen → outcome_at s others read_call ≡ outcome_at s [] read_call
  alone others seen same = ap (λ (l : List Event). outcome_at s l read_call) (none_after s.seen others (sym (ap (λ (x : Session). x.seen) seen) ∙ same))

  -- what was read
  module _ (bytes : List ℕ) where
    abbrev Reads : Type 0
    Reads = AfterGap AllOther s (ReadTurn s blob version 0 size) (Replies.Content bytes) s'

    -- these bytes are what the store answered
    turn_bytes : (others : List Event) (turn : Turn) → ReadTurn s blob version 0 size others turn → Replies.Content bytes ≡ turn.said → s' ≡ with_tickets turn.tickets (sees s (and_made others turn.made))
        → (outcome_at s others read_call ≡ Outcomes.Content bytes) × (s' ≡ sees s others)
    turn_bytes others _ (ReadTurn.content read e) said seen = let is : bytes ≡ read = cc in (e ∙ ap (λ (b : List ℕ). Outcomes.Content b) (sym is), seen)
    turn_bytes others _ (ReadTurn.refused refusal e) said seen = absurd (let no : ⊥ = cc in no)
    turn_bytes others _ ReadTurn.out_of_memory said seen = absurd (let no : ⊥ = cc in no)
    turn_bytes others _ (ReadTurn.not_read read e some page meets) said seen = absurd (let no : ⊥ = cc in no)

    bytes_in : (e : Option Fault) → Unless e s (Replies.Content bytes) s' Reads → s'.seen ≡ s.seen → outcome_at s [] read_call ≡ Outcomes.Content bytes
    bytes_in (Some fault) x same = absurd (let no : Replies.Content bytes ≡ Replies.Refused fault = x.0 in cc)
    bytes_in None a same = let t = turn_bytes a.others a.turn a.may a.said a.seen in sym (alone a.others t.1 same) ∙ t.0

    pub read_bytes : Answers AllOther s (Requests.Read blob version 0 size) (Replies.Content bytes) s' → s'.seen ≡ s.seen → outcome_at s [] read_call ≡ Outcomes.Content bytes
    read_bytes answers same = bytes_in (read_fault size) answers same

    short_in : ReadsAreShort → (t : Bool) → nat_lt max_read size ≡ t → Unless (if t then Some (Faults.ReadTooLong size) else None) s (Replies.Content bytes) s' Reads → length bytes ≤ max_read
    short_in short true is x = absurd (let no : Replies.Content bytes ≡ Replies.Refused (Faults.ReadTooLong size) = x.0 in cc)
    short_in short false is a =
        let t = turn_bytes a.others a.turn a.may a.said a.seen in
        let few : length bytes ≤ size = short (store_of s.fixed.limits (s.seen ++ a.others)) s.caller blob version 0 size bytes t.0 in
        let within : size ≤ max_read = grind (arith, nat_tests) in
        omega (arith, few, within)

    pub read_short : ReadsAreShort → Answers AllOther s (Requests.Read blob version 0 size) (Replies.Content bytes) s' → length bytes ≤ max_read
    read_short short answers = short_in short (nat_lt max_read size) refl answers

  -- why nothing was read
  module _ (fault : Fault) (recent : outcome_at s [] (Calls.Recent blob) ≡ Outcomes.Recent version size) where
    turn_unread : (others : List Event) (turn : Turn) → ReadTurn s blob version 0 size others turn → Replies.Refused fault ≡ turn.said → s' ≡ with_tickets turn.tickets (sees s (and_made others turn.made))
        → s'.seen ≡ s.seen → IsUntold s blob fault
    turn_unread others _ (ReadTurn.content bytes e) said seen same = absurd (let no : ⊥ = cc in no)
    turn_unread others _ (ReadTurn.refused refusal e) said seen same =
        IsUntold.refused version size refusal recent (sym (alone others seen same) ∙ e)
    turn_unread others _ ReadTurn.out_of_memory said seen same = IsUntold.outside version size recent (IsOutside.starved (same_fault fault Faults.NoMemory said))
    turn_unread others _ (ReadTurn.not_read bytes e some page meets) said seen same =
        IsUntold.outside version size recent (IsOutside.lost page (omega (arith, meets.begins)) (same_fault fault (Faults.PageFault page) said))

    unread_in : (t : Bool) → nat_lt max_read size ≡ t
        → Unless (if t then Some (Faults.ReadTooLong size) else None) s (Replies.Refused fault) s' (AfterGap AllOther s (ReadTurn s blob version 0 size) (Replies.Refused fault) s') → s'.seen ≡ s.seen → IsUntold s blob fault
    unread_in true is x same = IsUntold.too_long version size recent (grind (arith, nat_tests))
    unread_in false is a same = turn_unread a.others a.turn a.may a.said a.seen same

    pub unread : Answers AllOther s (Requests.Read blob version 0 size) (Replies.Refused fault) s' → s'.seen ≡ s.seen → IsUntold s blob fault
    unread answers same = unread_in (nat_lt max_read size) refl answers same

-- ---- one blob

-- a session told the same is told the same of a blob
module _ (s t : Session) (same : (call : Call) → outcome_at t [] call ≡ outcome_at s [] call) (blob : ℕ) where
  told_so : (last : Last) → IsTold t blob last → IsTold s blob last
  told_so last told = record { recent = sym (same (Calls.Recent blob)) ∙ told.recent; read = sym (same (Calls.Read blob last.version 0 last.size)) ∙ told.read }

  untold_so : t.fixed ≡ s.fixed → (fault : Fault) → IsUntold t blob fault → IsUntold s blob fault
  untold_so fixed fault (IsUntold.no_blob none) = IsUntold.no_blob (λ version size is. none version size (same (Calls.Recent blob) ∙ is))
  untold_so fixed fault (IsUntold.too_long version size is long) = IsUntold.too_long version size (sym (same (Calls.Recent blob)) ∙ is) long
  untold_so fixed fault (IsUntold.refused version size refusal is refused) =
      IsUntold.refused version size refusal (sym (same (Calls.Recent blob)) ∙ is) (sym (same (Calls.Read blob version 0 size)) ∙ refused)
  untold_so fixed fault (IsUntold.outside version size is outside) = IsUntold.outside version size (sym (same (Calls.Recent blob)) ∙ is) (subst (λ (f : Fixed). IsOutside (λ page. f.page * page < size) fault) fixed outside)

did_both : LeavesAdd → (s mid s' : Session) → HasDoneOwn s [] mid → HasDoneOwn mid [] s' → HasDoneOwn s [] s'
did_both adds s mid s' a b = record { leaves = adds s mid s' [] [] a.leaves b.leaves; none_held = b.none_held }

module _ (s mid s' : Session) (one : HasDoneOwn s [] mid) (two : HasDoneOwn mid [] s') (same : s'.seen ≡ s.seen) where
  pub seen_mid : mid.seen ≡ s.seen
  seen_mid = mid_same s.seen mid.seen s'.seen one.leaves.more two.leaves.more one.leaves.seen two.leaves.seen same

  pub seen_end : s'.seen ≡ mid.seen
  seen_end = end_same s.seen mid.seen s'.seen one.leaves.more two.leaves.more one.leaves.seen two.leaves.seen same

  pub told_alike : (call : Call) → outcome_at mid [] call ≡ outcome_at s [] call
  told_alike call = outcome_same s mid call one.leaves.fixed one.leaves.caller seen_mid

module _ (adds : LeavesAdd) (looks : LooksLeaveNone) (s mid : Session) (blob : ℕ) (outcome : Outcome) (none : s.tickets ≡ []) (look : LookAnswer AllOther s (Calls.Recent blob) (reply_of outcome) mid) where
  pub did_recent : HasDoneOwn s [] mid
  did_recent = saw_left looks s mid look.others (recent_saw s mid blob outcome look) none

  pub look_missing : (fault : Fault) → recent_told blob outcome ≡ Err fault → LookEnds blob (Err fault) s mid
  look_missing fault told = record { did = did_recent; short = tt; tells = λ same. IsUntold.no_blob (told_none s mid blob outcome look same fault told) }

  module _ (version size : ℕ) (told : recent_told blob outcome ≡ Ok (version, size)) (s' : Session) where
    recent_mid : (two : HasDoneOwn mid [] s') → s'.seen ≡ s.seen → outcome_at mid [] (Calls.Recent blob) ≡ Outcomes.Recent version size
    recent_mid two same = told_alike s mid s' did_recent two same (Calls.Recent blob) ∙ told_recent s mid blob outcome look (seen_mid s mid s' did_recent two same) version size told

    pub look_read : ReadsAreShort → (bytes : List ℕ) → Answers AllOther mid (Requests.Read blob version 0 size) (Replies.Content bytes) s'
        → LookEnds blob (Ok (record { version = version; size = size; bytes = bytes })) s s'
    look_read short bytes answers =
        let two : HasDoneOwn mid [] s' = read_left mid s' blob version size (Replies.Content bytes) looks did_recent.none_held answers in
        record {
          did = did_both adds s mid s' did_recent two;
          short = read_short mid s' blob version size bytes short answers;
          tells = λ same.
              told_so s mid (told_alike s mid s' did_recent two same) blob (record { version = version; size = size; bytes = bytes })
              (record { recent = recent_mid two same; read = read_bytes mid s' blob version size bytes answers (seen_end s mid s' did_recent two same) });
        }

    pub look_unread : (fault : Fault) → Answers AllOther mid (Requests.Read blob version 0 size) (Replies.Refused fault) s' → LookEnds blob (Err fault) s s'
    look_unread fault answers =
        let two : HasDoneOwn mid [] s' = read_left mid s' blob version size (Replies.Refused fault) looks did_recent.none_held answers in
        record {
          did = did_both adds s mid s' did_recent two;
          short = tt;
          tells = λ same.
              untold_so s mid (told_alike s mid s' did_recent two same) blob did_recent.leaves.fixed fault
              (unread mid s' blob version size fault (recent_mid two same) answers (seen_end s mid s' did_recent two same));
        }

-- ---- both

version_is : (a b m n : ℕ) → Outcomes.Recent a m ≡ Outcomes.Recent b n → a ≡ b
version_is a b m n e = cc

size_is : (a b m n : ℕ) → Outcomes.Recent a m ≡ Outcomes.Recent b n → m ≡ n
size_is a b m n e = cc

bytes_are : (xs ys : List ℕ) → Outcomes.Content xs ≡ Outcomes.Content ys → xs ≡ ys
bytes_are xs ys e = cc

-- what the store's last version of a blob is
record IsLast (s : Session) (blob version size : ℕ) (bytes : List ℕ) : Type 0 where
  recent : outcome_at s [] (Calls.Recent blob) ≡ Outcomes.Recent version size
  read : outcome_at s [] (Calls.Read blob version 0 size) ≡ Outcomes.Content bytes

module _ (s : Session) (blob version size : ℕ) (bytes : List ℕ) (is : IsLast s blob version size bytes) where
  last_version : (last : Last) → IsTold s blob last → last.version ≡ version
  last_version last told = version_is last.version version last.size size (sym told.recent ∙ is.recent)

  last_size : (last : Last) → IsTold s blob last → last.size ≡ size
  last_size last told = size_is last.version version last.size size (sym told.recent ∙ is.recent)

  last_bytes : (last : Last) → IsTold s blob last → last.bytes ≡ bytes
  last_bytes last told =
      bytes_are last.bytes bytes
      (sym told.read ∙ (ap (λ (v : ℕ). outcome_at s [] (Calls.Read blob v 0 last.size)) (last_version last told) ∙ (ap (λ (n : ℕ). outcome_at s [] (Calls.Read blob version 0 n)) (last_size last told) ∙ is.read)))

  -- nothing but the outside hinders the look
  last_outside : size ≤ max_read → (fault : Fault) → IsUntold s blob fault → IsOutside (λ page. s.fixed.page * page < size) fault
  last_outside few fault (IsUntold.no_blob none) = absurd (none version size is.recent)
  last_outside few fault (IsUntold.too_long v n told long) = absurd (let same : n ≡ size = size_is v version n size (sym told ∙ is.recent) in omega (arith, same, long, few))
  last_outside few fault (IsUntold.refused v n refusal told refused) =
      absurd
      (let read : outcome_at s [] (Calls.Read blob v 0 n) ≡ Outcomes.Content bytes =
      ap (λ (x : ℕ). outcome_at s [] (Calls.Read blob x 0 n)) (version_is v version n size (sym told ∙ is.recent))
      ∙ (ap (λ (x : ℕ). outcome_at s [] (Calls.Read blob version 0 x)) (size_is v version n size (sym told ∙ is.recent)) ∙ is.read) in
      let no : Outcomes.Refused refusal ≡ Outcomes.Content bytes = sym refused ∙ read in
      cc)
  last_outside few fault (IsUntold.outside v n told outside) =
      subst (λ (k : ℕ). IsOutside (λ page. s.fixed.page * page < k) fault) (size_is v version n size (sym told ∙ is.recent)) outside

-- all bytes of a blob of a load may be read at once
few_bytes : (plan : LoadPlan) → IsSized plan → 16 * all_ops plan ≤ max_read
few_bytes plan sized =
    let workers = sized.workers in
    let ops = sized.ops in
    grind (arith)

module _ (plan : LoadPlan) (s : Session) (sized : IsSized plan) (read_back : IsReadBack plan (store_of s.fixed.limits (s.seen ++ [])) s.caller) where
  the_log : IsLast s 1 (all_ops plan) (16 * all_ops plan) read_back.log_bytes
  the_log = record { recent = read_back.log_recent; read = read_back.log_read }

  the_grid : IsLast s 2 (all_ops plan + 1) (16 * all_ops plan) read_back.grid_bytes
  the_grid = record { recent = read_back.grid_recent; read = read_back.grid_read }

  summary_is : (log grid : Last) → IsTold s 1 log → IsTold s 2 grid → summed_up plan log grid ≡ summary_of plan
  summary_is log grid told_log told_grid =
      let n : ℕ = all_ops plan in
      let lv = last_version s 1 n (16 * n) read_back.log_bytes the_log log told_log in
      let ls = last_size s 1 n (16 * n) read_back.log_bytes the_log log told_log in
      let lb = last_bytes s 1 n (16 * n) read_back.log_bytes the_log log told_log in
      let gv = last_version s 2 (n + 1) (16 * n) read_back.grid_bytes the_grid grid told_grid in
      let gs = last_size s 2 (n + 1) (16 * n) read_back.grid_bytes the_grid grid told_grid in
      let gb = last_bytes s 2 (n + 1) (16 * n) read_back.grid_bytes the_grid grid told_grid in
      let order : in_order_of plan.workers plan.ops log.bytes ≡ plan.workers = ap (λ (b : List ℕ). in_order_of plan.workers plan.ops b) lb ∙ read_back.in_order in
      let total : sum grid.bytes ≡ cells_sum plan = ap (λ (b : List ℕ). sum b) gb ∙ read_back.grid_sum in
      rw (lv, ls, order, gv, gs, total) refl

  log_outside : (fault : Fault) → IsUntold s 1 fault → IsOutside (IsLoadPage plan s.fixed.page) fault
  log_outside fault untold = last_outside s 1 (all_ops plan) (16 * all_ops plan) read_back.log_bytes the_log (few_bytes plan sized) fault untold

  grid_outside : (fault : Fault) → IsUntold s 2 fault → IsOutside (IsLoadPage plan s.fixed.page) fault
  grid_outside fault untold = last_outside s 2 (all_ops plan + 1) (16 * all_ops plan) read_back.grid_bytes the_grid (few_bytes plan sized) fault untold

-- the same, of what had been seen and no more
seen_alone : (s : Session) (plan : LoadPlan) → IsReadBack plan (store_of s.fixed.limits s.seen) s.caller → IsReadBack plan (store_of s.fixed.limits (s.seen ++ [])) s.caller
seen_alone s plan read_back = subst (λ (h : List Event). IsReadBack plan (store_of s.fixed.limits h) s.caller) (sym (append-nil s.seen)) read_back

module _ (plan : LoadPlan) (s : Session) where
  pub no_log : (fault : Fault) (s' : Session) → LookEnds 1 (Err fault) s s' → SummaryEnds plan (Err fault) s s'
  no_log fault s' look = record { did = look.did; tells = λ same sized read_back. log_outside plan s sized (seen_alone s plan read_back) fault (look.tells same) }

  module _ (adds : LeavesAdd) (mid : Session) (log : Last) (first : LookEnds 1 (Ok log) s mid) (s' : Session) where
    module _ (two : HasDoneOwn mid [] s') (same : s'.seen ≡ s.seen) where
      log_told : IsTold s 1 log
      log_told = first.tells (seen_mid s mid s' first.did two same)

      at_mid : (call : Call) → outcome_at mid [] call ≡ outcome_at s [] call
      at_mid call = told_alike s mid s' first.did two same call

      end_is : s'.seen ≡ mid.seen
      end_is = seen_end s mid s' first.did two same

    pub no_grid : (fault : Fault) → LookEnds 2 (Err fault) mid s' → SummaryEnds plan (Err fault) s s'
    no_grid fault look = record {
      did = did_both adds s mid s' first.did look.did;
      tells = λ same sized read_back. grid_outside plan s sized (seen_alone s plan read_back) fault (untold_so s mid (at_mid look.did same) 2 first.did.leaves.fixed fault (look.tells (end_is look.did same)));
    }

    pub summed : (grid : Last) → LookEnds 2 (Ok grid) mid s' → SummaryEnds plan (Ok (summed_up plan log grid)) s s'
    summed grid look = record {
      did = did_both adds s mid s' first.did look.did;
      tells = λ same sized read_back.
          summary_is plan s sized (seen_alone s plan read_back) log grid (log_told look.did same) (told_so s mid (at_mid look.did same) 2 grid (look.tells (end_is look.did same)));
    }
