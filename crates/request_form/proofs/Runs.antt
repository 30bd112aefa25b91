-- How runs go on, that there is always one, and when a run is alone.
use Rattle.std.proofs.Common.{◌≡◌, ℕ, ◌+◌, Bool, true, false, if◌then◌else◌, List, [], ◌∷◌, ◌++◌, refl, sym, ◌∙◌, ap, subst, append_assoc, append-nil}
use Rattle.std.specs.Prelude.{Option, Some, None}
use Rattle.blob_model.specs.declared.call.Event.{Event}
use Rattle.blob_model.specs.declared.call.Event.TheVariants as Events
use Rattle.blob_model.specs.declared.call.Place.{Place}
use Rattle.request_form.specs.declared.form.Reply.{Reply}
use Rattle.request_form.specs.declared.form.Heard.{Heard}
use Rattle.request_form.specs.declared.form.Heard.TheVariants.{Asked, Wrong}
use Rattle.request_form.specs.declared.form.Fault.{Fault}
use Rattle.blob_model.specs.History.{AllOther}
use Rattle.request_form.specs.Session.{Session, HeldTicket, sees, ticket_at, AllOwn, IsNobody}
use Rattle.request_form.specs.Stream.{AllWellHeard}
use Rattle.request_form.specs.Turns.{Gap, Tickets, Turn, with_tickets, and_made, AfterGap, AfterTwoGaps}
use Rattle.request_form.specs.Answers.{Class, class_of, Unless, UpdateAnswer, FinishAnswer, ClassAnswer, update_fault, read_fault, ranges_fault}
use Rattle.request_form.specs.Transcript.{Run, ItemReply, is_last, until_quit, item_faults, faults_of}

well_if : (b : Bool) (hs : List Heard) → AllWellHeard hs → AllWellHeard (if b then [] else hs)
well_if true hs well = tt
well_if false hs well = well

-- of well heard items those up to a Quit are well heard
pub well_until : (hs : List Heard) → AllWellHeard hs → AllWellHeard (until_quit hs)
well_until [] well = tt
well_until (h ∷ hs) well = (well.0, well_if (is_last h) (until_quit hs) (well_until hs well.1))

-- ---- what a turn leaves as it is
-- A session keeps its caller and what is fixed, and sees more and more.
pub record Grows (s : Session) (more : List Event) (s' : Session) : Type 0 where
  pub fixed : s'.fixed ≡ s.fixed
  pub caller : s'.caller ≡ s.caller
  pub seen : s'.seen ≡ s.seen ++ more

pub made_is : (others made : List Event) → and_made others made ≡ others ++ made
made_is others [] = sym (append-nil others)
made_is others (e ∷ es) = refl

-- whatever becomes of its tickets
pub changed_grows : (t : Tickets) (s : Session) (more : List Event) (s' : Session) → s' ≡ with_tickets t (sees s more) → Grows s more s'
changed_grows Tickets.stay s more s' e = record { fixed = ap (λ (x : Session). x.fixed) e; caller = ap (λ (x : Session). x.caller) e; seen = ap (λ (x : Session). x.seen) e }
changed_grows (Tickets.hold blob version) s more s' e =
    record { fixed = ap (λ (x : Session). x.fixed) e; caller = ap (λ (x : Session). x.caller) e; seen = ap (λ (x : Session). x.seen) e }
changed_grows (Tickets.drop number) s more s' e = record { fixed = ap (λ (x : Session). x.fixed) e; caller = ap (λ (x : Session). x.caller) e; seen = ap (λ (x : Session). x.seen) e }
changed_grows (Tickets.let_go blob version) s more s' e =
    record { fixed = ap (λ (x : Session). x.fixed) e; caller = ap (λ (x : Session). x.caller) e; seen = ap (λ (x : Session). x.seen) e }

pub grows_none : (s s' : Session) → s'.fixed ≡ s.fixed → s'.caller ≡ s.caller → s'.seen ≡ s.seen → Grows s [] s'
grows_none s s' fixed caller seen = record { fixed = fixed; caller = caller; seen = simp append-nil seen }

pub same_grows : (s s' : Session) → s' ≡ s → Grows s [] s'
same_grows s s' e = grows_none s s' (ap (λ (x : Session). x.fixed) e) (ap (λ (x : Session). x.caller) e) (ap (λ (x : Session). x.seen) e)

pub Grows-trans : (s mid s' : Session) (first rest : List Event) → Grows s first mid → Grows mid rest s' → Grows s (first ++ rest) s'
Grows-trans s mid s' first rest a b = record {
  fixed = b.fixed ∙ a.fixed;
  caller = b.caller ∙ a.caller;
  seen = b.seen ∙ (ap (λ (x : List Event). x ++ rest) a.seen ∙ append_assoc s.seen first rest);
}

pub turn_grows : (gap : Gap) (s : Session) (May : List Event → Turn → Type 0) (reply : Reply) (s' : Session) (a : AfterGap gap s May reply s') → Grows s (and_made a.others a.turn.made) s'
turn_grows gap s May reply s' a = changed_grows a.turn.tickets s (and_made a.others a.turn.made) s' a.seen

pub two_turns_grow : (gap : Gap) (s : Session) (blob : ℕ) (place : Place) (bytes : List ℕ) (May : ℕ → ℕ → ℕ → List Event → List Event → Turn → Type 0) (reply : Reply) (s' : Session)
    (a : AfterTwoGaps gap s blob place bytes May reply s') → Grows s (a.others ++ Events.Assign s.caller blob place bytes ∷ and_made a.later a.turn.made) s'
two_turns_grow gap s blob place bytes May reply s' a =
    changed_grows a.turn.tickets s (a.others ++ Events.Assign s.caller blob place bytes ∷ and_made a.later a.turn.made) s' a.seen

-- These events stand in that list.
pub record Stands (seen others : List Event) : Type 0 where
  pub front : List Event
  pub back : List Event
  pub is : seen ≡ front ++ (others ++ back)

-- An answer is one also by other gaps, where those that stand in what was seen allow it.
module _ (gap gap' : Gap) (s s' : Session) (also : (others : List Event) → Stands s'.seen others → gap s.caller others → gap' s.caller others) where
  after_gap : (May : List Event → Turn → Type 0) (reply : Reply) → AfterGap gap s May reply s' → AfterGap gap' s May reply s'
  after_gap May reply a =
      let e = (turn_grows gap s May reply s' a).seen in
      let is : s'.seen ≡ s.seen ++ (a.others ++ a.turn.made) = e ∙ ap (λ (l : List Event). s.seen ++ l) (made_is a.others a.turn.made) in
      record { others = a.others; is_gap = also a.others (record { front = s.seen; back = a.turn.made; is = is }) a.is_gap; turn = a.turn; may = a.may; said = a.said; seen = a.seen }

  after_two_gaps : (blob : ℕ) (place : Place) (bytes : List ℕ) (May : ℕ → ℕ → ℕ → List Event → List Event → Turn → Type 0) (reply : Reply) →
      AfterTwoGaps gap s blob place bytes May reply s' → AfterTwoGaps gap' s blob place bytes May reply s'
  after_two_gaps blob place bytes May reply a =
      let this : Event = Events.Assign s.caller blob place bytes in
      let e = (two_turns_grow gap s blob place bytes May reply s' a).seen in
      let is : s'.seen ≡ s.seen ++ (a.others ++ this ∷ (a.later ++ a.turn.made)) = e ∙ ap (λ (l : List Event). s.seen ++ (a.others ++ this ∷ l)) (made_is a.later a.turn.made) in
      record {
        others = a.others;
        later = a.later;
        is_gap = also a.others (record { front = s.seen; back = this ∷ (a.later ++ a.turn.made); is = is }) a.is_gap;
        is_gap_later = also a.later (record { front = s.seen ++ (a.others ++ this ∷ []); back = a.turn.made; is = simp append_assoc is }) a.is_gap_later;
        version = a.version;
        at = a.at;
        size = a.size;
        numbered = a.numbered;
        turn = a.turn;
        may = a.may;
        said = a.said;
        seen = a.seen;
      }

  update_gap : (blob : ℕ) (place : Place) (bytes : List ℕ) (First : List Event → Turn → Type 0) (Second : ℕ → ℕ → ℕ → List Event → List Event → Turn → Type 0) (reply : Reply) →
      UpdateAnswer gap s blob place bytes First Second reply s' → UpdateAnswer gap' s blob place bytes First Second reply s'
  update_gap blob place bytes First Second reply (UpdateAnswer.once a) = UpdateAnswer.once (after_gap First reply a)
  update_gap blob place bytes First Second reply (UpdateAnswer.twice a) = UpdateAnswer.twice (after_two_gaps blob place bytes Second reply a)

  finish_gap : (number : ℕ) (ticket : Option HeldTicket) (reply : Reply) → FinishAnswer gap s number ticket reply s' → FinishAnswer gap' s number ticket reply s'
  finish_gap number None reply a = a
  finish_gap number (Some ticket) reply a = after_gap _ reply a

  unless_gap : (o : Option Fault) (reply : Reply) (Answer Answer' : Type 0) → (Answer → Answer') → Unless o s reply s' Answer → Unless o s reply s' Answer'
  unless_gap (Some fault) reply Answer Answer' f u = u
  unless_gap None reply Answer Answer' f u = f u

  class_gap : (reply : Reply) (c : Class) → ClassAnswer gap s c reply s' → ClassAnswer gap' s c reply s'
  class_gap reply (Class.looks call) a =
      record {
        others = a.others;
        is_gap = also a.others (record { front = s.seen; back = []; is = simp append-nil (ap (λ (x : Session). x.seen) a.seen) }) a.is_gap;
        said = a.said;
        seen = a.seen;
      }
  class_gap reply Class.greets a = a
  class_gap reply Class.quits a = a
  class_gap reply (Class.adds call) a = after_gap _ reply a
  class_gap reply (Class.reads blob version offset count) a = unless_gap (read_fault count) reply _ _ (after_gap _ reply) a
  class_gap reply (Class.reads_many blob version ranges) a = unless_gap (ranges_fault 0 ranges) reply _ _ (after_gap _ reply) a
  class_gap reply (Class.starts blob place bytes) a = unless_gap (update_fault s bytes) reply _ _ (update_gap blob place bytes _ _ reply) a
  class_gap reply (Class.updates blob place bytes) a = unless_gap (update_fault s bytes) reply _ _ (update_gap blob place bytes _ _ reply) a
  class_gap reply (Class.reports number) a = finish_gap number (ticket_at s.tickets number) reply a
  class_gap reply (Class.repairs blob version) a = after_gap _ reply a

  pub ItemReply-gap : (h : Heard) (reply : Reply) → ItemReply gap s h reply s' → ItemReply gap' s h reply s'
  ItemReply-gap (Asked request) reply a = class_gap reply (class_of request) a
  ItemReply-gap (Wrong fault) reply a = a

-- ---- what an answer adds to what was seen
module _ (gap : Gap) (s s' : Session) where
  abbrev Grown : Type 0
  Grown = (more : List Event) × Grows s more s'

  once_grows : (May : List Event → Turn → Type 0) (reply : Reply) → AfterGap gap s May reply s' → Grown
  once_grows May reply a = (_, turn_grows gap s May reply s' a)

  update_grows : (blob : ℕ) (place : Place) (bytes : List ℕ) (First : List Event → Turn → Type 0) (Second : ℕ → ℕ → ℕ → List Event → List Event → Turn → Type 0) (reply : Reply)
      → UpdateAnswer gap s blob place bytes First Second reply s' → Grown
  update_grows blob place bytes First Second reply (UpdateAnswer.once a) = once_grows First reply a
  update_grows blob place bytes First Second reply (UpdateAnswer.twice a) = (_, two_turns_grow gap s blob place bytes Second reply s' a)

  finish_grows : (number : ℕ) (ticket : Option HeldTicket) (reply : Reply) → FinishAnswer gap s number ticket reply s' → Grown
  finish_grows number None reply a = ([], same_grows s s' a.1)
  finish_grows number (Some ticket) reply a = once_grows _ reply a

  unless_grows : (o : Option Fault) (reply : Reply) (Answer : Type 0) → (Answer → Grown) → Unless o s reply s' Answer → Grown
  unless_grows (Some fault) reply Answer f u = ([], same_grows s s' u.1)
  unless_grows None reply Answer f u = f u

  pub class_grows : (c : Class) (reply : Reply) → ClassAnswer gap s c reply s' → Grown
  class_grows Class.greets reply a = ([], grows_none s s' (ap (λ (x : Session). x.fixed) a.1) (ap (λ (x : Session). x.caller) a.1) (ap (λ (x : Session). x.seen) a.1))
  class_grows Class.quits reply a = ([], same_grows s s' a.1)
  class_grows (Class.looks call) reply a = (a.others, changed_grows Tickets.stay s a.others s' a.seen)
  class_grows (Class.adds call) reply a = once_grows _ reply a
  class_grows (Class.reads blob version offset count) reply a = unless_grows (read_fault count) reply _ (once_grows _ reply) a
  class_grows (Class.reads_many blob version ranges) reply a = unless_grows (ranges_fault 0 ranges) reply _ (once_grows _ reply) a
  class_grows (Class.starts blob place bytes) reply a = unless_grows (update_fault s bytes) reply _ (update_grows blob place bytes _ _ reply) a
  class_grows (Class.updates blob place bytes) reply a = unless_grows (update_fault s bytes) reply _ (update_grows blob place bytes _ _ reply) a
  class_grows (Class.reports number) reply a = finish_grows number (ticket_at s.tickets number) reply a
  class_grows (Class.repairs blob version) reply a = once_grows _ reply a

  pub ItemReply-grows : (h : Heard) (reply : Reply) → ItemReply gap s h reply s' → Grown
  ItemReply-grows (Asked request) reply a = class_grows (class_of request) reply a
  ItemReply-grows (Wrong fault) reply a = ([], same_grows s s' a.1)

pub Run-grows : (gap : Gap) (s : Session) (hs : List Heard) (rs : List Reply) (s' : Session) → Run gap s hs rs s' → (more : List Event) × Grows s more s'
Run-grows gap s [] [] s' e = ([], same_grows s s' e)
Run-grows gap s (h ∷ hs) (r ∷ rs) s' (mid, item, rest) =
    let first = ItemReply-grows gap s mid h r item in
    let later = Run-grows gap mid hs rs s' rest in
    (first.0 ++ later.0, Grows-trans s mid s' first.0 later.0 first.1 later.1)
Run-grows gap s [] (r ∷ rs) s' none = absurd none
Run-grows gap s (h ∷ hs) [] s' none = absurd none

own_front : (caller : ℕ) (xs ys : List Event) → AllOwn caller (xs ++ ys) → AllOwn caller xs
own_front caller [] ys h = tt
own_front caller (x ∷ xs) ys h = (h.0, own_front caller xs ys h.1)

own_back : (caller : ℕ) (xs ys : List Event) → AllOwn caller (xs ++ ys) → AllOwn caller ys
own_back caller [] ys h = h
own_back caller (x ∷ xs) ys h = own_back caller xs ys h.1

nobody : (caller : ℕ) (xs : List Event) → AllOwn caller xs → AllOther caller xs → xs ≡ []
nobody caller [] own other = refl
nobody caller (x ∷ xs) own other = absurd (other.0 own.0)

nobody_stands : (caller : ℕ) (seen others : List Event) → AllOwn caller seen → Stands seen others → AllOther caller others → others ≡ []
nobody_stands caller seen others own stands other =
    let whole : AllOwn caller (stands.front ++ (others ++ stands.back)) = subst (AllOwn caller) stands.is own in
    nobody caller others (own_front caller others stands.back (own_back caller stands.front _ whole)) other

-- Where all that a session has seen is its own, nobody came in between.
pub Run-alone : (s : Session) (hs : List Heard) (rs : List Reply) (s' : Session) → AllOwn s.caller s'.seen → Run AllOther s hs rs s' → Run IsNobody s hs rs s'
Run-alone s [] [] s' own e = e
Run-alone s (h ∷ hs) (r ∷ rs) s' own (mid, item, rest) =
    let later = Run-grows AllOther mid hs rs s' rest in
    let same = (ItemReply-grows AllOther s mid h r item).1.caller in
    let now : AllOwn s.caller mid.seen = own_front s.caller mid.seen later.0 (subst (AllOwn s.caller) later.1.seen own) in (
      mid,
      ItemReply-gap AllOther IsNobody s mid (λ (others : List Event) (stands : Stands mid.seen others) (other : AllOther s.caller others). nobody_stands s.caller mid.seen others now stands other) h r item,
      Run-alone mid hs rs s' (subst (λ (c : ℕ). AllOwn c s'.seen) (sym same) own) rest,
    )
Run-alone s [] (r ∷ rs) s' own none = absurd none
Run-alone s (h ∷ hs) [] s' own none = absurd none

-- and the outside failed as often
pub alone_faults : (s : Session) (hs : List Heard) (rs : List Reply) (s' : Session) (own : AllOwn s.caller s'.seen) (run : Run AllOther s hs rs s')
    → faults_of IsNobody s hs rs s' (Run-alone s hs rs s' own run) ≡ faults_of AllOther s hs rs s' run
unfolding Run-alone
alone_faults s [] [] s' own e = refl
alone_faults s (h ∷ hs) (r ∷ rs) s' own (mid, item, rest) =
    let same = (ItemReply-grows AllOther s mid h r item).1.caller in
    ap (λ (n : ℕ). item_faults mid h r + n) (alone_faults mid hs rs s' (subst (λ (c : ℕ). AllOwn c s'.seen) (sym same) own) rest)
alone_faults s [] (r ∷ rs) s' own none = absurd none
alone_faults s (h ∷ hs) [] s' own none = absurd none
