-- How progress goes on.
use Rattle.std.proofs.Common.{◌≡◌, ℕ, ◌+◌, true, false, if◌then◌else◌, List, [], ◌∷◌, ◌++◌, refl, sym, ◌∙◌, ap, subst, append_assoc, append-nil, zero-add, add-zero, add_assoc, arith}
use Rattle.std.proofs.lemmas.List.Concat.{flat_map-append}
use Rattle.std.proofs.KnownBytes.{Appends-nil, Appends-trans}
use Rattle.std.specs.Prelude.{Option, flat_map}
use Rattle.std.specs.Io.KnownBytes.{Appends}
use Rattle.faults.specs.Counts.{RoseBy}
use Rattle.items.specs.Items.{ItemStream, after_item, after_items}
use Rattle.items.specs.Rounds.{until_last, has_last, Rounds, sum_rounds}
use Rattle.items.proofs.Rounds.{until_last-append, has_last-append, until_last-last}
use Rattle.server_core.specs.Talk.{Talk, PointOf}
use Rattle.server_core.specs.Conversing.{Progress, Writes, AnswersFront, IsQuitBy, Goes, Quits, Stops, IsDrained}
use Rattle.server_core.specs.declared.flow.Flow.{Flow}
use Rattle.faults.proofs.Counts.{RoseBy-trans}

-- rounds and then more, and their numbers added up
module _ {A B S : Type 0} (Answers : S → A → B → S → Type 0) (count : S → A → B → ℕ) where
  abbrev pub sum : (s : S) (items : List A) (replies : List B) (s' : S) → Rounds Answers s items replies s' → ℕ
  sum s items replies s' rounds = sum_rounds count Answers s items replies s' rounds

  -- these rounds, for which the numbers add up to that
  abbrev pub Summed : S → List A → List B → S → ℕ → Type 0
  Summed s items replies s' total = (rounds : Rounds Answers s items replies s') × (sum s items replies s' rounds ≡ total)

  pub Rounds-both : (s : S) (items : List A) (replies : List B) (mid : S) (more : List A) (replies' : List B) (s' : S) (run : Rounds Answers s items replies mid) (rounds : Rounds Answers mid more replies' s') →
      Summed s (items ++ more) (replies ++ replies') s' (sum s items replies mid run + sum mid more replies' s' rounds)
  Rounds-both s [] [] mid more replies' s' e rounds = subst (λ (x : S). Summed x more replies' s' (0 + sum mid more replies' s' rounds)) e (rounds, sym (zero-add (sum mid more replies' s' rounds)))
  Rounds-both s (item ∷ items) (reply ∷ replies) mid more replies' s' (m, first, rest) rounds =
      let on = Rounds-both m items replies mid more replies' s' rest rounds in
      ((m, first, on.0), ap (λ (n : ℕ). count m item reply + n) on.1 ∙ sym (add_assoc (count m item reply) (sum m items replies mid rest) (sum mid more replies' s' rounds)))
  Rounds-both s [] (reply ∷ replies) mid more replies' s' none rounds = absurd none
  Rounds-both s (item ∷ items) [] mid more replies' s' none rounds = absurd none

-- what stays as it was is appended nothing
pub Appends-none : (a b : Option (List ℕ)) → b ≡ a → Appends a b []
Appends-none a b e = subst (λ (x : Option (List ℕ)). Appends a x []) (sym e) (Appends-nil a)

-- the point of that session and count
abbrev pub point : {Session : Type 0} → Session → ℕ → Option (List ℕ) → PointOf Session
point session faults written = record { session = session; faults = faults; written = written }

-- what holds of a point holds of that of the same session and count
pub at_point : {Session : Type 0} (P : PointOf Session → Type 0) (session session' : Session) (faults faults' : ℕ) (written : Option (List ℕ)) → session' ≡ session → faults' ≡ faults →
    P (point session faults written) → P (point session' faults' written)
at_point {Session = Session} P session session' faults faults' written same same_faults p =
    subst (λ (x : Session). P (point x faults' written)) (sym same) (subst (λ (n : ℕ). P (point session n written)) (sym same_faults) p)

-- one item
pub Progress-one : {Item : Type 0} (talk : Talk Item) (held : List ℕ) (old new : PointOf talk.Session) (heard : Item) (reply : talk.Reply) (rest : List ℕ) →
    talk.Answers old.session heard reply new.session → RoseBy (talk.fault_count new.session heard reply) old.faults new.faults →
    Writes held (talk.said reply) old.written new.written rest → Progress talk held old (heard ∷ []) rest new
Progress-one talk held old new heard reply rest item faults w =
    record { replies = reply ∷ []; out = w.out; run = (new.session, item, refl); faults = rw (add-zero (talk.fault_count new.session heard reply)) faults; adds = w.adds; says = rw (append-nil (talk.said reply)) w.joins }

pub says_more : (held middle rest a b out out' whole : List ℕ) → whole ≡ a ++ b → held ++ a ≡ out ++ middle → middle ++ b ≡ out' ++ rest → held ++ whole ≡ (out ++ out') ++ rest
says_more held middle rest a b out out' whole e f g =
    ap (λ (x : List ℕ). held ++ x) e ∙ (sym (append_assoc held a b) ∙ (ap (λ (x : List ℕ). x ++ b) f ∙ (append_assoc out middle b ∙ (ap (λ (x : List ℕ). out ++ x) g ∙ sym (append_assoc out out' rest)))))

-- and then more
abbrev pub Progress-trans : {Item : Type 0} (talk : Talk Item) (held : List ℕ) (old mid new : PointOf talk.Session) (items more : List Item) (middle rest : List ℕ) →
    Progress talk held old items middle mid → Progress talk middle mid more rest new → Progress talk held old (items ++ more) rest new
Progress-trans talk held old mid new items more middle rest p q =
    let both = Rounds-both talk.Answers talk.fault_count old.session items p.replies mid.session more q.replies new.session p.run q.run in
    record {
      replies = p.replies ++ q.replies;
      out = p.out ++ q.out;
      run = both.0;
      faults = rw (both.1) (RoseBy-trans _ _ _ _ _ p.faults q.faults);
      adds = Appends-trans old.written mid.written new.written p.out q.out p.adds q.adds;
      says = says_more held middle rest (flat_map talk.said p.replies) (flat_map talk.said q.replies) p.out q.out _ (flat_map-append talk.said p.replies q.replies) p.says q.says;
    }

abbrev pub Progress-none : {Item : Type 0} (talk : Talk Item) (held : List ℕ) (at : PointOf talk.Session) → Progress talk held at [] held at
Progress-none talk held at =
    record { replies = []; out = []; run = refl; faults = record { later = omega arith; by = λ h. omega arith }; adds = Appends-none _ _ refl; says = append-nil held }

module _ {Item : Type 0} (talk : Talk Item) (session session' : talk.Session) (faults faults' : ℕ) (written : Option (List ℕ)) (same : session' ≡ session) (same_faults : faults' ≡ faults) where
  -- what was answered so far, where a step changed neither the session nor its count
  pub Goes-at : (old : PointOf talk.Session) (before : List ℕ → ItemStream Item) (held : List ℕ) (now : List ℕ → ItemStream Item) →
      Goes talk old before held (point session faults written) now → Goes talk old before held (point session' faults' written) now
  Goes-at old before held now goes = at_point (λ (p : PointOf talk.Session). Goes talk old before held p now) session session' faults faults' written same same_faults goes

  pub Stops-at-same : (old : PointOf talk.Session) (before : List ℕ → ItemStream Item) (rest : List ℕ) →
      Stops talk old before rest (point session faults written) → Stops talk old before rest (point session' faults' written)
  Stops-at-same old before rest stops = at_point (λ (p : PointOf talk.Session). Stops talk old before rest p) session session' faults faults' written same same_faults stops

  -- what was answered after such a step
  pub Progress-from : (held : List ℕ) (items : List Item) (rest : List ℕ) (new : PointOf talk.Session) →
      Progress talk held (point session' faults' written) items rest new → Progress talk held (point session faults written) items rest new
  Progress-from held items rest new progress = at_point (λ (p : PointOf talk.Session). Progress talk held p items rest new) session' session faults' faults written (sym same) (sym same_faults) progress

  pub IsDrained-from : (before : List ℕ → ItemStream Item) (held : List ℕ) (new : PointOf talk.Session) (after : List ℕ → ItemStream Item) (flow : Flow) →
      IsDrained talk (point session' faults' written) before held new after flow → IsDrained talk (point session faults written) before held new after flow
  IsDrained-from before held new after flow drained = at_point (λ (p : PointOf talk.Session). IsDrained talk p before held new after flow) session' session faults' faults written (sym same) (sym same_faults) drained

-- nothing was answered yet
pub Goes-none : {Item : Type 0} (talk : Talk Item) (at : PointOf talk.Session) (reads : List ℕ → ItemStream Item) → Goes talk at reads [] at reads
Goes-none talk at reads = record {
  items = [];
  progress = Progress-none talk [] at;
  goes = refl;
  reads = λ more. refl;
}

-- nothing is held when the first item is answered
pub goes_from : {Item : Type 0} (talk : Talk Item) (at : PointOf talk.Session) (reads : List ℕ → ItemStream Item) (held : List ℕ) → held ≡ [] → Goes talk at reads held at reads
goes_from talk at reads held none = subst (λ (xs : List ℕ). Goes talk at reads xs at reads) (sym none) (Goes-none talk at reads)

-- ---- what was held is written

-- the same point with more written
abbrev pub written_at : {Session : Type 0} → PointOf Session → Option (List ℕ) → PointOf Session
written_at at written = point at.session at.faults written

says_out : (whole out held unsaid more rest : List ℕ) → whole ≡ out ++ (held ++ unsaid) → held ++ [] ≡ more ++ rest → whole ≡ (out ++ more) ++ (rest ++ unsaid)
says_out whole out held unsaid more rest e f =
    let f' : held ≡ more ++ rest = sym (append-nil held) ∙ f in
    e ∙ (ap (λ (x : List ℕ). out ++ (x ++ unsaid)) f' ∙ (ap (λ (x : List ℕ). out ++ x) (append_assoc more rest unsaid) ∙ sym (append_assoc out more (rest ++ unsaid))))

module _ {Item : Type 0} (talk : Talk Item) (from : List ℕ) (old : PointOf talk.Session) (items : List Item) (held : List ℕ) (new : PointOf talk.Session) (written : Option (List ℕ)) (rest : List ℕ) (w : Writes held [] new.written written rest) where
  pub Progress-out : (unsaid : List ℕ) → Progress talk from old items (held ++ unsaid) new → Progress talk from old items (rest ++ unsaid) (written_at new written)
  Progress-out unsaid p = record {
    replies = p.replies;
    out = p.out ++ w.out;
    run = p.run;
    faults = p.faults;
    adds = Appends-trans old.written new.written written p.out w.out p.adds w.adds;
    says = says_out (from ++ flat_map talk.said p.replies) p.out held unsaid w.out rest p.says w.joins;
  }

  pub Progress-all : Progress talk from old items held new → Progress talk from old items rest (written_at new written)
  Progress-all p =
      let q : Progress talk from old items (held ++ []) new = subst (λ (xs : List ℕ). Progress talk from old items xs new) (sym (append-nil held)) p in
      subst (λ (xs : List ℕ). Progress talk from old items xs (written_at new written)) (append-nil rest) (Progress-out [] q)

after_items-more : {Item : Type 0} (items : List Item) (heard : Item) (stream : ItemStream Item) → after_items items (after_item heard stream) ≡ after_items (items ++ heard ∷ []) stream
after_items-more items heard stream = simp append_assoc

module _ {Item : Type 0} (talk : Talk Item) (old : PointOf talk.Session) (before : List ℕ → ItemStream Item) (held : List ℕ) (mid : PointOf talk.Session) (now : List ℕ → ItemStream Item) (goes : Goes talk old before held mid now) (heard : Item) (after : List ℕ → ItemStream Item) (next : (more : List ℕ) → now more ≡ after_item heard (after more)) where
  items_now : (more : List ℕ) → (before more).items ≡ goes.items ++ heard ∷ (after more).items
  items_now more = ap (λ (x : ItemStream Item). x.items) (goes.reads more) ∙ ap (λ (x : ItemStream Item). goes.items ++ x.items) (next more)

  whole_now : (more : List ℕ) → (before more).whole ≡ goes.items ++ heard ∷ (after more).whole
  whole_now more = ap (λ (x : ItemStream Item). x.whole) (goes.reads more) ∙ ap (λ (x : ItemStream Item). goes.items ++ x.whole) (next more)

  quit_by : (xs ys : List Item) → xs ≡ goes.items ++ heard ∷ ys → talk.is_last heard ≡ true → IsQuitBy talk.is_last (goes.items ++ heard ∷ []) xs
  quit_by xs ys is e = (
    ap (until_last talk.is_last) is ∙ (until_last-append talk.is_last goes.items (heard ∷ ys) goes.goes ∙ ap (λ (x : List Item). goes.items ++ x) (until_last-last talk.is_last heard ys e)),
    ap (has_last talk.is_last) is ∙ (has_last-append talk.is_last goes.items (heard ∷ ys) goes.goes ∙ (rw e refl)),
  )

  front_by : (xs ys : List Item) → xs ≡ goes.items ++ heard ∷ ys → AnswersFront talk.is_last xs (goes.items ++ heard ∷ [])
  front_by xs ys is = (
    (if talk.is_last heard then [] else until_last talk.is_last ys),
    ap (until_last talk.is_last) is ∙ (until_last-append talk.is_last goes.items (heard ∷ ys) goes.goes ∙ sym (append_assoc goes.items (heard ∷ []) (if talk.is_last heard then [] else until_last talk.is_last ys))),
  )

  pub Goes-more : (held' : List ℕ) (new : PointOf talk.Session) → Progress talk held mid (heard ∷ []) held' new → talk.is_last heard ≡ false → Goes talk old before held' new after
  Goes-more held' new progress e = record {
    items = goes.items ++ heard ∷ [];
    progress = Progress-trans talk [] old mid new goes.items (heard ∷ []) held held' goes.progress progress;
    goes = has_last-append talk.is_last goes.items (heard ∷ []) goes.goes ∙ (rw e refl);
    reads = λ more. goes.reads more ∙ (ap (after_items goes.items) (next more) ∙ after_items-more goes.items heard (after more));
  }

  pub Quits-at : (held' : List ℕ) (new : PointOf talk.Session) → Progress talk held mid (heard ∷ []) held' new → talk.is_last heard ≡ true → Quits talk old before held' new
  Quits-at held' new progress e = record {
    items = goes.items ++ heard ∷ [];
    progress = Progress-trans talk [] old mid new goes.items (heard ∷ []) held held' goes.progress progress;
    reads = λ more. quit_by (before more).items (after more).items (items_now more) e;
    whole = λ more. quit_by (before more).whole (after more).whole (whole_now more) e;
  }

  pub Stops-at : (new : PointOf talk.Session) (rest : List ℕ) → Progress talk held mid (heard ∷ []) rest new → Stops talk old before rest new
  Stops-at new rest progress = record {
    items = goes.items ++ heard ∷ [];
    progress = Progress-trans talk [] old mid new goes.items (heard ∷ []) held rest goes.progress progress;
    reads = λ more. front_by (before more).items (after more).items (items_now more);
    whole = λ more. front_by (before more).whole (after more).whole (whole_now more);
  }

pub Stops-here : {Item : Type 0} (talk : Talk Item) (old : PointOf talk.Session) (before : List ℕ → ItemStream Item) (held : List ℕ) (mid : PointOf talk.Session) (now : List ℕ → ItemStream Item) → Goes talk old before held mid now → Stops talk old before held mid
Stops-here {Item = Item} talk old before held mid now goes = record {
  items = goes.items;
  progress = goes.progress;
  reads = λ more. (
    until_last talk.is_last (now more).items,
    ap (λ (x : ItemStream Item). until_last talk.is_last x.items) (goes.reads more) ∙ until_last-append talk.is_last goes.items (now more).items goes.goes,
  );
  whole = λ more. (
    until_last talk.is_last (now more).whole,
    ap (λ (x : ItemStream Item). until_last talk.is_last x.whole) (goes.reads more) ∙ until_last-append talk.is_last goes.items (now more).whole goes.goes,
  );
}

-- no memory for the next item
pub stops_there : {Item : Type 0} (talk : Talk Item) (old : PointOf talk.Session) (before : List ℕ → ItemStream Item) (held : List ℕ) (mid : PointOf talk.Session) (now : List ℕ → ItemStream Item) → Goes talk old before held mid now →
    (unsaid : List ℕ) × Stops talk old before (held ++ unsaid) mid
stops_there {Item = Item} talk old before held mid now goes =
    ([], subst (λ (xs : List ℕ). Stops talk old before xs mid) (sym (append-nil held)) (Stops-here talk old before held mid now goes))
