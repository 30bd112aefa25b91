-- Each history has a world.
use Rattle.std.proofs.Common.{◌≡◌, ◌≢◌, ℕ, ◌-◌, ◌<◌, ◌≤◌, ◌^◌, ◌⊎◌, zero, suc, true, false, List, []}
use Rattle.std.proofs.Common.{◌∷◌, ◌++◌, length, take, drop, refl, sym, ap, subst, ◌∙◌, arith, inl, inr, append-nil, append_assoc, length-append}
use Rattle.std.specs.Prelude.{Some}
use Rattle.std.specs.List.{Contains}
use Rattle.std.proofs.lemmas.Bool.{cases_lt}
use Rattle.std.proofs.lemmas.List.{map-append, length-map, length-take-le, length-drop, take-append-drop}
use Rattle.blob_model.specs.Store.{Store, Blob, blob_at, published}
use Rattle.blob_model.specs.Answer.{answer}
use Rattle.blob_model.specs.History.{store_of, IsAccepted, IsLegal, IsLegalFrom, caller_of, call_of, is_refused}
use Rattle.blob_model.specs.declared.call.Call.TheVariants as Calls
use Rattle.blob_model.specs.declared.call.Event.{Event}
use Rattle.blob_model.specs.declared.call.Place.{Place}
use Rattle.blob_model.specs.declared.call.Event.TheVariants as Events
use Rattle.tree_geom.specs.declared.range.Range.{Range}
use Rattle.tree_geom.specs.declared.node.Node.{Node}
use Rattle.tree_geom.specs.declared.node.NodeKey.{NodeKey}
use Rattle.tree_geom.specs.Geometry.{page_range}
use Rattle.range_log.specs.Depths.{fold_number}
use Rattle.range_log.specs.Extents.{InBounds}
use Rattle.range_log.specs.Log.{HasNode}
use Rattle.range_log.specs.Rows.{folds_of, folded_of, row_keys_of, node_of}
use Rattle.range_log.specs.Updates.{extents}
use Rattle.range_log.proofs.Bytes.{length-extents, extents_stand}
use Rattle.range_log.proofs.Exact.{row_keys_exact}
use Rattle.range_log.proofs.Folds.{folds_are}
use Rattle.blob_core.specs.World.{World, UpdateEntry, IsKnown, empty_world, page_at, fold_at, kept_at, node_at, bytes_of_page, bytes_of_pages, AreCut, log_of}
use Rattle.blob_core.specs.Woven.{woven_folded}
use Rattle.blob_core.specs.Steps.{IsNumberedIn, IsFolded, IsAllowed, AllAllowed, after, world_after, events_of, events_from}
use Rattle.blob_core.specs.Standing.{ReachedStays, WeavesRow}
use Rattle.blob_core.specs.Promises.{StepsHold, NodesAreRows}
use Rattle.blob_core.specs.declared.step.Step.{Step}
use Rattle.blob_core.specs.declared.step.Step.TheVariants as Moves
use Rattle.blob_core.proofs.Lists.{one_value, bytes_are}
use Rattle.blob_core.proofs.Taken.{finish_done}
use Rattle.version_manager.specs.declared.journal.DeskFixed.{DeskFixed}
use Rattle.version_manager.specs.Desks.{updates_or_none, published_or_none}
use Rattle.version_manager.specs.Folds.{IsInOrder, AreInOrder}
use Rattle.version_manager.specs.Log.{IsLog, events, tag, tagged}
use Rattle.version_manager.proofs.Orders.{order_front}
use Rattle.tree_geom.proofs.Spans.{page_pos}
use Rattle.world_acts.specs.Worlds.{IsWorldOf, IsStep, StoresAgree, HasAllOf, WorldsOnlyGrow, HistoriesHaveWorlds}
use Rattle.world_acts.specs.Together.{IsPutFor, ArePutsFor, IsTurnOf, IsActsOf, AreActs, in_turn, SessionsTogether}
use Rattle.world_acts.proofs.Steps.{world_append, allowed_append, events_append, one_step, quiet_step, empty_is_a_world, worlds_are_reached}
use Rattle.world_acts.proofs.Turns.{accepted, events_more}
use Rattle.world_acts.proofs.Pages.{page_putting, numbers_go_on}
use Rattle.world_acts.proofs.Folding.{contains_some, known_after}
use Rattle.world_acts.proofs.Weaving.{node_after}
use Rattle.world_acts.proofs.Finishing.{numbered_by, finish_unfinished, numbered_in}
use Rattle.world_acts.proofs.Growing.{has_itself, has_further}

-- ---- a world of the same history that has more, by steps of this kind
record More (e : Event) (f : DeskFixed) (history : List (ℕ × Event)) (w : World) : Type 0 where
  to : World
  world : IsWorldOf f history to
  all : HasAllOf w to
  steps : List Step
  each : ArePutsFor e steps
  allowed : AllAllowed f.page_size w steps
  is : to ≡ world_after f.page_size w steps

abbrev none_more : (e : Event) (f : DeskFixed) (history : List (ℕ × Event)) (w : World) → IsWorldOf f history w → More e f history w
none_more e f history w a = record { to = w; world = a; all = has_itself w; steps = []; each = tt; allowed = tt; is = refl }

-- one step that is no event, and then more
abbrev step_more : WorldsOnlyGrow → (e : Event) (f : DeskFixed) (history : List (ℕ × Event)) (w : World) (step : Step) → IsPutFor e step → IsWorldOf f history w → IsStep f w step history
    → More e f history (after f.page_size w step) → More e f history w
step_more grow e f history w step put a one m = record {
  to = m.to;
  world = m.world;
  all = has_further w (after f.page_size w step) m.to (grow f history w (step ∷ []) a (one.allowed, tt)) m.all;
  steps = step ∷ m.steps;
  each = (put, m.each);
  allowed = (one.allowed, m.allowed);
  is = m.is;
}

puts_both : (e : Event) (xs ys : List Step) → ArePutsFor e xs → ArePutsFor e ys → ArePutsFor e (xs ++ ys)
puts_both e [] ys a b = b
puts_both e (x ∷ xs) ys a b = (a.0, puts_both e xs ys a.1 b)

-- more, and then more again
abbrev both_more : (e : Event) (f : DeskFixed) (history : List (ℕ × Event)) (w : World) (m : More e f history w) → More e f history m.to → More e f history w
both_more e f history w m n = record {
  to = n.to;
  world = n.world;
  all = has_further w m.to n.to m.all n.all;
  steps = m.steps ++ n.steps;
  each = puts_both e m.steps n.steps m.each n.each;
  allowed = allowed_append f.page_size w m.steps n.steps m.allowed (subst (λ (x : World). AllAllowed f.page_size x n.steps) m.is n.allowed);
  is = n.is ∙ ap (λ (x : World). world_after f.page_size x n.steps) m.is ∙ sym (world_append f.page_size w m.steps n.steps);
}

-- ---- the acts of an event

-- puts are no events
put_tells_none : (e : Event) (w : World) (step : Step) → IsPutFor e step → events_of w step ≡ []
put_tells_none (Events.Create caller) w step put = absurd put
put_tells_none (Events.Branch caller blob version) w step put = absurd put
put_tells_none (Events.Assign caller blob place bytes) w step (page, (part, is)) = subst (λ (s : Step). events_of w s ≡ []) (sym is) refl
put_tells_none (Events.Finish caller blob version) w step (inl (page, is)) = subst (λ (s : Step). events_of w s ≡ []) (sym is) refl
put_tells_none (Events.Finish caller blob version) w step (inr (range, is)) = subst (λ (s : Step). events_of w s ≡ []) (sym is) refl

puts_tell_none : (e : Event) (p : ℕ) (w : World) (steps : List Step) → ArePutsFor e steps → events_from p w steps ≡ []
puts_tell_none e p w [] all = refl
puts_tell_none e p w (step ∷ steps) all =
    ap (λ (l : List Event). l ++ events_from p (after p w step) steps) (put_tells_none e w step all.0) ∙ puts_tell_none e p (after p w step) steps all.1

-- the acts of an event lead to a world of the history with it
record Acted (f : DeskFixed) (now : List (ℕ × Event)) (w : World) (e : Event) : Type 0 where
  acts : List Step
  are : IsActsOf e acts
  allowed : AllAllowed f.page_size w acts
  tells : events_from f.page_size w acts ≡ e ∷ []
  world : IsWorldOf f now (world_after f.page_size w acts)

-- puts, and then the turn
acted : (f : DeskFixed) (history now : List (ℕ × Event)) (w : World) (e : Event) (turn : Step) (m : More e f history w) → IsTurnOf e turn → IsStep f m.to turn now
    → events_of m.to turn ≡ e ∷ [] → Acted f now w e
acted f history now w e turn m of_event step tells =
    let p : ℕ = f.page_size in
    let last : world_after p w (m.steps ++ turn ∷ []) ≡ after p m.to turn = world_append p w m.steps (turn ∷ []) ∙ ap (λ (x : World). after p x turn) (sym m.is) in
    record {
      acts = m.steps ++ turn ∷ [];
      are = record { puts = m.steps; each = m.each; turn = turn; is_turn = of_event; are = refl };
      allowed = allowed_append p w m.steps (turn ∷ []) m.allowed (subst (λ (x : World). IsAllowed p x turn) m.is step.allowed, tt);
      tells =
          events_append p w m.steps (turn ∷ [])
          ∙ ap (λ (l : List Event). l ++ events_from p (world_after p w m.steps) (turn ∷ [])) (puts_tell_none e p w m.steps m.each)
          ∙ append-nil (events_of (world_after p w m.steps) turn)
          ∙ ap (λ (x : World). events_of x turn) (sym m.is)
          ∙ tells;
      world = subst (λ (x : World). IsWorldOf f now x) (sym last) step.leads;
    }

-- ---- the pages of some bytes
record Cutting (e : Event) (f : DeskFixed) (history : List (ℕ × Event)) (w : World) (bytes : List ℕ) : Type 0 where
  more : More e f history w
  numbers : List ℕ
  cut : AreCut f.page_size more.to.pages numbers
  joined : bytes_of_pages more.to.pages numbers ≡ bytes

cut_cons : (p : ℕ) (stored : List (ℕ × List ℕ)) (number : ℕ) (numbers : List ℕ) → IsKnown (page_at stored number) → length (bytes_of_page stored number) ≡ p → AreCut p stored numbers
    → AreCut p stored (number ∷ numbers)
cut_cons p stored number [] known full cut = absurd cut
cut_cons p stored number (next ∷ numbers) known full cut = (known, full, cut)

-- a member of a list is its first item or a member of the rest
first_or_rest : {A : Type 0} (x : A) (xs : List A) (y : A) → Contains (x ∷ xs) y → (x ≡ y) ⊎ Contains xs y
first_or_rest x xs y (zero, lt, e) = inl e
first_or_rest x xs y (suc k, lt, e) = inr (k, omega (arith, lt), e)

module _ (grow : WorldsOnlyGrow) (e : Event) (of_page : (page : ℕ) (bytes : List ℕ) → IsPutFor e (Moves.PagePut page bytes)) (f : DeskFixed) (history : List (ℕ × Event)) where
  cutting : (most : ℕ) (w : World) (bytes : List ℕ) → IsWorldOf f history w → 1 ≤ length bytes → length bytes ≤ most → Cutting e f history w bytes
  cutting zero w bytes a some few = absurd (omega (arith, some, few))
  cutting (suc most) w bytes a some few =
      let p : ℕ = f.page_size in
      let pos : 1 ≤ p = page_pos p a.page_size in
      let (n, new) = numbers_go_on w in
      elim (cases_lt p (length bytes)) [
        | inr last ↦
            let v : World = after p w (Moves.PagePut n bytes) in
            let (one, is) = page_putting f history w n bytes a new some last in
            record {
              more = step_more grow e f history w (Moves.PagePut n bytes) (of_page n bytes) a one (none_more e f history v one.leads);
              numbers = n ∷ [];
              cut = (bytes, is);
              joined = append-nil (bytes_of_page v.pages n) ∙ bytes_are v.pages n bytes is;
            }
        | inl more ↦
            let first : List ℕ = take p bytes in
            let full : length first ≡ p = length-take-le p bytes (omega (arith, more)) in
            let v : World = after p w (Moves.PagePut n first) in
            let (one, put) = page_putting f history w n first a new (omega (arith, full, pos)) (omega (arith, full)) in
            let rest : length (drop p bytes) ≡ length bytes - p = length-drop p bytes in
            let c : Cutting e f history v (drop p bytes) = cutting most v (drop p bytes) one.leads (omega (arith, rest, more)) (omega (arith, rest, few, pos)) in
            let is : page_at c.more.to.pages n ≡ Some first = c.more.all.pages n first put in
            let own : bytes_of_page c.more.to.pages n ≡ first = bytes_are c.more.to.pages n first is in
            record {
              more = step_more grow e f history w (Moves.PagePut n first) (of_page n first) a one c.more;
              numbers = n ∷ c.numbers;
              cut = cut_cons p c.more.to.pages n c.numbers (first, is) (ap length own ∙ full) c.cut;
              joined = ap (λ (l : List ℕ). l ++ bytes_of_pages c.more.to.pages c.numbers) own ∙ ap (λ (l : List ℕ). first ++ l) c.joined ∙ take-append-drop p bytes;
            }
      ]

-- ---- the row of an update
module _ (agree : StoresAgree) (hold : StepsHold) (reached : ReachedStays) (grow : WorldsOnlyGrow) (f : DeskFixed) (history : List (ℕ × Event)) (blob version : ℕ) (b : Blob)
    (own : (w : World) → IsWorldOf f history w → IsNumberedIn w blob version b) (e : Event) (of_fold : (page : ℕ) → IsPutFor e (Moves.FoldPut blob version page))
    (of_node : (r : Range) → IsPutFor e (Moves.NodePut (record { blob = blob; version = version; range = r }))) where
  abbrev anew : List ℕ
  anew = folds_of f.page_size (extents b.updates) version

  weaves : (w : World) → IsWorldOf f history w → WeavesRow f.page_size w blob b version
  weaves w a = ((reached f.page_size w (worlds_are_reached f history w a)).blobs blob b (own w a).there).weaves version (own w a)

  bounds : (w : World) → IsWorldOf f history w → InBounds (extents b.updates)
  bounds w a = (extents_stand b.updates ((reached f.page_size w (worlds_are_reached f history w a)).blobs blob b (own w a).there).replay).0

  long : (w : World) → IsWorldOf f history w → version ≤ length (extents b.updates)
  long w a = omega (arith, (own w a).upto, length-extents b.updates)

  record Folded (w : World) (pages : List ℕ) : Type 0 where
    more : More e f history w
    known : (page : ℕ) → Contains pages page → IsKnown (fold_at more.to.folded blob version page)

  -- the pages that it stores anew, once the version before it is published
  folding : (anew ≢ [] → version - 1 ≤ published b) → (pages : List ℕ) → ((page : ℕ) → Contains pages page → Contains anew page) → (w : World) → IsWorldOf f history w → Folded w pages
  folding before [] all w a = record { more = none_more e f history w a; known = λ page c. absurd (omega (arith, c.1)) }
  folding before (page ∷ pages) all w a =
      let p : ℕ = f.page_size in
      let one : Contains anew page = all page (0, omega arith, refl) in
      let k : WeavesRow p w blob b version = weaves w a in
      let met = ((folds_are p version (extents b.updates) (page_pos p a.page_size) (bounds w a) (own w a).some (long w a)).0 page).0 one in
      let folded : IsFolded p w blob version b page = record { kept = k.kept; there = k.there; met = met.0; anew = k.folded page ∙ met.1 } in
      let step : IsStep f w (Moves.FoldPut blob version page) history =
      quiet_step f history w (Moves.FoldPut blob version page) a (b, own w a, folded, before (contains_some anew page one)) refl in
      let v : World = after p w (Moves.FoldPut blob version page) in
      let (bytes, is) = known_after p w blob version page b k.kept (own w a).there k.there (fold_at w.folded blob version page) refl in
      let rest : Folded v pages = folding before pages (λ i c. all i (suc c.0, omega (arith, c.1), c.2)) v step.leads in
      record {
        more = step_more grow e f history w (Moves.FoldPut blob version page) (of_fold page) a step rest.more;
        known = λ i c. elim (first_or_rest page pages i c) [ inl here ↦ rw (← here) (bytes, rest.more.all.folded blob version page bytes is) | inr there ↦ rest.known i there ];
      }

  record Woven (w : World) (ranges : List Range) : Type 0 where
    more : More e f history w
    known : (r : Range) → Contains ranges r → IsKnown (node_at more.to.nodes (record { blob = blob; version = version; range = r }))

  -- the nodes of its row, where the pages are there that it stores anew
  weaving : (ranges : List Range) → ((r : Range) → Contains ranges r → HasNode f.page_size (log_of f.page_size b.updates) version r) → (w : World) → IsWorldOf f history w
      → ((page : ℕ) → Contains anew page → IsKnown (fold_at w.folded blob version page)) → Woven w ranges
  weaving [] all w a folds = record { more = none_more e f history w a; known = λ r c. absurd (omega (arith, c.1)) }
  weaving (r ∷ ranges) all w a folds =
      let p : ℕ = f.page_size in
      let pos : 1 ≤ p = page_pos p a.page_size in
      let key : NodeKey = record { blob = blob; version = version; range = r } in
      let k : WeavesRow p w blob b version = weaves w a in
      let has : HasNode p (log_of p b.updates) version r = all r (0, omega arith, refl) in
      let there : (page : ℕ) → r ≡ page_range p page → IsFolded p w blob version b page → IsKnown (fold_at w.folded blob version page) = λ page leaf fold.
      (let same : fold.kept ≡ k.kept = one_value (kept_at w.updates blob version) fold.kept k.kept fold.there k.there in
      let told : folded_of p (extents b.updates) version page ≡ true =
      sym (k.folded page) ∙ ap (λ (e : UpdateEntry). woven_folded fold_number p w blob b e version page) (sym same) ∙ fold.anew in
      folds page (((folds_are p version (extents b.updates) pos (bounds w a) (own w a).some (long w a)).0 page).1 (fold.met, told))) in
      let step : IsStep f w (Moves.NodePut key) history = quiet_step f history w (Moves.NodePut key) a (b, own w a, has, there) refl in
      let v : World = after p w (Moves.NodePut key) in
      let n : Node = node_of p (extents b.updates) version r in
      let rows : NodesAreRows p w = subst (λ (x : World). NodesAreRows p x) (sym a.is) (hold p f.limits a.steps pos a.allowed).nodes in
      let is : node_at v.nodes key ≡ Some n = node_after p w key b n k rows (own w a).there has refl (node_at w.nodes key) refl in
      let kept : HasAllOf w v = grow f history w (Moves.NodePut key ∷ []) a (step.allowed, tt) in
      let rest : Woven v ranges = weaving ranges (λ q c. all q (suc c.0, omega (arith, c.1), c.2)) v step.leads
      (λ page c. (let (bytes, e) = folds page c in (bytes, kept.folded blob version page bytes e))) in
      record {
        more = step_more grow e f history w (Moves.NodePut key) (of_node r) a step rest.more;
        known = λ q c. elim (first_or_rest r ranges q c) [ inl here ↦ rw (← here) (n, rest.more.all.nodes key n is) | inr there' ↦ rest.known q there' ];
      }

-- ---- an event more
module _ (agree : StoresAgree) (hold : StepsHold) (reached : ReachedStays) (grow : WorldsOnlyGrow) (f : DeskFixed) (history now : List (ℕ × Event)) (w : World)
    (a : IsWorldOf f history w) (log : IsLog f now) where
  -- a finish
  finish_more : (caller blob version : ℕ) → now ≡ history ++ tag (Events.Finish caller blob version) ∷ [] → Acted f now w (Events.Finish caller blob version)
  finish_more caller blob version added =
      let p : ℕ = f.page_size in
      let e : Event = Events.Finish caller blob version in
      let order : IsInOrder p (store_of f.limits (events history)) blob version = log.in_order (events history) [] caller blob version (ap events added ∙ events_more history e) in
      let ok : IsAccepted w.store e = accepted agree f history now w e a log added in
      let (b, is, done) = finish_done w.store caller blob version ok.accepted in
      let range = numbered_by (blob_at w.store blob) b version is ok.may in
      let fresh = finish_unfinished w.store caller blob version b is ok.accepted in
      let one_store : (v : World) → IsWorldOf f history v → blob_at v.store blob ≡ Some b = λ v x. ap (λ (s : Store). blob_at s blob) (agree f history v x ∙ sym (agree f history w a)) ∙ is in
      let own : (v : World) → IsWorldOf f history v → IsNumberedIn v blob version b = λ v x. numbered_in agree f history v blob version b x (one_store v x) range.0 range.1 fresh in
      let there : blob_at (store_of f.limits (events history)) blob ≡ Some b = ap (λ (s : Store). blob_at s blob) (sym (agree f history w a)) ∙ is in
      let before : folds_of p (extents b.updates) version ≢ [] → version - 1 ≤ published b = λ some.
      omega (arith, order (rw (ap updates_or_none there) some), ap published_or_none there) in
      let of_fold : (page : ℕ) → IsPutFor e (Moves.FoldPut blob version page) = λ page. inl (page, refl) in
      let of_node : (r : Range) → IsPutFor e (Moves.NodePut (record { blob = blob; version = version; range = r })) = λ r. inr (r, refl) in
      let folds = folding agree hold reached grow f history blob version b own e of_fold of_node before (folds_of p (extents b.updates) version) (λ page c. c) w a in
      let u : World = folds.more.to in
      let x : IsWorldOf f history u = folds.more.world in
      let bounds : InBounds (extents b.updates) = (extents_stand b.updates ((reached p u (worlds_are_reached f history u x)).blobs blob b (one_store u x)).replay).0 in
      let long : version ≤ length (extents b.updates) = omega (arith, range.1, length-extents b.updates) in
      let keys : List Range = row_keys_of p (log_of p b.updates) version in
      let rows = weaving agree hold reached grow f history blob version b own e of_fold of_node keys
      (λ r c. (row_keys_exact p version (extents b.updates) r (page_pos p a.page_size) bounds range.0 long).0 c) u x folds.known in
      let v : World = rows.more.to in
      let y : IsWorldOf f history v = rows.more.world in
      let step : IsStep f v (Moves.Finish caller blob version) now =
      one_step f history now v (Moves.Finish caller blob version) y
      (rw (agree f history w a ∙ sym (agree f history v y)) at ok.accepted, (b, own v y, rows.known)) log
      (ap events added ∙ events_more history e) in
      acted f history now w e (Moves.Finish caller blob version) (both_more e f history w folds.more rows.more) refl step refl

  -- a numbering
  assign_more : (caller blob : ℕ) (place : Place) (bytes : List ℕ) → now ≡ history ++ tag (Events.Assign caller blob place bytes) ∷ [] → Acted f now w (Events.Assign caller blob place bytes)
  assign_more caller blob place bytes added =
      let p : ℕ = f.page_size in
      let e : Event = Events.Assign caller blob place bytes in
      let ok : IsAccepted w.store e = accepted agree f history now w e a log added in
      let c : Cutting e f history w bytes = cutting grow e (λ page part. (page, (part, refl))) f history (length bytes) w bytes a ok.may (omega arith) in
      let v : World = c.more.to in
      let y : IsWorldOf f history v = c.more.world in
      let T : Store → List ℕ → Type 0 = λ s l. is_refused (answer s caller (Calls.Assign blob place l)).1 ≡ false in
      let taken : T v.store (bytes_of_pages v.pages c.numbers) =
      subst (λ (l : List ℕ). T v.store l) (sym c.joined) (subst (λ (s : Store). T s bytes) (agree f history w a ∙ sym (agree f history v y)) ok.accepted) in
      let step : IsStep f v (Moves.Assign caller blob place c.numbers) now =
      one_step f history now v (Moves.Assign caller blob place c.numbers) y (c.cut, taken) log
      (ap events added ∙ events_more history e ∙ ap (λ (l : List ℕ). events history ++ Events.Assign caller blob place l ∷ []) (sym c.joined)) in
      acted f history now w e (Moves.Assign caller blob place c.numbers) c.more (c.numbers, refl) step
      (ap (λ (l : List ℕ). Events.Assign caller blob place l ∷ []) c.joined)

  event_more : (e : Event) → now ≡ history ++ tag e ∷ [] → Acted f now w e
  event_more (Events.Create caller) added =
      let step = one_step f history now w (Moves.Create caller) a (accepted agree f history now w (Events.Create caller) a log added).accepted log
      (ap events added ∙ events_more history (Events.Create caller)) in
      acted f history now w (Events.Create caller) (Moves.Create caller) (none_more (Events.Create caller) f history w a) refl step refl
  event_more (Events.Assign caller blob place bytes) added = assign_more caller blob place bytes added
  event_more (Events.Finish caller blob version) added = finish_more caller blob version added
  event_more (Events.Branch caller blob version) added =
      let step = one_step f history now w (Moves.Branch caller blob version) a (accepted agree f history now w (Events.Branch caller blob version) a log added).accepted log
      (ap events added ∙ events_more history (Events.Branch caller blob version)) in
      acted f history now w (Events.Branch caller blob version) (Moves.Branch caller blob version) (none_more (Events.Branch caller blob version) f history w a) refl step refl

-- ---- all events
events_tagged : (es : List Event) → events (tagged es) ≡ es
events_tagged [] = refl
events_tagged (e ∷ es) = ap (λ (l : List Event). e ∷ l) (events_tagged es)

legal_front : (s : Store) (xs ys : List Event) → IsLegalFrom s (xs ++ ys) → IsLegalFrom s xs
legal_front s [] ys legal = tt
legal_front s (x ∷ xs) ys legal = (legal.0, legal_front (answer s (caller_of x) (call_of x)).0 xs ys legal.1)

log_front : (f : DeskFixed) (xs ys : List Event) → IsLegal f.limits (xs ++ ys) → length (xs ++ ys) < 2 ^ 38 → AreInOrder f.page_size f.limits (xs ++ ys) → IsLog f (tagged xs)
log_front f xs ys legal short order = record {
  tags = ap tagged (sym (events_tagged xs));
  legal = rw (events_tagged xs) (legal_front (record { limits = f.limits; blobs = [] }) xs ys legal);
  short = omega (arith, short, length-append xs ys, length-map xs tag);
  in_order = rw (events_tagged xs) (order_front f.page_size f.limits xs ys order);
}

module _ (agree : StoresAgree) (hold : StepsHold) (reached : ReachedStays) (grow : WorldsOnlyGrow) (f : DeskFixed) (all : List Event) (legal : IsLegal f.limits all) (short : length all < 2 ^ 38)
    (order : AreInOrder f.page_size f.limits all) where
  -- the acts of the rest of the events, in a world of those before it
  record Rest (w : World) (rest : List Event) : Type 0 where
    acts : List (List Step)
    are : AreActs rest acts
    allowed : AllAllowed f.page_size w (in_turn acts)
    tells : events_from f.page_size w (in_turn acts) ≡ rest
    world : IsWorldOf f (tagged all) (world_after f.page_size w (in_turn acts))

  on : (done rest : List Event) → all ≡ done ++ rest → (w : World) → IsWorldOf f (tagged done) w → Rest w rest
  on done [] is w a =
      record { acts = []; are = refl; allowed = tt; tells = refl; world = rw (is ∙ append-nil done) a }
  on done (e ∷ rest) is w a =
      let p : ℕ = f.page_size in
      let longer : all ≡ (done ++ e ∷ []) ++ rest = is ∙ sym (append_assoc done (e ∷ []) rest) in
      let log : IsLog f (tagged (done ++ e ∷ [])) = log_front f (done ++ e ∷ []) rest (rw longer at legal) (rw longer at short) (rw longer at order) in
      let one = event_more agree hold reached grow f (tagged done) (tagged (done ++ e ∷ [])) w a log e (map-append tag done (e ∷ [])) in
      let v : World = world_after p w one.acts in
      let more = on (done ++ e ∷ []) rest longer v one.world in
      record {
        acts = one.acts ∷ more.acts;
        are = (one.are, more.are);
        allowed = allowed_append p w one.acts (in_turn more.acts) one.allowed more.allowed;
        tells = events_append p w one.acts (in_turn more.acts) ∙ ap (λ (l : List Event). l ++ events_from p v (in_turn more.acts)) one.tells ∙ ap (λ (l : List Event). e ∷ l) more.tells;
        world = subst (λ (x : World). IsWorldOf f (tagged all) x) (sym (world_append p w one.acts (in_turn more.acts))) more.world;
      }

pub histories_have_worlds : StoresAgree → StepsHold → ReachedStays → WorldsOnlyGrow → HistoriesHaveWorlds
histories_have_worlds agree hold reached grow f history within page log =
    let es : List Event = events history in
    let short : length es < 2 ^ 38 = omega (arith, log.short, length-map history (λ (x : ℕ × Event). x.1)) in
    let made = on agree hold reached grow f es log.legal short log.in_order [] es refl (empty_world f.limits) (empty_is_a_world f within page) in
    (world_after f.page_size (empty_world f.limits) (in_turn made.acts), subst (λ (l : List (ℕ × Event)). IsWorldOf f l (world_after f.page_size (empty_world f.limits) (in_turn made.acts))) (sym log.tags) made.world)

pub sessions_together : StoresAgree → StepsHold → ReachedStays → WorldsOnlyGrow → SessionsTogether
sessions_together agree hold reached grow p limits history within page is =
    let f : DeskFixed = record { limits = limits; page_size = p; houses = []; nodes = [] } in
    let made = on agree hold reached grow f history is.legal is.short is.in_order [] history refl (empty_world limits) (empty_is_a_world f within page) in
    (made.acts, (made.are, (made.allowed, made.tells)))
