-- The turn of a finish is a step.
use Rattle.std.proofs.Common.{◌≡◌, ℕ, ◌≤◌, Bool, true, false, List, refl, sym, ap, subst, ◌∙◌, arith}
use Rattle.std.proofs.lemmas.List.{length-map, get_or-map}
use Rattle.std.specs.Prelude.{Option, Some, None, map, if◌then◌else◌}
use Rattle.std.specs.List.{Contains}
use Rattle.std.specs.Arc.{arc_value}
use Rattle.blob_model.specs.Content.{Update}
use Rattle.blob_model.specs.Store.{Store, Blob, blob_at, assigned, is_finished}
use Rattle.blob_model.specs.Answer.{Answered, answer, refuse}
use Rattle.blob_model.specs.History.{is_refused, IsNumbered}
use Rattle.blob_model.specs.declared.call.Call.TheVariants as Calls
use Rattle.blob_model.specs.declared.call.Event.{Event}
use Rattle.blob_model.specs.declared.call.Event.TheVariants as Events
use Rattle.blob_model.specs.declared.call.Refusal.{Refusal}
use Rattle.branching.specs.Parents.{origin_of}
use Rattle.branching.specs.declared.Parent.{Parent}
use Rattle.tree_geom.specs.declared.node.Node.{Node}
use Rattle.range_log.specs.Updates.{extents}
use Rattle.range_log.specs.Rows.{row_keys_of, node_of}
use Rattle.node_store.specs.UpdateRows.{UpdateRow}
use Rattle.snapshot.specs.Versions.{IsRowOf}
use Rattle.blob_core.specs.World.{World, node_at, log_of}
use Rattle.blob_core.specs.Steps.{IsNumberedIn, RowIsThere}
use Rattle.blob_core.specs.declared.step.Step.TheVariants as Moves
use Rattle.blob_core.proofs.Taken.{finish_done}
use Rattle.version_manager.specs.declared.journal.DeskFixed.{DeskFixed}
use Rattle.version_manager.specs.Desks.{updates_in, updates_or_none}
use Rattle.version_manager.specs.Log.{desk_at, events}
use Rattle.version_manager.specs.Origins.{parents_of}
use Rattle.version_manager.proofs.Stores.{in_blob_here}
use Rattle.world_acts.specs.Worlds.{IsWorldOf, StoresAgree}
use Rattle.world_acts.specs.Turns.{RowWasPut, FinishesAreSteps}
use Rattle.world_acts.proofs.Steps.{lineages_agree}
use Rattle.world_acts.proofs.Turns.{turn}
use Rattle.world_acts.proofs.Owning.{Owns, owns}

-- ---- the version isn't finished
test_false : (t : Bool) (r : Refusal) (s : Store) (done : Answered) → is_refused (let a : Answered = elim (if t then Some r else None) [ Some r ↦ refuse s r | None ↦ done ] in a).1 ≡ false → t ≡ false
test_false true r s done e = absurd (let no : ⊥ = cc in no)
test_false false r s done e = refl

pub finish_unfinished : (s : Store) (caller blob version : ℕ) (b : Blob) → blob_at s blob ≡ Some b → is_refused (answer s caller (Calls.Finish blob version)).1 ≡ false → is_finished b version ≡ false
finish_unfinished s caller blob version b is ok =
    test_false (is_finished b version) _ s _ (sym (ap (λ (a : Answered). is_refused a.1) (in_blob_here s blob b _ is)) ∙ ok)

pub numbered_by : (o : Option Blob) (b : Blob) (version : ℕ) → o ≡ Some b → IsNumbered o version → (1 ≤ version) × (version ≤ assigned b)
numbered_by None b version is n = absurd n
numbered_by (Some x) b version is n =
    let same : x ≡ b = cc in
    rw same at n

-- a version that isn't finished was numbered in its own blob
pub numbered_in : StoresAgree → (f : DeskFixed) (history : List (ℕ × Event)) (w : World) (blob version : ℕ) (b : Blob) → IsWorldOf f history w → blob_at w.store blob ≡ Some b → 1 ≤ version
    → version ≤ assigned b → is_finished b version ≡ false → IsNumberedIn w blob version b
numbered_in agree f history w blob version b a is some le e =
    let o : Owns w.store (parents_of (events history)) = rw (agree f history w a) (owns f.limits (events history) a.log.legal) in
    record {
      there = is;
      some = some;
      upto = le;
      own = ap (λ (l : List (Option Parent)). origin_of l blob version) (lineages_agree f history w a) ∙ o.own blob version b is e;
    }

-- ---- the row is there
pub contains_map : {A B : Type 0} (g : A → B) (xs : List A) (x : A) → Contains xs x → Contains (map g xs) (g x)
contains_map g xs x c = (c.0, omega (arith, length-map xs g, c.1), get_or-map g xs c.0 x (g x) c.1 ∙ ap g c.2)

row_there : (p : ℕ) (w : World) (blob version : ℕ) (b : Blob) (us : List Update) (row : UpdateRow) → us ≡ b.updates → IsRowOf p us version row → row.blob ≡ blob → RowWasPut w row
    → RowIsThere p w blob version b
row_there p w blob version b us row same own under put r among =
    let node : Node = node_of p (extents us) version r in
    let inside : Contains row.nodes (r, node) = rw own.nodes
    (contains_map (λ q. (q, node_of p (extents us) version q)) (row_keys_of p (log_of p us) version) r (rw same among)) in
    let N : ℕ → ℕ → Type 0 = λ i v. node_at w.nodes (record { blob = i; version = v; range = r }) ≡ Some node in
    (node, subst (λ (v : ℕ). N blob v) own.version (subst (λ (i : ℕ). N i row.version) under (put r node inside)))

pub finishing : StoresAgree → FinishesAreSteps
finishing agree f before now w caller t row said a may put c =
    turn agree f before now w caller _ (Events.Finish caller t.blob t.version) _ _ said (Moves.Finish caller t.blob t.version) a c refl
    (λ x.
    let (b, is, done) = finish_done w.store caller t.blob t.version x.accepted in
    let range = numbered_by (blob_at w.store t.blob) b t.version is x.may in
    let us : updates_in (desk_at f before) t.blob ≡ b.updates =
    ap (λ (s : Store). updates_or_none (blob_at s t.blob)) (sym (agree f before w a)) ∙ ap updates_or_none is in (
      x.accepted,
      (
        b,
        numbered_in agree f before w t.blob t.version b a is range.0 range.1 (finish_unfinished w.store caller t.blob t.version b is x.accepted),
        row_there f.page_size w t.blob t.version b (updates_in (desk_at f before) t.blob) (arc_value row) us may.row_for may.under put,
      ),
    ))
