-- The put of a page that an update stores anew is a step.
use Rattle.std.proofs.Common.{◌≡◌, ◌≢◌, ◌⊎◌, ℕ, ◌+◌, ◌*◌, ◌≤◌, true, List, [], ◌∷◌, length, take, drop, refl, sym, ap, subst, ◌∙◌, arith, inl, inr}
use Rattle.std.specs.Prelude.{Option, Some, None}
use Rattle.std.specs.List.{Contains}
use Rattle.std.proofs.lemmas.Bool.Decides.{nat_tests}
use Rattle.std.proofs.lemmas.List.{length-take-le, take-append-drop, take-append-le}
use Rattle.blob_model.specs.Content.{Update, content_from}
use Rattle.blob_model.specs.Store.{Store, Blob, blob_at, published}
use Rattle.blob_model.specs.History.{store_of}
use Rattle.range_log.specs.Extents.{Extent, InBounds}
use Rattle.range_log.specs.Updates.{extents, page_bytes}
use Rattle.range_log.specs.Rows.{folds_of}
use Rattle.range_log.proofs.Bytes.{length-extents, extents_stand}
use Rattle.range_log.proofs.Folds.{folds_are}
use Rattle.tree_weaver.specs.Anew.{bytes_anew}
use Rattle.tree_weaver.specs.Woven.{IsAmong, BytesAnewStand}
use Rattle.blob_core.specs.World.{World, UpdateEntry, IsKnown, fold_at, kept_at, same_fold}
use Rattle.blob_core.specs.declared.world.FoldKey.{FoldKey}
use Rattle.blob_core.specs.Steps.{IsAllowed, IsFolded, after, with_fold, folded_page}
use Rattle.blob_core.specs.Standing.{ReachedStays, IsSound, WeavesRow, Stays}
use Rattle.blob_core.specs.Promises.{StepsHold, FoldsArePages, IsFoldPage}
use Rattle.blob_core.specs.declared.step.Step.TheVariants as Moves
use Rattle.blob_core.proofs.Lists.{entry_new, one_value}
use Rattle.version_manager.specs.Desks.{updates_in, published_in, published_or_none}
use Rattle.version_manager.specs.Log.{desk_at, events}
use Rattle.tree_geom.proofs.Spans.{page_pos}
use Rattle.world_acts.specs.Worlds.{IsWorldOf, IsStep, StoresAgree}
use Rattle.world_acts.specs.Puts.{FoldPutsAreSteps}
use Rattle.world_acts.proofs.Steps.{quiet_step, worlds_are_reached}
use Rattle.world_acts.proofs.Weaving.{TicketBlob, ticket_blob, folds_up_to}

fold_itself : (k : FoldKey) → same_fold k k ≡ true
fold_itself k = grind (arith, nat_tests)

-- with the entry of a key that isn't there, or as before
pub with_fold_is : (p : ℕ) (w : World) (blob version page : ℕ) (b : Blob) (kept : UpdateEntry) → blob_at w.store blob ≡ Some b → kept_at w.updates blob version ≡ Some kept
    → (o : Option (List ℕ)) → fold_at w.folded blob version page ≡ o
    → (with_fold p w blob version page ≡ w.folded)
    ⊎ ((fold_at w.folded blob version page ≡ None)
    × (with_fold p w blob version page ≡ (record { blob = blob; version = version; page = page }, folded_page p w blob b kept version page) ∷ w.folded))
with_fold_is p w blob version page b kept there has (Some bytes) e = inl (rw (e, with_fold) refl)
with_fold_is p w blob version page b kept there has None e = inr (e, rw (e, there, has, with_fold) refl)

module _ (p : ℕ) (w : World) (blob version page : ℕ) (b : Blob) (kept : UpdateEntry) where
  abbrev With : Option (List ℕ) → Option Blob → Option UpdateEntry → List (FoldKey × List ℕ)
  With o x k =
      elim o [
        | Some bytes ↦ w.folded
        | None ↦
            elim x [
              | None ↦ w.folded
              | Some c ↦ elim k [ None ↦ w.folded | Some e ↦ (record { blob = blob; version = version; page = page }, folded_page p w blob c e version page) ∷ w.folded ]
            ]
      ]

  pub known_after : blob_at w.store blob ≡ Some b → kept_at w.updates blob version ≡ Some kept → (o : Option (List ℕ)) → fold_at w.folded blob version page ≡ o
      → IsKnown (fold_at (with_fold p w blob version page) blob version page)
  known_after there has None none =
      let key : FoldKey = record { blob = blob; version = version; page = page } in
      let bytes : List ℕ = folded_page p w blob b kept version page in (
        bytes,
        ap (λ (o : Option (List ℕ)). fold_at (With o (blob_at w.store blob) (kept_at w.updates blob version)) blob version page) none
            ∙ ap (λ (x : Option Blob). fold_at (With None x (kept_at w.updates blob version)) blob version page) there
            ∙ ap (λ (k : Option UpdateEntry). fold_at (With None (Some b) k) blob version page) has
            ∙ entry_new same_fold w.folded key bytes (fold_itself key),
      )
  known_after there has (Some bytes) here = (
    bytes,
    ap (λ (o : Option (List ℕ)). fold_at (With o (blob_at w.store blob) (kept_at w.updates blob version)) blob version page) here ∙ here,
  )

pub contains_some : (l : List ℕ) (x : ℕ) → Contains l x → l ≢ []
contains_some [] x c is = absurd (omega (arith, c.1))
contains_some (y ∷ ys) x c is = (let no : ⊥ = cc in no)

-- the bytes of a page at a version are those among the updates up to it
page_up_to : (p : ℕ) (us : List Update) (v i : ℕ) → v ≤ length us → page_bytes p us v i ≡ page_bytes p (take v us) v i
page_up_to p us v i le =
    let count : length (take v us) ≡ v = length-take-le v us le in
    ap (λ (l : List Update). page_bytes p l v i) (sym (take-append-drop v us))
    ∙ ap (λ (l : List Update). take p (drop (i * p) (content_from [] l))) (take-append-le v (take v us) (drop v us) (omega (arith, count)))

pub fold_putting : StoresAgree → StepsHold → ReachedStays → BytesAnewStand → FoldPutsAreSteps
fold_putting agree hold reached anew_stand f history w t page a valid ticket own hinted before anew =
    let p : ℕ = f.page_size in
    let v : ℕ = t.version in
    let pos : 1 ≤ p = page_pos p a.page_size in
    let us : List Update = updates_in (desk_at f history) t.blob in
    let tb : TicketBlob f history w t = ticket_blob agree f history w t a ticket own in
    let b : Blob = tb.b in
    let stays : Stays p w = reached p w (worlds_are_reached f history w a) in
    let sound : IsSound p w t.blob b = stays.blobs t.blob b tb.own.there in
    let weaves : WeavesRow p w t.blob b v = sound.weaves v tb.own in
    let bounds : InBounds (extents b.updates) = (extents_stand b.updates sound.replay).0 in
    let long : v ≤ length (extents b.updates) = omega (arith, tb.own.upto, length-extents b.updates) in
    let first : List Extent = extents (take v us) in
    let one : Contains (folds_of t.snapshot.page_size first v) page = anew first ticket.stands in
    let folds : folds_of t.snapshot.page_size first v ≡ folds_of p (extents b.updates) v =
    ap (λ (q : ℕ). folds_of q first v) ticket.page_size ∙ folds_up_to p us v ticket.numbered ∙ ap (λ (l : List Update). folds_of p (extents l) v) tb.updates in
    let here : Contains (folds_of p (extents b.updates) v) page = subst (λ (l : List ℕ). Contains l page) folds one in
    let met = ((folds_are p v (extents b.updates) pos bounds tb.own.some long).0 page).0 here in
    let folded : IsFolded p w t.blob v b page = record { kept = weaves.kept; there = weaves.there; met = met.0; anew = weaves.folded page ∙ met.1 } in
    let last : length t.snapshot.rows + 1 ≡ v = before first ticket.stands (contains_some (folds_of t.snapshot.page_size first v) page one) in
    let there : blob_at (store_of f.limits (events history)) t.blob ≡ Some b = ap (λ (s : Store). blob_at s t.blob) (sym (agree f history w a)) ∙ tb.own.there in
    let known : published_in (desk_at f history) t.blob ≡ published b = ap published_or_none there in
    let allowed : IsAllowed p w (Moves.FoldPut t.blob v page) = (b, tb.own, folded, omega (arith, last, hinted.published, known)) in
    let step : IsStep f w (Moves.FoldPut t.blob v page) history = quiet_step f history w (Moves.FoldPut t.blob v page) a allowed refl in
    let next : IsWorldOf f history (after p w (Moves.FoldPut t.blob v page)) = step.leads in
    let pages : FoldsArePages p (after p w (Moves.FoldPut t.blob v page)) =
    subst (λ (x : World). FoldsArePages p x) (sym next.is) (hold p f.limits next.steps pos next.allowed).folds in
    let (bytes, is) = known_after p w t.blob v page b weaves.kept tb.own.there weaves.there (fold_at w.folded t.blob v page) refl in
    let row : IsFoldPage p (after p w (Moves.FoldPut t.blob v page)) t.blob v page bytes = pages t.blob v page bytes is in
    let same : row.b ≡ b = one_value (blob_at w.store t.blob) row.b b row.there tb.own.there in
    let among : IsAmong p us t = record {
      page_size = ticket.page_size;
      numbered = ticket.numbered;
      stands = ticket.stands;
      bytes = ticket.bytes;
      before = hinted.tells.leave (length t.snapshot.rows) (omega arith);
    } in
    let bytes_are : bytes_anew t page ≡ bytes =
    anew_stand t p us page valid among last one
    ∙ ap (λ (q : ℕ). page_bytes q (take v us) v page) ticket.page_size
    ∙ sym (page_up_to p us v page ticket.numbered)
    ∙ ap (λ (l : List Update). page_bytes p l v page) (tb.updates ∙ sym (ap (λ (x : Blob). x.updates) same))
    ∙ sym row.is in
    (step, is ∙ ap (λ (l : List ℕ). Some l) (sym bytes_are))
