-- What the hints of a ticket tell is published, and stays so.
use Rattle.std.proofs.Common.{◌≡◌, ℕ, ◌≤◌, zero, suc, List, [], ◌++◌, length, take, refl, sym, ap, subst, ◌∙◌, arith}
use Rattle.std.specs.Prelude.{Option, Some, None}
use Rattle.std.proofs.lemmas.List.{map-append, take-append-le, get_or_append_left}
use Rattle.blob_model.specs.Content.{Update, content_from}
use Rattle.blob_model.specs.Store.{Store, Blob, blob_at, published}
use Rattle.blob_model.specs.History.{store_of}
use Rattle.blob_model.specs.Laws.{OldVersionsStay}
use Rattle.blob_model.specs.declared.call.Event.{Event}
use Rattle.blob_model.proofs.Marks.{published_within}
use Rattle.range_log.specs.Extents.{Extent}
use Rattle.range_log.specs.Updates.{update_at, extents, no_update}
use Rattle.range_log.proofs.Bytes.{length-extents}
use Rattle.range_log.proofs.Growth.{extents_grow}
use Rattle.node_store.specs.UpdateRows.{UpdateRow}
use Rattle.snapshot.specs.Versions.{Version}
use Rattle.snapshot.specs.Laws.{TellUpdates}
use Rattle.border_hints.specs.Numbered.{NumberedUpdate}
use Rattle.version_manager.specs.declared.journal.DeskFixed.{DeskFixed}
use Rattle.version_manager.specs.Desks.{updates_in, published_in, updates_or_none, published_or_none}
use Rattle.version_manager.specs.Log.{desk_at, events}
use Rattle.world_acts.specs.Puts.{IsHinted, HintsStay}
use Rattle.world_acts.proofs.Reading.{IsOpen, opened_by, within_back}

update_stays : (us later : List Update) (k : ℕ) → k ≤ length us → update_at (us ++ later) k ≡ update_at us k
update_stays us later zero le = refl
update_stays us later (suc k) le = get_or_append_left us later no_update k (omega arith)

tells_more : (p : ℕ) (us later : List Update) (rows : List UpdateRow) → length rows ≤ length us → TellUpdates p us rows → TellUpdates p (us ++ later) rows
tells_more p us later rows le told =
    let (rest, e) = extents_grow us later in
    record {
      fall = told.fall ∙ sym (ap (λ (l : List Extent). take (length rows) l) e ∙ take-append-le (length rows) (extents us) rest (omega (arith, le, length-extents us)));
      bytes = λ k upto. told.bytes k upto ∙ sym (ap (λ (u : Update). u.bytes) (update_stays us later k (omega (arith, upto, le))));
      leave = λ v upto. told.leave v upto ∙ sym (ap (λ (l : List Update). content_from [] l) (take-append-le v us later (omega (arith, upto, le))));
      replayable = told.replayable;
      own = told.own;
    }

module _ (old_stay : OldVersionsStay) (f : DeskFixed) (history more : List (ℕ × Event)) (t : NumberedUpdate) where
  hinted_by : (o : Option Blob) → blob_at (store_of f.limits (events history)) t.blob ≡ o → length t.snapshot.rows ≤ published_or_none o
      → TellUpdates f.page_size (updates_or_none o) t.snapshot.rows → IsHinted f (history ++ more) t
  hinted_by None is le told =
      let us : List Update = updates_in (desk_at f (history ++ more)) t.blob in
      record { published = omega (arith, le); tells = tells_more f.page_size [] us t.snapshot.rows (omega (arith, le)) told }
  hinted_by (Some b) is le told =
      let (new, there, stays) = old_stay f.limits (events history) (events more) t.blob b is in
      let joined : blob_at (store_of f.limits (events (history ++ more))) t.blob ≡ Some new =
      ap (λ (l : List Event). blob_at (store_of f.limits l) t.blob) (map-append (λ (x : ℕ × Event). x.1) history more) ∙ there in
      let us : updates_in (desk_at f (history ++ more)) t.blob ≡ b.updates ++ stays.later = ap updates_or_none joined ∙ stays.updates in
      let known : published_in (desk_at f (history ++ more)) t.blob ≡ published new = ap published_or_none joined in
      record {
        published = omega (arith, le, known, stays.published);
        tells = rw us (tells_more f.page_size b.updates stays.later t.snapshot.rows (omega (arith, le, published_within f.limits (events history) t.blob b is)) told);
      }

pub hints_stay : OldVersionsStay → HintsStay
hints_stay old_stay = record {
  numbered = λ f history more t log h.
      hinted_by old_stay f history more t (blob_at (store_of f.limits (events history)) t.blob) refl (omega (arith, h.rows)) h.tells;
  reissued = λ f history more t log h.
      hinted_by old_stay f history more t (blob_at (store_of f.limits (events history)) t.blob) refl (omega (arith, h.rows)) h.tells;
  opened = λ f before now more caller version s t o is.
      (let st : Store = store_of f.limits (events before) in
      let open' : IsOpen st t.blob version _ = opened_by st t.blob version _ (blob_at st t.blob) refl o.done in
      let P : List (ℕ × Event) → Type 0 = λ h. IsHinted f (h ++ more) t in
      let T : Version → Type 0 = λ x. TellUpdates f.page_size (updates_or_none (blob_at st t.blob)) x.rows in
      let count : length t.snapshot.rows ≡ version = ap (λ (x : Version). length x.rows) is ∙ o.snapshot.rows in
      let known : published_or_none (blob_at st t.blob) ≡ published open'.b = ap published_or_none open'.there in
      let upto : version ≤ published open'.b = within_back (published open'.b) version open'.published in
      subst P (sym o.same)
      (hinted_by old_stay f before more t (blob_at st t.blob) refl (omega (arith, count, known, upto)) (subst T (sym is) o.snapshot.tells)));
}
