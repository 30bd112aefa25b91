-- A first session of files that is alone answers as a map of paths does.
use Rattle.std.proofs.Common.{◌≡◌, ℕ, List, [], length, sym, ap, subst, ◌∙◌}
use Rattle.items.specs.Rounds.{Rounds}
use Rattle.blob_model.specs.History.{store_of}
use Rattle.blob_model.specs.declared.call.Event.{Event}
use Rattle.request_form.specs.Session.{Session, HeldTicket}
use Rattle.file_layer.specs.Files.{Files}
use Rattle.file_layer.specs.PathMap.{PathMap, new_map, MapItemReply}
use Rattle.file_layer.specs.Laws.{IsFirst, AloneAnswerByMap}
use Rattle.file_layer.proofs.Standing.{AreHeld, Stands, map_of}
use Rattle.file_layer.proofs.MapSteps.{rounds_mapped}
use Rattle.file_layer.proofs.NoBlob.{rounds_no}

module _ (f : Files) (first : IsFirst f) where
  abbrev with_counts : ℕ → ℕ → PathMap
  with_counts blobs next = record { fixed = f.store.fixed; providers = f.providers; caller = f.store.caller; things = []; blobs = blobs; held = []; next = next }

  first_map : map_of f [] [] ≡ new_map f.store.fixed f.providers f.store.caller
  first_map =
      ap (λ (l : List Event). with_counts (length (store_of f.store.fixed.limits l).blobs) f.store.next) (ap (λ (s : Session). s.seen) first.store)
      ∙ ap (λ (n : ℕ). with_counts 0 n) (ap (λ (s : Session). s.next) first.store)

  first_stands : Stands f [] []
  first_stands = record {
    limit = ap (λ (s : Session). s.limit) first.store;
    names = first.names;
    once = tt;
    files = tt;
    tickets = subst (λ (l : List HeldTicket). AreHeld [] l []) (sym (ap (λ (s : Session). s.tickets) first.store)) tt;
  }

pub answered_by_map : AloneAnswerByMap
answered_by_map f items replies f' first well run =
    let r = rounds_mapped f [] [] (first_stands f first) items well replies f' run in
    let rounds : Rounds MapItemReply (new_map f.store.fixed f.providers f.store.caller) items replies r.0 = subst (λ (m : PathMap). Rounds MapItemReply m items replies r.0) (first_map f first) r.1 in
    record { last = r.0; rounds = rounds; no_blob_missing = rounds_no (new_map f.store.fixed f.providers f.store.caller) items replies r.0 rounds }
