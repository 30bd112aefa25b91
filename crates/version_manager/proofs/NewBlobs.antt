-- Calls by which there is a blob more.
use Rattle.std.proofs.Common.{◌≡◌, ℕ, ◌+◌, ◌-◌, ◌<◌, ◌≤◌, true, false, List, [], ◌∷◌, ◌++◌, length, get_or, suc, refl, sym, ◌∙◌, ap, arith}
use Rattle.std.specs.Prelude.{None}
use Rattle.std.proofs.lemmas.Bool.Decides.{nat_tests}
use Rattle.blob_model.specs.Limits.{Bounds}
use Rattle.blob_model.specs.Store.{Store, Blob, and_blob, published, branch_of, true_prefix}
use Rattle.blob_model.specs.Answer.{Answered, answer, unless_refused, too_many_blobs, not_published}
use Rattle.blob_model.specs.History.{store_of}
use Rattle.blob_model.specs.declared.call.Call.TheVariants as Calls
use Rattle.blob_model.specs.declared.call.Event.{Event}
use Rattle.blob_model.specs.declared.call.Event.TheVariants as Events
use Rattle.blob_model.specs.declared.call.Outcome.TheVariants as Outcomes
use Rattle.blob_model.specs.declared.call.Refusal.TheVariants as Refusals
use Rattle.page_store.specs.House.{House}
use Rattle.publisher.specs.Windows.{Numbered, WindowState, published_of}
use Rattle.version_manager.specs.declared.waiting.WaitingUpdate.{WaitingUpdate}
use Rattle.version_manager.specs.Desks.{no_window}
use Rattle.version_manager.specs.DeskInvariant.{Keeps, KeepsDesk, numbered_of}
use Rattle.version_manager.proofs.BlobsTests.{first_hit, first_pass}
use Rattle.version_manager.proofs.Stores.{store_after, legal_after, unless_none, unless_some, in_blob_here, store_limits}
use Rattle.version_manager.proofs.Desks.{window_of, pushed, IsHere}
use Rattle.version_manager.proofs.Waits.{none_wait}

abbrev pub no_updates : Blob
no_updates = record { updates = []; finished = [] }

module _ {limits : Bounds} {p : ℕ} {houses : List House} {h : List Event} {ws : List (WindowState WaitingUpdate)} (kept : KeepsDesk limits p houses h ws) (caller : ℕ) where
  full : length ws ≡ limits.max_blobs → (too_many_blobs (store_of limits h)).refuses ≡ true
  full e =
      let s : Store = store_of limits h in
      let count : length s.blobs ≡ length ws = kept.count in
      let most : s.limits.max_blobs ≡ limits.max_blobs = ap (λ (l : Bounds). l.max_blobs) (store_limits limits h) in
      grind (arith, nat_tests)

  room : (length ws ≡ limits.max_blobs → ⊥) → (too_many_blobs (store_of limits h)).refuses ≡ false
  room apart =
      let s : Store = store_of limits h in
      let count : length s.blobs ≡ length ws = kept.count in
      let most : s.limits.max_blobs ≡ limits.max_blobs = ap (λ (l : Bounds). l.max_blobs) (store_limits limits h) in
      let ne : length s.blobs ≡ s.limits.max_blobs → ⊥ = λ e. apart (sym count ∙ e ∙ most) in
      grind (arith, nat_tests)

  most_is : Outcomes.Refused (Refusals.TooManyBlobs (store_of limits h).limits.max_blobs) ≡ Outcomes.Refused (Refusals.TooManyBlobs limits.max_blobs)
  most_is = ap (λ (l : Bounds). Outcomes.Refused (Refusals.TooManyBlobs l.max_blobs)) (store_limits limits h)

  id_is : Outcomes.Blob (length (store_of limits h).blobs + 1) ≡ Outcomes.Blob (length ws + 1)
  id_is = ap (λ (n : ℕ). Outcomes.Blob (n + 1)) kept.count

  -- ---- a create
  pub create_refused : length ws ≡ limits.max_blobs → (answer (store_of limits h) caller Calls.Create).1 ≡ Outcomes.Refused (Refusals.TooManyBlobs limits.max_blobs)
  create_refused e =
      let s : Store = store_of limits h in
      ap (λ (a : Answered). a.1) (unless_some s (too_many_blobs s ∷ []) (and_blob s no_updates, Outcomes.Blob (length s.blobs + 1)) _ (sym (first_hit (too_many_blobs s) [] (full e)))) ∙ most_is

  create_is : (length ws ≡ limits.max_blobs → ⊥) → answer (store_of limits h) caller Calls.Create ≡ (and_blob (store_of limits h) no_updates, Outcomes.Blob (length (store_of limits h).blobs + 1))
  create_is apart = let s : Store = store_of limits h in unless_none s (too_many_blobs s ∷ []) _ (sym (first_pass (too_many_blobs s) [] None (room apart) refl))

  pub create_outcome : (length ws ≡ limits.max_blobs → ⊥) → (answer (store_of limits h) caller Calls.Create).1 ≡ Outcomes.Blob (length ws + 1)
  create_outcome apart = ap (λ (a : Answered). a.1) (create_is apart) ∙ id_is

  pub create_keeps : (length ws ≡ limits.max_blobs → ⊥) → (w : WindowState WaitingUpdate) → Keeps limits w.numbered no_updates → w.updates ≡ [] → w.numbered.blob ≡ length ws + 1 → w.numbered.page_size ≡ p
      → KeepsDesk limits p houses (h ++ Events.Create caller ∷ []) (ws ++ w ∷ [])
  create_keeps apart w k none id page =
      let fewer : length ws < limits.max_blobs = (let f : length ws ≤ limits.max_blobs = kept.few in omega (arith, apart)) in
      let next : w.numbered.blob ≡ suc (length ws) = omega (arith, id) in
      pushed kept (Events.Create caller) no_updates w (legal_after limits h (Events.Create caller) _ _ (create_is apart) kept.legal tt refl) (store_after limits h (Events.Create caller) _ _ (create_is apart)) fewer
      (window_of limits p houses (suc (length ws)) no_updates w next page k (none_wait p houses [] w none))

  -- ---- a branch
  module _ (blob version : ℕ) where
    branching : Blob → Answered
    branching b =
        let s : Store = store_of limits h in
        unless_refused s (not_published b version ∷ too_many_blobs s ∷ []) (and_blob s (branch_of b version), Outcomes.Blob (length s.blobs + 1))

    module _ (x : IsHere kept blob) where
      w : Numbered
      w = get_or (numbered_of ws) (blob - 1) no_window

      published_is : published x.b ≡ published_of (get_or (numbered_of ws) (blob - 1) no_window)
      published_is = ap true_prefix x.keeps.finished

      branch_at : answer (store_of limits h) caller (Calls.Branch blob version) ≡ branching x.b
      unfolding branching
      branch_at = in_blob_here (store_of limits h) blob x.b branching x.at

      pub branch_ahead : published_of (get_or (numbered_of ws) (blob - 1) no_window) < version →
          (answer (store_of limits h) caller (Calls.Branch blob version)).1 ≡ Outcomes.Refused (Refusals.NotPublished version (published_of (get_or (numbered_of ws) (blob - 1) no_window)))
      unfolding branching
      branch_ahead lt =
          let s : Store = store_of limits h in
          let at : published x.b < version = omega (arith, published_is) in
          let t : (not_published x.b version).refuses ≡ true = grind (arith, nat_tests) in
          ap (λ (a : Answered). a.1) (branch_at ∙ unless_some s (not_published x.b version ∷ too_many_blobs s ∷ []) _ _ (sym (first_hit (not_published x.b version) (too_many_blobs s ∷ []) t)))
          ∙ ap (λ (n : ℕ). Outcomes.Refused (Refusals.NotPublished version n)) published_is

      module _ (le : version ≤ published_of (get_or (numbered_of ws) (blob - 1) no_window)) where
        behind : (not_published x.b version).refuses ≡ false
        behind = (let at : version ≤ published x.b = omega (arith, published_is) in grind (arith, nat_tests))

        pub branch_full : length ws ≡ limits.max_blobs → (answer (store_of limits h) caller (Calls.Branch blob version)).1 ≡ Outcomes.Refused (Refusals.TooManyBlobs limits.max_blobs)
        unfolding branching
        branch_full e =
            let s : Store = store_of limits h in
            ap (λ (a : Answered). a.1) (branch_at ∙ unless_some s (not_published x.b version ∷ too_many_blobs s ∷ []) _ _ (sym (first_pass (not_published x.b version) (too_many_blobs s ∷ []) _ behind (first_hit (too_many_blobs s) [] (full e))))) ∙ most_is

        module _ (apart : length ws ≡ limits.max_blobs → ⊥) where
          branch_is : answer (store_of limits h) caller (Calls.Branch blob version) ≡ (and_blob (store_of limits h) (branch_of x.b version), Outcomes.Blob (length (store_of limits h).blobs + 1))
          unfolding branching
          branch_is =
              let s : Store = store_of limits h in
              branch_at ∙ unless_none s (not_published x.b version ∷ too_many_blobs s ∷ []) _ (sym (first_pass (not_published x.b version) (too_many_blobs s ∷ []) None behind (first_pass (too_many_blobs s) [] None (room apart) refl)))

          pub branch_outcome : (answer (store_of limits h) caller (Calls.Branch blob version)).1 ≡ Outcomes.Blob (length ws + 1)
          branch_outcome = ap (λ (a : Answered). a.1) branch_is ∙ id_is

          pub branch_keeps : (w' : WindowState WaitingUpdate) → Keeps limits w'.numbered (branch_of x.b version) → w'.updates ≡ [] → w'.numbered.blob ≡ length ws + 1 → w'.numbered.page_size ≡ p
              → KeepsDesk limits p houses (h ++ Events.Branch caller blob version ∷ []) (ws ++ w' ∷ [])
          branch_keeps w' k none id page =
              let fewer : length ws < limits.max_blobs = (let f : length ws ≤ limits.max_blobs = kept.few in omega (arith, apart)) in
              let next : w'.numbered.blob ≡ suc (length ws) = omega (arith, id) in
              let e = Events.Branch caller blob version in
              pushed kept e (branch_of x.b version) w' (legal_after limits h e _ _ branch_is kept.legal tt refl) (store_after limits h e _ _ branch_is) fewer
              (window_of limits p houses (suc (length ws)) (branch_of x.b version) w' next page k (none_wait p houses (branch_of x.b version).updates w' none))
