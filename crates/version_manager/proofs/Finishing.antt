-- The finish of a numbered version.
use Rattle.std.proofs.Common.{◌≡◌, ℕ, ◌-◌, ◌+◌, ◌<◌, ◌≤◌, ◌==◌, false, List, [], ◌∷◌, ◌++◌, length, get_or, set, drop, refl, sym, ◌∙◌, ap, subst, arith}
use Rattle.std.specs.Prelude.{Option, Some, None, nat_lt}
use Rattle.std.proofs.lemmas.Bool.{le-ltb}
use Rattle.std.proofs.lemmas.Bool.Decides.{nat_tests}
use Rattle.blob_model.specs.Limits.{Bounds}
use Rattle.blob_model.specs.Content.{Update}
use Rattle.blob_model.specs.Store.{Store, Blob, blob_at, assigned, published, with_blob, is_finished, finish}
use Rattle.blob_model.specs.Answer.{Answered, answer, first_refusal, unless_refused, not_numbered, already}
use Rattle.blob_model.specs.History.{store_of, is_refused, IsNumbered}
use Rattle.blob_model.specs.declared.call.Call.TheVariants as Calls
use Rattle.blob_model.specs.declared.call.Event.{Event}
use Rattle.blob_model.specs.declared.call.Event.TheVariants as Events
use Rattle.blob_model.specs.declared.call.Outcome.TheVariants as Outcomes
use Rattle.blob_model.specs.declared.call.Refusal.{Refusal}
use Rattle.node_store.specs.UpdateRows.{UpdateRow}
use Rattle.snapshot.specs.Versions.{IsRowOf}
use Rattle.publisher.specs.Windows.{Numbered, WindowState, published_of, with_finished, is_finished as is_done}
use Rattle.border_hints.specs.Numbered.{NumberedUpdate}
use Rattle.boxcar.specs.Table.{Shelves}
use Rattle.page_store.specs.House.{House}
use Rattle.version_manager.specs.declared.waiting.WaitingUpdate.{WaitingUpdate}
use Rattle.version_manager.specs.Desks.{DeskState, updates_or_none, finished_or_not, IsTicketOf, IsRowFor}
use Rattle.version_manager.specs.DeskInvariant.{Keeps, AreWaiting, KeepsDesk, numbered_of}
use Rattle.version_manager.proofs.Blobs.{finished_is, finish_kept}
use Rattle.version_manager.proofs.BlobsTests.{first_pass}
use Rattle.version_manager.proofs.Stores.{store_after, legal_after, unless_none, unless_some, in_blob_here}
use Rattle.blob_model.proofs.Marks.{blob_at-with, by_test}
use Rattle.version_manager.proofs.Desks.{window_of, absent, replaced, at_index, IsHere, IsAt}
use Rattle.version_manager.proofs.Waits.{finish_passes, published_wait}

-- a numbered version that isn't finished may be
pub finish_goes : (s : Store) (caller blob version : ℕ) (o : Option Blob) → blob_at s blob ≡ o → 1 ≤ version → version ≤ length (updates_or_none o) → finished_or_not o version ≡ false
    → is_refused (answer s caller (Calls.Finish blob version)).1 ≡ false
finish_goes s caller blob version None at first within waits = absurd (omega arith)
finish_goes s caller blob version (Some b) at first within waits =
    let done : Blob → Answered = λ x. (with_blob s blob (finish x version), Outcomes.Published (published (finish x version))) in
    let is : answer s caller (Calls.Finish blob version) ≡ done b =
    in_blob_here s blob b (λ x. unless_refused s (already x version ∷ []) (done x)) at ∙ unless_none s (already b version ∷ []) (done b) (rw waits refl) in
    ap (λ (a : Answered). is_refused a.1) is

module _ {limits : Bounds} {p : ℕ} {houses : List House} {h : List Event} {ws : List (WindowState WaitingUpdate)} (kept : KeepsDesk limits p houses h ws) (blob : ℕ) where
  -- a blob with updates is there
  pub with_updates : (version : ℕ) → 1 ≤ version → version ≤ length (updates_or_none (blob_at (store_of limits h) blob)) → (1 ≤ blob) × (blob ≤ length ws)
  with_updates version some within =
      let none : (1 ≤ blob → length ws < blob) → ⊥ = λ past.
      let e : length (updates_or_none (blob_at (store_of limits h) blob)) ≡ 0 = ap (λ o. length (updates_or_none o)) (absent kept blob past) in
      omega arith in (
        by_test (1 ≤ blob) (blob == 0) (λ t. absurd (none (λ le. let z : blob ≡ 0 = grind (arith, nat_tests) in absurd (omega arith)))) (λ t. grind (arith, nat_tests)),
        by_test (blob ≤ length ws) (nat_lt (length ws) blob) (λ t. absurd (none (λ le. grind (arith, nat_tests)))) (λ t. grind (arith, nat_tests)),
      )

  module _ (caller version : ℕ) (x : IsHere kept blob) where
    finishing : Blob → Answered
    finishing b =
        let s : Store = store_of limits h in
        unless_refused s (already b version ∷ []) (with_blob s blob (finish b version), Outcomes.Published (published (finish b version)))

    finish_at : answer (store_of limits h) caller (Calls.Finish blob version) ≡ finishing x.b
    unfolding finishing
    finish_at = in_blob_here (store_of limits h) blob x.b finishing x.at

    pub finish_refused : (r : Refusal) → Some r ≡ first_refusal (already x.b version ∷ []) → (answer (store_of limits h) caller (Calls.Finish blob version)).1 ≡ Outcomes.Refused r
    unfolding finishing
    finish_refused r e = ap (λ (a : Answered). a.1) (finish_at ∙ unless_some (store_of limits h) (already x.b version ∷ []) _ r (sym e))

    module _ (waits : is_finished x.b version ≡ false) where
      finish_is : answer (store_of limits h) caller (Calls.Finish blob version) ≡ (with_blob (store_of limits h) blob (finish x.b version), Outcomes.Published (published (finish x.b version)))
      unfolding finishing
      finish_is = finish_at ∙ unless_none (store_of limits h) (already x.b version ∷ []) _ (rw waits refl)

      pub finish_outcome : (answer (store_of limits h) caller (Calls.Finish blob version)).1 ≡ Outcomes.Published (published (finish x.b version))
      finish_outcome = ap (λ (a : Answered). a.1) finish_is

      finish_after : store_of limits (h ++ Events.Finish caller blob version ∷ []) ≡ with_blob (store_of limits h) blob (finish x.b version)
      finish_after = store_after limits h (Events.Finish caller blob version) _ _ finish_is

      pub finish_there : blob_at (store_of limits (h ++ Events.Finish caller blob version ∷ [])) blob ≡ Some (finish x.b version)
      finish_there = ap (λ (s : Store). blob_at s blob) finish_after ∙ blob_at-with (store_of limits h) blob x.b (finish x.b version) x.at

      finish_keeps : 1 ≤ version → version ≤ assigned x.b → 1 ≤ blob → (w : WindowState WaitingUpdate) → Keeps limits w.numbered (finish x.b version) → AreWaiting p houses x.b.updates w
          → w.numbered.blob ≡ blob → w.numbered.page_size ≡ p → KeepsDesk limits p houses (h ++ Events.Finish caller blob version ∷ []) (set ws (blob - 1) w)
      finish_keeps first within some w k waiting id page =
          let N : Option Blob → Type 0 = λ o. IsNumbered o version in
          let may : N (blob_at (store_of limits h) blob) = subst N (sym x.at) (first, within) in
          replaced kept (Events.Finish caller blob version) blob (finish x.b version) w some (legal_after limits h (Events.Finish caller blob version) _ _ finish_is kept.legal may refl) finish_after
          (window_of limits p houses blob (finish x.b version) w id page k waiting)

  abbrev pub this : List Shelves → DeskState
  this nodes = record { limits = limits; page_size = p; houses = houses; nodes = nodes; history = h; windows = numbered_of ws }

  -- the row of a ticket of the desk, at the window of its blob
  pub record IsFinishable (version : ℕ) (w : WindowState WaitingUpdate) (row : UpdateRow) : Type 0 where
    pub at : IsAt kept blob (blob - 1) w
    pub first : 1 ≤ version
    pub numbered : version ≤ length w.numbered.log
    pub own : IsRowOf w.numbered.page_size at.found.b.updates version row

  -- the store refuses to finish it only where it is finished
  pub finishable_told : (version : ℕ) (w : WindowState WaitingUpdate) (row : UpdateRow) (f : IsFinishable version w row) (o : Option Refusal)
      → o ≡ first_refusal (not_numbered f.at.found.b version ∷ already f.at.found.b version ∷ []) → o ≡ first_refusal (already f.at.found.b version ∷ [])
  finishable_told version w row f o e =
      let le : version ≤ assigned f.at.found.b = omega (arith, f.numbered, f.at.keeps.stands.counted) in
      e ∙ sym (first_pass (not_numbered f.at.found.b version) (already f.at.found.b version ∷ []) _ (le-ltb (assigned f.at.found.b) version le) refl)

  -- whether the version is finished, by the blob
  pub finishable_mark : (version : ℕ) (w : WindowState WaitingUpdate) (row : UpdateRow) (f : IsFinishable version w row) → is_finished f.at.found.b version ≡ is_done w.numbered version
  finishable_mark version w row f = sym (finished_is limits w.numbered f.at.found.b f.at.keeps version f.first)

  pub finishable : (nodes : List Shelves) (t : NumberedUpdate) (version : ℕ) (w : WindowState WaitingUpdate) (row : UpdateRow) → blob ≡ t.blob → version ≡ t.version → 1 ≤ version → IsTicketOf (this nodes) t → IsRowFor (this nodes) t row
      → w ≡ get_or ws (blob - 1) w → IsFinishable version w row
  finishable nodes t version w row on is first ticket own read =
      let N : ℕ → ℕ → Type 0 = λ i v. v ≤ length (updates_or_none (blob_at (store_of limits h) i)) in
      let here = with_updates version first (subst (λ (i : ℕ). N i version) (sym on) (subst (λ (v : ℕ). N t.blob v) (sym is) ticket.numbered)) in
      let x : IsAt kept blob (blob - 1) w = at_index kept blob (blob - 1) (length ws) w refl (refl, here.0, here.1) read in
      let us : updates_or_none (blob_at (store_of limits h) t.blob) ≡ x.found.b.updates = ap (λ (i : ℕ). updates_or_none (blob_at (store_of limits h) i)) (sym on) ∙ ap updates_or_none x.found.at in
      let R : List Update → Type 0 = λ l. IsRowOf p l t.version row in
      let S : ℕ → Type 0 = λ v. IsRowOf p x.found.b.updates v row in
      let Q : ℕ → Type 0 = λ q. IsRowOf q x.found.b.updates version row in
      record {
        at = x;
        first = first;
        numbered = omega (arith, is, ticket.numbered, ap length us, x.keeps.stands.counted);
        own = subst Q (sym x.page) (subst S (sym is) (subst R us own));
      }

  -- the desk keeps its blobs once the version is finished
  pub finished_keeps : (caller version : ℕ) (w w' : WindowState WaitingUpdate) (row : UpdateRow) (f : IsFinishable version w row) → length w.numbered.rows ≡ length w.numbered.log → is_done w.numbered version ≡ false
      → w'.numbered ≡ with_finished w.numbered version row → w'.updates ≡ drop (published_of w'.numbered - published_of w.numbered) w.updates
      → KeepsDesk limits p houses (h ++ Events.Finish caller blob version ∷ []) (set ws (blob - 1) w')
  finished_keeps caller version w w' row f even waits is left =
      let b : Blob = f.at.found.b in
      let k = finish_kept limits w.numbered b f.at.keeps even version row f.first (omega (arith, f.numbered, f.at.keeps.stands.counted)) f.own in
      let far : published_of w'.numbered ≡ published_of w.numbered + (published_of w'.numbered - published_of w.numbered) = omega (arith, ap published_of is, finish_passes w.numbered version row) in
      finish_keeps caller version f.at.found (finishable_mark version w row f ∙ waits) f.first (omega (arith, f.numbered, f.at.keeps.stands.counted)) f.at.some w'
      (subst (λ (v : Numbered). Keeps limits v (finish b version)) (sym is) k)
      (published_wait p houses b.updates w w' (published_of w'.numbered - published_of w.numbered) far left f.at.waits)
      (ap (λ (v : Numbered). v.blob) is ∙ f.at.id)
      (ap (λ (v : Numbered). v.page_size) is ∙ f.at.page)
