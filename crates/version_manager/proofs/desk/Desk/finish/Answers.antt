use Rattle.std.proofs.Common.{◌≡◌, ℕ, ◌-◌, Bool, true, false, List, [], ◌∷◌, ◌++◌, length, map, set, drop, get_or, refl, sym, ◌∙◌, ap, subst, arith}
use Rattle.std.specs.Prelude.{Option, Some, None}
use Rattle.std.specs.Arc.{arc_value}
use Rattle.std.proofs.lemmas.List.{map-set}
use Rattle.blob_model.specs.Store.{Blob, blob_at, published, is_finished, finish}
use Rattle.blob_model.specs.Answer.{answer, first_refusal, not_numbered, already}
use Rattle.blob_model.specs.History.{store_of}
use Rattle.blob_model.specs.declared.call.Call.TheVariants as Calls
use Rattle.blob_model.specs.declared.call.Event.{Event}
use Rattle.blob_model.specs.declared.call.Event.TheVariants as Events
use Rattle.blob_model.specs.declared.call.Outcome.TheVariants as Outcomes
use Rattle.blob_model.specs.declared.call.Refusal.{Refusal}
use Rattle.blob_model.specs.Limits.{Bounds}
use Rattle.blob_model.proofs.Marks.{finished_same}
use Rattle.node_store.specs.UpdateRows.{IsRowIn}
use Rattle.publisher.specs.Windows.{Numbered, WindowState, published_of, with_finished}
use Rattle.version_manager.specs.declared.entry.Entry.{Entry}
use Rattle.version_manager.specs.declared.entry.Change.TheVariants as Changes
use Rattle.version_manager.specs.declared.waiting.WaitingUpdate.{WaitingUpdate}
use Rattle.version_manager.specs.Desks.{DeskState, store_now, finished_or_not, is_finished_in, with_event, window_in, windows_with, IsTicketOf, IsRowFor}
use Rattle.version_manager.specs.Entries.{event_of}
use Rattle.version_manager.specs.DeskInvariant.{Keeps, seen_in, numbered_of}
use Rattle.version_manager.specs.Folds.{IsInOrder}
use Rattle.version_manager.specs.Origins.{parents_of, AreUnder}
use Rattle.version_manager.proofs.Blobs.{finish_kept, published_is}
use Rattle.version_manager.proofs.Desks.{pushed_event, short_yet}
use Rattle.version_manager.proofs.Finishing.{IsFinishable, this, finishable, finishable_mark, finishable_told, finish_refused, finish_outcome, finish_there, finished_keeps}
use Rattle.version_manager.proofs.Houses.{AreRowsIn, finished_in}
use Rattle.version_manager.proofs.Keeping.{lies_at, under_at, desk_changed}
use Rattle.version_manager.proofs.Numbering.{even_of}
use Rattle.version_manager.proofs.Origins.{finished_under, unfinished_none}
use Rattle.version_manager.proofs.Reissuing.{none_passes, some_hits}
use Rattle.version_manager.proofs.desk.Desk.finish.Goals.{After-index-window}
use Rattle.version_manager.proofs.desk.Desk.finish.Goals as goal

-- the row fits the window of the ticket's blob, at whichever look
found : (c : After-index-window) (w : WindowState WaitingUpdate) → w ≡ get_or c.self.inside.windows.items (c.blob-blob.result - 1) w
    → IsFinishable c.self.invariant.kept c.blob-blob.result c.version-version.result w (arc_value c.args.row)
found c w read =
    let d = c.self.inside in
    let t = c.args.ticket.now in
    let row = arc_value c.args.row in
    let is = c.version-version.ensures.version in
    finishable c.self.invariant.kept c.blob-blob.result (arc_value d.nodes) t c.version-version.result w row c.blob-blob.ensures is
    (omega (arith, is, c.version-version.ensures.stands.version)) (subst (λ (s : DeskState). IsTicketOf s t) (sym c.self.view_is) c.requires.ticket)
    (subst (λ (s : DeskState). IsRowFor s t row) (sym c.self.view_is) c.requires.row) read

-- what is said of the version of that blob is said of the ticket's
said : (c : After-index-window) (P : DeskState → ℕ → ℕ → Type 0) → P (this c.self.invariant.kept c.blob-blob.result (arc_value c.self.inside.nodes)) c.blob-blob.result c.version-version.result
    → P c.args.self.now c.args.ticket.now.blob c.args.ticket.now.version
said c P here =
    let t = c.args.ticket.now in
    let d = this c.self.invariant.kept c.blob-blob.result (arc_value c.self.inside.nodes) in
    subst (λ (s : DeskState). P s t.blob t.version) c.self.view_is
    (subst (λ (n : ℕ). P d t.blob n) c.version-version.ensures.version (subst (λ (i : ℕ). P d i c.version-version.result) c.blob-blob.ensures here))

-- whether the ticket's version is finished, by the blob
marked : (c : After-index-window) (w : WindowState WaitingUpdate) (read : w ≡ get_or c.self.inside.windows.items (c.blob-blob.result - 1) w) (mark : Bool) → is_finished (found c w read).at.found.b c.version-version.result ≡ mark
    → is_finished_in c.args.self.now c.args.ticket.now.blob c.args.ticket.now.version ≡ mark
marked c w read mark is = said c (λ s i n. is_finished_in s i n ≡ mark) (ap (λ o. finished_or_not o c.version-version.result) (found c w read).at.found.at ∙ is)

-- the blob, by the first look
abbrev looked : (c : After-index-window) → Blob
looked c = (found c c.index-window.result.now c.index-window.ensures).at.found.b

-- why the store refuses the finish, if it does
told : (c : After-index-window) (o : Option Refusal)
    → ((limits : Bounds) (b : Blob) → Keeps limits c.index-window.result.now.numbered b → o ≡ first_refusal (not_numbered b c.version-version.result ∷ already b c.version-version.result ∷ []))
    → o ≡ first_refusal (already (looked c) c.version-version.result ∷ [])
told c o is =
    let f = found c c.index-window.result.now c.index-window.ensures in
    finishable_told _ _ c.version-version.result c.index-window.result.now _ f o (is c.self.inside.limits f.at.found.b f.at.keeps)

pub finish-requires-clause-numbered : goal.finish-requires-clause-numbered
finish-requires-clause-numbered c = let f = found (goal.at.finish-requires-clause-numbered c).After-index-window c.index_mut.result.now c.index_mut.ensures.value in (f.first, f.numbered)

pub finish-requires-clause-own : goal.finish-requires-clause-own
finish-requires-clause-own c =
    let f = found (goal.at.finish-requires-clause-own c).After-index-window c.index_mut.result.now c.index_mut.ensures.value in
    (f.at.found.b.updates, f.at.keeps.stands, f.own)

pub invariant_of-self-in-Ok-finish : goal.invariant_of-self-in-Ok-finish
invariant_of-self-in-Ok-finish c =
    let d = c.self.inside in
    let houses = arc_value d.houses in
    let nodes = arc_value d.nodes in
    let h = map event_of d.history.entries in
    let row = arc_value c.args.row in
    let blob = c.blob-blob.result in
    let v = c.version-version.result in
    let w = c.index_mut.result.now in
    let after = c.finish.new.self in
    let here = (goal.at.invariant_of-self-in-Ok-finish c).After-index-window in
    let f = found here w c.index_mut.ensures.value in
    let g = found here c.index-window.result.now c.index-window.ensures in
    let done = c.in-Ok-finish.ensures in
    let even = subst (λ (x : WindowState WaitingUpdate). length x.numbered.rows ≡ length x.numbered.log) (g.at.whole ∙ sym f.at.whole) (sym c.stands.ensures.log) in
    let left : after.updates ≡ drop (published_of after.numbered - published_of w.numbered) w.updates =
    done.updates ∙ ap (λ (n : ℕ). drop (n - published_of w.numbered) w.updates) (done.published ∙ sym (ap published_of done.finished)) in
    let keeps = finished_keeps c.self.invariant.kept blob c.args.caller v w after row f even done.unfinished done.finished left in
    let entry : Entry = record { caller = c.args.caller; change = Changes.Finish blob v } in
    let pushed = c.push_reserved.ensures ∙ ap (λ (l : List Entry). l ++ entry ∷ []) c.make_room.ensures.entries in
    let fits : IsRowIn nodes houses row = subst (λ (s : DeskState). IsRowIn s.nodes s.houses row) (sym c.self.view_is) c.requires.here in
    let lies = finished_in nodes houses w.numbered v row fits (lies_at c.self.invariant blob (blob - 1) w f.at) in
    let under = finished_under (parents_of h) blob w.numbered v row (c.requires.under ∙ sym c.blob-blob.ensures) (unfinished_none w.numbered.rows (v - 1) done.unfinished)
    (under_at c.self.invariant blob (blob - 1) w f.at) in
    let I : ℕ → ℕ → Type 0 = λ i n. IsInOrder d.page_size (store_of d.limits h) i n in
    let order : I c.args.ticket.now.blob c.args.ticket.now.version = subst (λ (s : DeskState). IsInOrder s.page_size (store_now s) c.args.ticket.now.blob c.args.ticket.now.version) (sym c.self.view_is) c.requires.in_order in
    desk_changed c.self.invariant _ (Events.Finish c.args.caller blob v) blob (blob - 1) after (pushed_event d.history.entries c.push_reserved.new.self.entries entry pushed) refl
    f.at.some refl keeps (subst (λ (x : Numbered). AreRowsIn nodes houses x) (sym done.finished) lies) (subst (λ (x : Numbered). AreUnder (parents_of h) blob x.rows) (sym done.finished) under)
    (short_yet d.history.entries c.push_reserved.new.self.entries entry pushed c.in-Ok.ensures.short)
    (subst (λ (i : ℕ). I i v) (sym c.blob-blob.ensures) (subst (λ (n : ℕ). I c.args.ticket.now.blob n) (sym c.version-version.ensures.version) order))

pub returns-in-Ok-finish-clause-published : goal.returns-in-Ok-finish-clause-published
returns-in-Ok-finish-clause-published c =
    let d = c.self.inside in
    let v = c.version-version.result in
    let w = c.index_mut.result.now in
    let here = (goal.at.returns-in-Ok-finish-clause-published c).After-index-window in
    let f = found here w c.index_mut.ensures.value in
    let g = found here c.index-window.result.now c.index-window.ensures in
    let b : Blob = f.at.found.b in
    let even = subst (λ (x : WindowState WaitingUpdate). length x.numbered.rows ≡ length x.numbered.log) (g.at.whole ∙ sym f.at.whole) (sym c.stands.ensures.log) in
    let k = finish_kept d.limits w.numbered b f.at.keeps even v (arc_value c.args.row) f.first (omega (arith, f.numbered, f.at.keeps.stands.counted)) f.own in
    let now : published (finish b v) ≡ c.in-Ok-finish.published = sym (published_is d.limits (with_finished w.numbered v (arc_value c.args.row)) (finish b v) k) ∙ sym c.in-Ok-finish.ensures.published in
    said here (λ s i n. (answer (store_of s.limits s.history) c.args.caller (Calls.Finish i n)).1 ≡ Outcomes.Published c.in-Ok-finish.published)
    (finish_outcome c.self.invariant.kept c.blob-blob.result c.args.caller v f.at.found
    (finishable_mark _ _ v w _ f ∙ c.in-Ok-finish.ensures.unfinished) ∙ ap (λ (n : ℕ). Outcomes.Published n) now)

pub returns-in-Ok-finish-clause-unfinished : goal.returns-in-Ok-finish-clause-unfinished
returns-in-Ok-finish-clause-unfinished c =
    let here = (goal.at.returns-in-Ok-finish-clause-unfinished c).After-index-window in
    let w = c.index_mut.result.now in
    marked here w c.index_mut.ensures.value false (finishable_mark _ _ c.version-version.result w _ (found here w c.index_mut.ensures.value) ∙ c.in-Ok-finish.ensures.unfinished)

pub returns-in-Ok-finish-clause-finished : goal.returns-in-Ok-finish-clause-finished
returns-in-Ok-finish-clause-finished c =
    let d = c.self.inside in
    let v = c.version-version.result in
    let blob = c.blob-blob.result in
    let w = c.index_mut.result.now in
    let here = (goal.at.returns-in-Ok-finish-clause-finished c).After-index-window in
    let f = found here w c.index_mut.ensures.value in
    let g = found here c.index-window.result.now c.index-window.ensures in
    let b : Blob = f.at.found.b in
    let even = subst (λ (x : WindowState WaitingUpdate). length x.numbered.rows ≡ length x.numbered.log) (g.at.whole ∙ sym f.at.whole) (sym c.stands.ensures.log) in
    let marks = even_of d.limits b w.numbered f.at.keeps even in
    let there = finish_there c.self.invariant.kept blob c.args.caller v f.at.found
    (finishable_mark _ _ v w _ f ∙ c.in-Ok-finish.ensures.unfinished) in
    let entry : Entry = record { caller = c.args.caller; change = Changes.Finish blob v } in
    let history = pushed_event d.history.entries c.push_reserved.new.self.entries entry (c.push_reserved.ensures ∙ ap (λ (l : List Entry). l ++ entry ∷ []) c.make_room.ensures.entries) in
    said here (λ _ i n. finished_or_not (blob_at (store_of d.limits (map event_of c.push_reserved.new.self.entries)) i) n ≡ true)
    (ap (λ (l : List Event). finished_or_not (blob_at (store_of d.limits l) blob) v) history ∙ ap (λ o. finished_or_not o v) there
    ∙ finished_same b v f.first (omega (arith, f.numbered, f.at.keeps.stands.counted, marks)))

pub returns-in-Some-clause-already : goal.returns-in-Some-clause-already
returns-in-Some-clause-already c =
    let here = (goal.at.returns-in-Some-clause-already c).After-index-window in
    marked here c.index-window.result.now c.index-window.ensures true (some_hits (already (looked here) c.version-version.result) c.in-Some.refusal (told here (Some c.in-Some.refusal) c.in-Some.ensures.refusal))

pub returns-in-Err-clause-waits : goal.returns-in-Err-clause-waits
returns-in-Err-clause-waits c =
    let here = (goal.at.returns-in-Err-clause-waits c).After-index-window in
    marked here c.index-window.result.now c.index-window.ensures false (none_passes (already (looked here) c.version-version.result) [] (told here None c.in_default.ensures.refusal)).0

pub returns-in_default-make_room-clause-waits : goal.returns-in_default-make_room-clause-waits
returns-in_default-make_room-clause-waits c =
    let here = (goal.at.returns-in_default-make_room-clause-waits c).After-index-window in
    marked here c.index-window.result.now c.index-window.ensures false (none_passes (already (looked here) c.version-version.result) [] (told here None c.in_default.ensures.refusal)).0

pub returns-in-Some-clause-refused : goal.returns-in-Some-clause-refused
returns-in-Some-clause-refused c =
    let v = c.version-version.result in
    let here = (goal.at.returns-in-Some-clause-refused c).After-index-window in
    let f = found here c.index-window.result.now c.index-window.ensures in
    said here (λ s i n. (answer (store_of s.limits s.history) c.args.caller (Calls.Finish i n)).1 ≡ Outcomes.Refused c.in-Some.refusal)
    (finish_refused c.self.invariant.kept c.blob-blob.result c.args.caller v f.at.found c.in-Some.refusal
    (told here (Some c.in-Some.refusal) c.in-Some.ensures.refusal))

pub returns-in-Ok-finish-clause-new : goal.returns-in-Ok-finish-clause-new
returns-in-Ok-finish-clause-new c =
    let d = c.self.inside in
    let items = d.windows.items in
    let row = arc_value c.args.row in
    let blob = c.blob-blob.result in
    let v = c.version-version.result in
    let w = c.index_mut.result.now in
    let here = (goal.at.returns-in-Ok-finish-clause-new c).After-index-window in
    let f = found here w c.index_mut.ensures.value in
    let entry : Entry = record { caller = c.args.caller; change = Changes.Finish blob v } in
    let history = pushed_event d.history.entries c.push_reserved.new.self.entries entry (c.push_reserved.ensures ∙ ap (λ (l : List Entry). l ++ entry ∷ []) c.make_room.ensures.entries) in
    let old = this c.self.invariant.kept blob (arc_value d.nodes) in
    let desk : List Event → List Numbered → DeskState = λ l ws. record { limits = d.limits; page_size = d.page_size; houses = arc_value d.houses; nodes = arc_value d.nodes; history = l; windows = ws } in
    let after = map event_of c.push_reserved.new.self.entries in
    let windows : numbered_of (set items (blob - 1) c.finish.new.self) ≡ windows_with old blob (with_finished (window_in old blob) v row) =
    map-set seen_in items (blob - 1) c.finish.new.self ∙ ap (λ (x : Numbered). set (numbered_of items) (blob - 1) x) (c.in-Ok-finish.ensures.finished ∙ ap (λ (x : Numbered). with_finished x v row) f.at.window) in
    said here (λ s i n. desk after (numbered_of (set items (blob - 1) c.finish.new.self)) ≡ with_event s (Events.Finish c.args.caller i n) (windows_with s i (with_finished (window_in s i) n row)))
    (ap (λ (l : List Event). desk l (numbered_of (set items (blob - 1) c.finish.new.self))) history ∙ ap (desk (map event_of d.history.entries ++ event_of entry ∷ [])) windows)
