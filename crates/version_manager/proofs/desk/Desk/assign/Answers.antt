use Rattle.std.proofs.Common.{◌≡◌, ℕ, ◌+◌, ◌-◌, ◌<◌, false, List, [], ◌∷◌, ◌++◌, length, map, set, get_or, suc, refl, sym, ◌∙◌, ap, subst}
use Rattle.std.specs.Prelude.{Some, None}
use Rattle.std.specs.Arc.{arc_value}
use Rattle.std.proofs.lemmas.List.{map-set}
use Rattle.page_store.specs.Stored.{Cut, bytes_of_pages, LieAmong}
use Rattle.snapshot.specs.Versions.{Version, IsVersion}
use Rattle.blob_model.specs.Content.{Update, offset_of}
use Rattle.blob_model.specs.Store.{Blob, blob_at, size_now, size_with, and_update}
use Rattle.blob_model.specs.Answer.{answer, first_refusal}
use Rattle.blob_model.specs.History.{store_of, is_refused}
use Rattle.blob_model.specs.declared.call.Call.TheVariants as Calls
use Rattle.blob_model.specs.declared.call.Event.{Event}
use Rattle.blob_model.specs.declared.call.Event.TheVariants as Events
use Rattle.blob_model.specs.declared.call.Outcome.TheVariants as Outcomes
use Rattle.border_hints.specs.Numbered.{own_touch}
use Rattle.publisher.specs.Windows.{Numbered, WindowState, published_of, version_of, waiting_of, with_numbered}
use Rattle.version_manager.specs.Desks.{DeskState, OnRefused, no_window, outcome_now, updates_or_none, IsNumbering, HasHints, with_event, windows_with, window_in}
use Rattle.version_manager.specs.Entries.{event_of}
use Rattle.version_manager.specs.DeskInvariant.{Keeps, IsWaitingUpdate, AreWaiting, update_tests, seen_in, numbered_of}
use Rattle.version_manager.specs.Origins.{parents_of, AreUnder}
use Rattle.version_manager.specs.declared.entry.Change.TheVariants as Changes
use Rattle.version_manager.specs.declared.entry.Entry.{Entry}
use Rattle.version_manager.specs.declared.waiting.WaitingUpdate.{WaitingUpdate}
use Rattle.version_manager.proofs.Desks.{IsAt, at_index, short_yet}
use Rattle.version_manager.proofs.Hints.{has_hints}
use Rattle.version_manager.proofs.Houses.{AreRowsIn, numbered_in}
use Rattle.version_manager.proofs.Keeping.{lies_at, under_at, desk_changed}
use Rattle.version_manager.proofs.Results.{on_no_memory}
use Rattle.version_manager.proofs.Numbering.{numbered_event, is_ticket, is_unfinished, assign_fault, assign_outcome, assign_keeps, assign_there, even_of}
use Rattle.version_manager.proofs.Origins.{numbered_under, version_under}
use Rattle.version_manager.proofs.Waits.{list_stays, numbered_own, numbered_wait}
use Rattle.version_manager.proofs.desk.Desk.assign.Goals.{After-index-window, After-push_reserved}
use Rattle.version_manager.proofs.desk.Desk.assign.Goals as goal

-- the window of the blob, at whichever look
abbrev at : (c : After-index-window) (w : WindowState WaitingUpdate) → w ≡ get_or c.self.inside.windows.items c.in-Some.index w
    → IsAt c.self.invariant.kept c.args.blob c.in-Some.index w
at c w read =
    let d = c.self.inside in
    at_index c.self.invariant.kept c.args.blob c.in-Some.index _ w d.windows.ok.0 c.in-Some.ensures read

-- the store refuses nothing, where the blob takes the update
accepted : (c : After-index-window) → let x = at c c.index-window.result.now c.index-window.ensures in
    first_refusal (update_tests c.self.inside.limits x.found.b c.args.place (bytes_of_pages (arc_value c.args.pages.now).pages)) ≡ None
    → is_refused (outcome_now c.args.self.now c.args.caller (Calls.Assign c.args.blob c.args.place (bytes_of_pages (arc_value c.args.pages.now).pages))) ≡ false
accepted c free =
    let bytes = bytes_of_pages (arc_value c.args.pages.now).pages in
    let x = at c c.index-window.result.now c.index-window.ensures in
    let P : DeskState → Type 0 = λ s. is_refused (outcome_now s c.args.caller (Calls.Assign c.args.blob c.args.place bytes)) ≡ false in
    subst P c.self.view_is (ap is_refused (assign_outcome c.self.invariant.kept c.args.caller c.args.blob c.args.place bytes x.found free))

pub ticket_over-requires-clause-kept : goal.ticket_over-requires-clause-kept
ticket_over-requires-clause-kept c = let x = at (goal.at.ticket_over-requires-clause-kept c).After-index-window c.index-window.result.now c.index-window.ensures in (x.found.b, x.keeps)

pub ticket_over-requires-clause-page_size : goal.ticket_over-requires-clause-page_size
ticket_over-requires-clause-page_size c =
    let x = at (goal.at.ticket_over-requires-clause-page_size c).After-index-window c.index-window.result.now c.index-window.ensures in
    c.requires.page_size ∙ sym (ap (λ (s : DeskState). s.page_size) c.self.view_is) ∙ sym x.page

pub returns-in-Err-clause-refused : goal.returns-in-Err-clause-refused
returns-in-Err-clause-refused c =
    let bytes = bytes_of_pages (arc_value c.args.pages.now).pages in
    let x = at (goal.at.returns-in-Err-clause-refused c).After-index-window c.index-window.result.now c.index-window.ensures in
    let P : DeskState → Type 0 = λ s. OnRefused c.in-Err.fault (λ refusal. (answer (store_of s.limits s.history) c.args.caller (Calls.Assign c.args.blob c.args.place bytes)).1 ≡ Outcomes.Refused refusal) in
    subst P c.self.view_is (assign_fault c.self.invariant.kept c.args.caller c.args.blob c.args.place bytes x.found c.in-Err.fault
    (c.in-Err.ensures.refused x.found.b x.keeps))

pub returns-in-Err-clause-memory : goal.returns-in-Err-clause-memory
returns-in-Err-clause-memory c =
    let here = (goal.at.returns-in-Err-clause-memory c).After-index-window in
    let x = at here c.index-window.result.now c.index-window.ensures in
    on_no_memory c.in-Err.fault _ _ (accepted here) (c.in-Err.ensures.memory x.found.b x.keeps)

pub returns-in_default-shared_twice-clause-memory : goal.returns-in_default-shared_twice-clause-memory
returns-in_default-shared_twice-clause-memory c =
    let here = (goal.at.returns-in_default-shared_twice-clause-memory c).After-index-window in
    let x = at here c.index-window.result.now c.index-window.ensures in
    accepted here (c.in-Ok.ensures.accepted x.found.b x.keeps)

pub returns-in_default-make_room-clause-memory : goal.returns-in_default-make_room-clause-memory
returns-in_default-make_room-clause-memory c =
    let here = (goal.at.returns-in_default-make_room-clause-memory c).After-index-window in
    let x = at here c.index-window.result.now c.index-window.ensures in
    accepted here (c.in-Ok.ensures.accepted x.found.b x.keeps)

pub number-requires-clause-few : goal.number-requires-clause-few
number-requires-clause-few c =
    let here = (goal.at.number-requires-clause-few c).After-index-window in
    let same = (at here c.index-window.result.now c.index-window.ensures).whole ∙ sym (at here c.index_mut.result.now c.index_mut.ensures.value).whole in
    subst (λ (w : WindowState WaitingUpdate). length w.numbered.log < published_of w.numbered + 64) same c.in-Ok.ensures.few

pub number-requires-clause-room : goal.number-requires-clause-room
number-requires-clause-room c =
    let here = (goal.at.number-requires-clause-room c).After-index-window in
    let same = (at here c.index-window.result.now c.index-window.ensures).whole ∙ sym (at here c.index_mut.result.now c.index_mut.ensures.value).whole in
    subst (λ (w : WindowState WaitingUpdate). length w.numbered.log < 1048576) same c.in-Ok.ensures.room

pub invariant_of-self-2 : goal.invariant_of-self-2
invariant_of-self-2 c =
    let d = c.self.inside in
    let houses = arc_value d.houses in
    let nodes = arc_value d.nodes in
    let h = map event_of d.history.entries in
    let blob = c.args.blob in
    let q = arc_value c.args.pages.now in
    let bytes = bytes_of_pages q.pages in
    let u : Update = record { caller = c.args.caller; place = c.args.place; bytes = bytes } in
    let here = (goal.at.invariant_of-self-2 c).After-index-window in
    let x = at here c.index-window.result.now c.index-window.ensures in
    let w = c.index_mut.result.now in
    let y = at here w c.index_mut.ensures.value in
    let b : Blob = x.found.b in
    let after = c.number.new.self in
    let touch = own_touch c.in-Ok.ticket in
    let is : after.numbered ≡ with_numbered w.numbered touch = c.number.ensures.numbered ∙ ap (with_numbered w.numbered) c.touch.ensures in
    let seen : after.numbered ≡ with_numbered c.index-window.result.now.numbered touch = is ∙ ap (λ (v : Numbered). with_numbered v touch) (y.window ∙ sym x.window) in
    let count = subst (λ (v : WindowState WaitingUpdate). published_of v.numbered + length v.updates ≡ length v.numbered.log) (x.whole ∙ sym y.whole) c.stands.ensures.waits in
    let update : WaitingUpdate = record { caller = c.args.caller; at = c.at.result; pages = c.in-Ok-shared_twice.kept } in
    let page : q.page_size ≡ d.page_size = c.requires.page_size ∙ sym (ap (λ (s : DeskState). s.page_size) c.self.view_is) in
    let lie : LieAmong houses q.pages = subst (λ (s : DeskState). LieAmong s.houses q.pages) (sym c.self.view_is) c.requires.here in
    let last = numbered_own d.page_size houses b.updates u update q refl (c.at.ensures ∙ c.in-Ok.ensures.at b x.keeps) c.in-Ok-shared_twice.ensures.1 refl page lie in
    let own = subst (λ (n : ℕ). IsWaitingUpdate d.page_size houses (b.updates ++ u ∷ []) (suc n) update) (x.keeps.stands.counted ∙ ap (λ (v : Numbered). length v.log) (x.window ∙ sym y.window)) last in
    let waits = numbered_wait d.page_size houses (b.updates ++ u ∷ []) w after touch update (list_stays d.page_size houses b.updates (u ∷ []) w
    (subst (AreWaiting d.page_size houses b.updates) (x.whole ∙ sym y.whole) x.waits)) count own is c.number.ensures.updates in
    let keeps = assign_keeps c.self.invariant.kept c.args.caller blob c.args.place bytes x.found (c.in-Ok.ensures.accepted b x.keeps) c.requires.some x.some after
    (subst (λ (v : Numbered). Keeps d.limits v (and_update b u)) (sym seen) (c.in-Ok.ensures.kept b u x.keeps refl refl)) waits (ap (λ (v : Numbered). v.blob) is ∙ y.id) (ap (λ (v : Numbered). v.page_size) is ∙ y.page) in
    let entry : Entry = record { caller = c.args.caller; change = Changes.Assign blob c.args.place c.in-Ok-shared_twice.pages } in
    let e : Event = Events.Assign c.args.caller blob c.args.place bytes in
    let pushed = c.push_reserved.ensures ∙ ap (λ (l : List Entry). l ++ entry ∷ []) c.make_room.ensures.entries in
    desk_changed c.self.invariant _ e blob c.in-Some.index after
    (numbered_event d.history.entries c.make_room.new.self.entries c.push_reserved.new.self.entries c.args.caller blob c.args.place c.in-Ok-shared_twice.pages _ c.make_room.ensures.entries c.push_reserved.ensures c.in-Ok-shared_twice.ensures.0)
    x.at x.some refl keeps
    (subst (λ (v : Numbered). AreRowsIn nodes houses v) (sym is) (numbered_in nodes houses w.numbered touch (lies_at c.self.invariant blob c.in-Some.index w y)))
    (subst (λ (v : Numbered). AreUnder (parents_of h) blob v.rows) (sym is) (numbered_under (parents_of h) blob w.numbered touch (under_at c.self.invariant blob c.in-Some.index w y)))
    (short_yet d.history.entries c.push_reserved.new.self.entries entry pushed c.in-Ok-make_room.ensures.short) tt

pub returns-clause-assigned : goal.returns-clause-assigned
returns-clause-assigned c =
    let blob = c.args.blob in
    let t = c.in-Ok.ticket in
    let bytes = bytes_of_pages (arc_value c.args.pages.now).pages in
    let x = at (goal.at.returns-clause-assigned c).After-index-window c.index-window.result.now c.index-window.ensures in
    let b : Blob = x.found.b in
    let P : DeskState → Type 0 = λ s. (answer (store_of s.limits s.history) c.args.caller (Calls.Assign blob c.args.place bytes)).1 ≡ Outcomes.Assigned t.version t.at t.size in
    subst P c.self.view_is (
    assign_outcome c.self.invariant.kept c.args.caller blob c.args.place bytes x.found (c.in-Ok.ensures.accepted b x.keeps)
    ∙ ap (λ (n : ℕ). Outcomes.Assigned n (offset_of c.args.place (size_now b)) (size_with b c.args.place bytes)) (sym (c.in-Ok.ensures.version b x.keeps))
    ∙ ap (λ (n : ℕ). Outcomes.Assigned t.version n (size_with b c.args.place bytes)) (sym (c.in-Ok.ensures.at b x.keeps))
    ∙ ap (λ (n : ℕ). Outcomes.Assigned t.version t.at n) (sym (c.in-Ok.ensures.size b x.keeps))
    )

pub returns-clause-numbering : goal.returns-clause-numbering
returns-clause-numbering c =
    let t = c.in-Ok.ticket in
    let x = at (goal.at.returns-clause-numbering c).After-index-window c.index-window.result.now c.index-window.ensures in
    let P : DeskState → Type 0 = λ s. IsNumbering s c.args.caller c.args.blob t in
    subst P c.self.view_is record {
      caller = c.in-Ok.ensures.caller;
      blob = c.in-Ok.ensures.blob ∙ x.id;
      version = c.in-Ok.ensures.version x.found.b x.keeps ∙ ap (λ o. length (updates_or_none o) + 1) (sym x.found.at);
      len = c.in-Ok.ensures.len ∙ ap (λ (q : Cut). length (bytes_of_pages q.pages)) (sym c.in-Ok.ensures.pages);
      snapshot = c.in-Ok.ensures.snapshot ∙ ap version_of x.window;
      waiting = c.in-Ok.ensures.waiting ∙ ap waiting_of x.window;
    }

-- the blob, once the update is entered
entered : (c : After-push_reserved) → let x = at_index c.self.invariant.kept
    c.args.blob c.in-Some.index _ c.index-window.result.now c.self.inside.windows.ok.0 c.in-Some.ensures c.index-window.ensures in
    blob_at (store_of c.self.inside.limits (map event_of c.push_reserved.new.self.entries)) c.args.blob
    ≡ Some (and_update x.found.b record { caller = c.args.caller; place = c.args.place; bytes = bytes_of_pages (arc_value c.args.pages.now).pages })
entered c =
    let d = c.self.inside in
    let blob = c.args.blob in
    let bytes = bytes_of_pages (arc_value c.args.pages.now).pages in
    let x = at_index c.self.invariant.kept blob c.in-Some.index _ c.index-window.result.now d.windows.ok.0 c.in-Some.ensures
    c.index-window.ensures in
    let history = numbered_event d.history.entries c.make_room.new.self.entries c.push_reserved.new.self.entries c.args.caller blob c.args.place c.in-Ok-shared_twice.pages _ c.make_room.ensures.entries c.push_reserved.ensures
    c.in-Ok-shared_twice.ensures.0 in
    ap (λ (l : List Event). blob_at (store_of d.limits l) blob) history
    ∙ assign_there c.self.invariant.kept c.args.caller blob c.args.place bytes x.found (c.in-Ok.ensures.accepted x.found.b x.keeps)

pub returns-clause-ticket : goal.returns-clause-ticket
returns-clause-ticket c =
    let d = c.self.inside in
    let t = c.in-Ok.ticket in
    let u : Update = record { caller = c.args.caller; place = c.args.place; bytes = bytes_of_pages (arc_value c.args.pages.now).pages } in
    let x = at (goal.at.returns-clause-ticket c).After-index-window c.index-window.result.now c.index-window.ensures in
    let b : Blob = x.found.b in
    let O : ℕ → List Update = λ i. updates_or_none (blob_at (store_of d.limits (map event_of c.push_reserved.new.self.entries)) i) in
    let updates : O t.blob ≡ b.updates ++ u ∷ [] = ap O (c.in-Ok.ensures.blob ∙ x.id) ∙ ap updates_or_none (entered (goal.at.returns-clause-ticket c).After-push_reserved) in
    is_ticket _ t b.updates u updates (c.in-Ok.ensures.version b x.keeps) (ap (λ (s : Version). s.page_size) c.in-Ok.ensures.snapshot ∙ x.page) (sym c.in-Ok.ensures.caller)
    (ap (λ (q : Cut). bytes_of_pages q.pages) c.in-Ok.ensures.pages) (c.in-Ok.ensures.stands b u x.keeps refl refl)

pub returns-clause-unfinished : goal.returns-clause-unfinished
returns-clause-unfinished c =
    let d = c.self.inside in
    let u : Update = record { caller = c.args.caller; place = c.args.place; bytes = bytes_of_pages (arc_value c.args.pages.now).pages } in
    let x = at (goal.at.returns-clause-unfinished c).After-index-window c.index-window.result.now c.index-window.ensures in
    let b : Blob = x.found.b in
    is_unfinished _ c.args.blob c.in-Ok.ticket.version b u (entered (goal.at.returns-clause-unfinished c).After-push_reserved) (c.in-Ok.ensures.version b x.keeps)
    (even_of d.limits b c.index-window.result.now.numbered x.keeps (sym c.stands.ensures.log))

pub returns-clause-new : goal.returns-clause-new
returns-clause-new c =
    let d = c.self.inside in
    let items = d.windows.items in
    let blob = c.args.blob in
    let after = c.number.new.self in
    let w = c.index_mut.result.now in
    let y = at (goal.at.returns-clause-new c).After-index-window w c.index_mut.ensures.value in
    let touch = own_touch c.in-Ok.ticket in
    let desk : List Event → List Numbered → DeskState = λ l ws. record { limits = d.limits; page_size = d.page_size; houses = arc_value d.houses; nodes = arc_value d.nodes; history = l; windows = ws } in
    let e : Event = Events.Assign c.args.caller blob c.args.place (bytes_of_pages (arc_value c.args.pages.now).pages) in
    let history = numbered_event d.history.entries c.make_room.new.self.entries c.push_reserved.new.self.entries c.args.caller blob c.args.place c.in-Ok-shared_twice.pages _ c.make_room.ensures.entries c.push_reserved.ensures
    c.in-Ok-shared_twice.ensures.0 in
    let is : after.numbered ≡ with_numbered (get_or (numbered_of items) (blob - 1) no_window) touch =
    c.number.ensures.numbered ∙ ap (with_numbered w.numbered) c.touch.ensures ∙ ap (λ (v : Numbered). with_numbered v touch) y.window in
    let windows = map-set seen_in items c.in-Some.index after ∙ ap (λ (i : ℕ). set (numbered_of items) i after.numbered) y.at ∙ ap (set (numbered_of items) (blob - 1)) is in
    let P : DeskState → Type 0 = λ s. desk (map event_of c.push_reserved.new.self.entries) (numbered_of (set items c.in-Some.index after)) ≡ with_event s e (windows_with s blob (with_numbered (window_in s blob) touch)) in
    subst P c.self.view_is (ap (λ (l : List Event). desk l (numbered_of (set items c.in-Some.index after))) history ∙ ap (desk (map event_of d.history.entries ++ e ∷ [])) windows)

pub returns-clause-hints : goal.returns-clause-hints
returns-clause-hints c =
    let d = c.self.inside in
    let h = map event_of d.history.entries in
    let blob = c.args.blob in
    let t = c.in-Ok.ticket in
    let w = c.index-window.result.now in
    let x = at (goal.at.returns-clause-hints c).After-index-window w c.index-window.ensures in
    let lies = lies_at c.self.invariant blob c.in-Some.index w x in
    let under = under_at c.self.invariant blob c.in-Some.index w x in
    let P : DeskState → Type 0 = λ s. HasHints s blob t in
    subst P c.self.view_is (has_hints _ blob t x.found.b w.numbered d.limits x.found.at x.id x.page x.keeps (sym c.stands.ensures.log) (subst (λ (v : Version). IsVersion v) c.in-Ok.ensures.snapshot c.in-Ok.ensures.published)
    c.in-Ok.ensures.snapshot c.in-Ok.ensures.waiting lies (version_under h blob w.numbered under))
