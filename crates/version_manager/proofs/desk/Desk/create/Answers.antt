use Rattle.std.proofs.Common.{◌≡◌, ℕ, ◌+◌, List, [], ◌∷◌, ◌++◌, length, map, suc, refl, sym, ◌∙◌, ap, subst, arith}
use Rattle.std.specs.Prelude.{None}
use Rattle.std.specs.Arc.{arc_value}
use Rattle.std.proofs.lemmas.List.{map-append, length-map}
use Rattle.blob_model.specs.History.{is_refused}
use Rattle.blob_model.specs.declared.call.Call.TheVariants as Calls
use Rattle.blob_model.specs.declared.call.Event.{Event}
use Rattle.blob_model.specs.declared.call.Event.TheVariants as Events
use Rattle.blob_model.specs.declared.call.Outcome.TheVariants as Outcomes
use Rattle.blob_model.specs.declared.call.Refusal.{Refusal}
use Rattle.publisher.specs.Windows.{Numbered, window_on}
use Rattle.version_manager.specs.Desks.{DeskState, outcome_now, with_event, windows_and}
use Rattle.version_manager.specs.Entries.{event_of}
use Rattle.version_manager.specs.DeskInvariant.{seen_in, numbered_of}
use Rattle.version_manager.specs.Origins.{parents_of}
use Rattle.version_manager.proofs.Desks.{short_yet}
use Rattle.version_manager.proofs.NewBlobs.{create_refused, create_outcome, create_keeps}
use Rattle.version_manager.proofs.Houses.{none_in}
use Rattle.version_manager.proofs.Keeping.{desk_and}
use Rattle.version_manager.proofs.Origins.{none_under}
use Rattle.version_manager.proofs.desk.Desk.create.Goals.{After-first_in}
use Rattle.version_manager.proofs.desk.Desk.create.Goals as goal

-- there may be one blob more
abbrev fewer : (c : After-first_in) → length c.self.inside.windows.items ≡ c.self.inside.limits.max_blobs → ⊥
fewer c e = c.in-Ok.ensures.fewer (omega (arith, e, c.self.inside.windows.ok.0))

-- and the store makes it
outcome : (c : After-first_in) → outcome_now c.args.self.now c.args.caller Calls.Create ≡ Outcomes.Blob c.in-Ok.id
outcome c =
    let d = c.self.inside in
    let same : length d.windows.items + 1 ≡ c.in-Ok.id = omega (arith, c.in-Ok.ensures.id, d.windows.ok.0) in
    let P : DeskState → Type 0 = λ s. outcome_now s c.args.caller Calls.Create ≡ Outcomes.Blob c.in-Ok.id in
    subst P c.self.view_is (create_outcome c.self.invariant.kept c.args.caller (fewer c) ∙ ap (λ (n : ℕ). Outcomes.Blob n) same)

pub returns-in-Err-clause-refused : goal.returns-in-Err-clause-refused
returns-in-Err-clause-refused c =
    let d = c.self.inside in
    let full : length d.windows.items ≡ d.limits.max_blobs = omega (arith, c.in-Err.ensures.full.1, d.windows.ok.0) in
    let P : DeskState → Type 0 = λ s. outcome_now s c.args.caller Calls.Create ≡ Outcomes.Refused c.in-Err.refusal in
    subst P c.self.view_is (create_refused c.self.invariant.kept c.args.caller full ∙ ap (λ (r : Refusal). Outcomes.Refused r) (sym c.in-Err.ensures.full.0))

pub invariant_of-self-2 : goal.invariant_of-self-2
invariant_of-self-2 c =
    let d = c.self.inside in
    let h = map event_of d.history.entries in
    let houses = arc_value d.houses in
    let nodes = arc_value d.nodes in
    let w = c.in-Ok-first_in.window in
    let new = c.in-Ok-first_in.ensures.new in
    let id : w.numbered.blob ≡ length d.windows.items + 1 = ap (λ (x : Numbered). x.blob) new ∙ (let same : c.in-Ok.id ≡ length d.windows.items + 1 = omega (arith, c.in-Ok.ensures.id, d.windows.ok.0) in same) in
    let page : w.numbered.page_size ≡ d.page_size = ap (λ (x : Numbered). x.page_size) new in
    let rows = ap (λ (x : Numbered). x.rows) new in
    let keeps = create_keeps c.self.invariant.kept c.args.caller (fewer (goal.at.invariant_of-self-2 c).After-first_in) w (c.in-Ok-first_in.ensures.kept d.limits)
    c.in-Ok-first_in.ensures.none id page in
    let own = none_under (parents_of h) w.numbered (suc (length d.windows.items)) (omega (arith, c.self.invariant.origins.count, length-map d.windows.items seen_in)) rows in
    desk_and c.self.invariant _ (Events.Create c.args.caller) None w _ (ap (map event_of) c.in-Ok-add.ensures.history ∙ map-append event_of d.history.entries _)
    c.in-Ok-add.ensures.windows refl keeps (none_in nodes houses w.numbered rows) own (short_yet d.history.entries _ _ c.in-Ok-add.ensures.history c.in-Ok-add.ensures.short) tt

pub returns-clause-new : goal.returns-clause-new
returns-clause-new c =
    let d = c.self.inside in
    let desk : List Event → List Numbered → DeskState = λ l ws. record { limits = d.limits; page_size = d.page_size; houses = arc_value d.houses; nodes = arc_value d.nodes; history = l; windows = ws } in
    let h = map event_of d.history.entries in
    let e : Event = Events.Create c.args.caller in
    let history = ap (map event_of) c.in-Ok-add.ensures.history ∙ map-append event_of d.history.entries _ in
    let windows = ap numbered_of c.in-Ok-add.ensures.windows ∙ map-append seen_in d.windows.items (c.in-Ok-first_in.window ∷ []) ∙ ap (λ (w : Numbered). numbered_of d.windows.items ++ w ∷ []) c.in-Ok-first_in.ensures.new in
    let P : DeskState → Type 0 = λ s. desk (map event_of c.add.new.history.entries) (numbered_of c.add.new.windows.items)
    ≡ with_event s e (windows_and s (window_on record { blob = c.in-Ok.id; page_size = s.page_size; rows = [] })) in
    subst P c.self.view_is (ap (λ (l : List Event). desk l (numbered_of c.add.new.windows.items)) history ∙ ap (desk (h ++ e ∷ [])) windows)

pub returns-clause-blob : goal.returns-clause-blob
returns-clause-blob c = outcome (goal.at.returns-clause-blob c).After-first_in

pub returns-in_default-clause-memory : goal.returns-in_default-clause-memory
returns-in_default-clause-memory c = ap is_refused (outcome (goal.at.returns-in_default-clause-memory c).After-first_in)

pub returns-in_default-add-clause-memory : goal.returns-in_default-add-clause-memory
returns-in_default-add-clause-memory c = ap is_refused (outcome (goal.at.returns-in_default-add-clause-memory c).After-first_in)
