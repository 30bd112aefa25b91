-- What a run's session was served, from what its store says.
use Rattle.std.proofs.Common.{◌≡◌, ℕ, false, List, [], ◌++◌, sum_by, refl, sym, ◌∙◌, ap, subst}
use Rattle.std.specs.Prelude.{Option, Some, Result, Ok, Err, IfOk}
use Rattle.blob_model.specs.Limits.{Bounds}
use Rattle.blob_model.specs.declared.call.Event.{Event}
use Rattle.request_form.specs.Session.{Session, AllOwn}
use Rattle.request_form.specs.Answers.{max_update}
use Rattle.request_form.specs.Transcript.{first_session}
use Rattle.script_text.specs.Lines.{heard}
use Rattle.script_text.specs.Said.{said}
use Rattle.server_core.specs.declared.flow.End.{End}
use Rattle.server_core.specs.declared.flow.End.TheVariants as Ends
use Rattle.server_core.specs.Progress.{Point}
use Rattle.server_core.specs.Served.{Input, Served}
use Rattle.server_core.proofs.Served.{Served-none}
use Rattle.turn_lock.specs.History.{Log, Begins, LacksUngiven}
use Rattle.turn_lock.specs.Shown.{PassView, OwnerView}
use Rattle.version_manager.specs.Log.{tagged, events}
use Rattle.version_manager.specs.declared.journal.DeskFixed.{DeskFixed}
use Rattle.client_session.specs.Sessions.{StoreState, IsOwnerOf, SessionState, session_at, session_of, pass_of}
use Rattle.settings.specs.Values.{SettingsValues}
use Rattle.blobseer_run.specs.Conversation.{input_limit}
use Rattle.blobseer_run.specs.Script.{fixed_of}
use Rattle.blobseer_run.specs.Serving.{ServedLines}
use Rattle.blobseer_run.specs.Store.{IsNewStore}
use Rattle.blobseer_run.proofs.Alone.{own_of}

-- ---- nothing was served for want of memory

served_none : (old : Point) (input : Input) → Served said old heard input input input_limit old Ends.NoMemory
served_none old input = Served-none said old heard input input_limit refl

pub lines_none : (session : Session) (faults : ℕ) (input : Input) (written : Option (List ℕ)) → ServedLines (record { session = session; faults = faults; written = written }) input input session.seen faults written Ends.NoMemory
lines_none session faults input written = record { last = session; sees = refl; served = served_none (record { session = session; faults = faults; written = written }) input }

-- the session couldn't be made, and its pass and its doors came back
pub lines_back : {D : Type 0} (faults : D → ℕ) (f : DeskFixed) (pass back : PassView Event DeskFixed) (doors doors' : List D) (input : Input) (written : Option (List ℕ)) → back ≡ pass → doors' ≡ doors
    → ServedLines (record { session = session_at f pass.caller pass.seen [] 1 max_update; faults = sum_by faults doors; written = written }) input input (events back.seen) (sum_by faults doors') written Ends.NoMemory
lines_back {D} faults f pass back doors doors' input written same all =
    let start : Point = record { session = session_at f pass.caller pass.seen [] 1 max_update; faults = sum_by faults doors; written = written } in
    let P : PassView Event DeskFixed → Type 0 = λ p. ServedLines start input input (events p.seen) (sum_by faults doors') written Ends.NoMemory in
    let Q : List D → Type 0 = λ ds. ServedLines start input input (events pass.seen) (sum_by faults ds) written Ends.NoMemory in
    subst P (sym same) (subst Q (sym all) (lines_none (session_at f pass.caller pass.seen [] 1 max_update) (sum_by faults doors) input written))

-- ---- what a session was served

module _ {D : Type 0} (faults : D → ℕ) (store : StoreState) (pass back : PassView Event DeskFixed) (doors doors' : List D) (start stop : SessionState D) (before after : Input) (written written' : Option (List ℕ)) (end : End) where
  abbrev new : SessionState D
  new = record { store = store; caller = pass.caller; log = pass.seen; held = []; next = 1; doors = doors; limit = max_update; looks_first = false; turns = pass.turns; opened = [] }

  abbrev ServedFrom : SessionState D → List ℕ → Type 0
  ServedFrom s fed = Served said (record { session = session_of s; faults = sum_by faults s.doors; written = written }) (λ more. heard (fed ++ more)) before after input_limit (record { session = session_of stop; faults = sum_by faults stop.doors; written = written' }) end

  pub lines_of : (fed : List ℕ) → fed ≡ [] → start ≡ new → back ≡ pass_of stop → doors' ≡ stop.doors → ServedFrom start fed
      → ServedLines (record { session = session_at store.fixed pass.caller pass.seen [] 1 max_update; faults = sum_by faults doors; written = written }) before after (events back.seen) (sum_by faults doors') written' end
  lines_of fed none made gave same served =
      let first : ServedFrom new [] = subst (λ (l : List ℕ). ServedFrom new l) none (subst (λ (s : SessionState D). ServedFrom s fed) made served) in
      let F : List D → Type 0 = λ ds. Served said (record { session = session_of new; faults = sum_by faults doors; written = written }) heard before after input_limit (record { session = session_of stop; faults = sum_by faults ds; written = written' }) end in
      record {
        last = session_of stop;
        sees = ap (λ (p : PassView Event DeskFixed). events p.seen) (sym gave);
        served = subst F (sym same) first;
      }

-- ---- the first session of a new store, alone in it

pub first_there : (f : DeskFixed) (caller : ℕ) (seen : Log Event) → caller ≡ 1 → seen ≡ [] → session_at f caller seen [] 1 max_update ≡ first_session (record { limits = f.limits; page = f.page_size }) 1
first_there f caller seen one none = rw (one, none) refl

-- what its pass has seen is its own, by the history of the closed store
pub own_there : (made : ℕ) (history : List Event) (whole seen : Log Event) → made ≡ 1 → LacksUngiven made (tagged history) → tagged history ≡ whole → Begins seen whole → seen ≡ tagged (events seen) → AllOwn 1 (events seen)
own_there made history whole seen one lacks is begins tags =
    let given : LacksUngiven 1 (tagged history) = subst (λ (n : ℕ). LacksUngiven n (tagged history)) one lacks in
    let there : LacksUngiven 1 (seen ++ begins.0) = subst (LacksUngiven 1) (is ∙ begins.1) given in
    own_of seen begins.0 there tags

-- what a new store keeps to is what its settings say
pub fixed_there : (f : DeskFixed) (settings : SettingsValues) → f.limits ≡ settings.limits → f.page_size ≡ settings.page → record { limits = f.limits; page = f.page_size } ≡ fixed_of settings
fixed_there f settings limits page = rw (limits, page) refl

-- a new store of what was asked for, where that is what the settings say
pub new_store_of : {E : Type 0} (settings : SettingsValues) (bounds : Bounds) (page providers replicas : ℕ) (made : Result (StoreState × OwnerView Event DeskFixed) E)
    → page ≡ settings.page → providers ≡ settings.providers → replicas ≡ settings.replicas
    → IfOk made (λ r. IsOwnerOf r.0 r.1) → IfOk made (λ r. r.1 ≡ record { lock = r.0.lock; made = 0; out = 0; seen = []; fixed = Some r.0.fixed; kept = [] })
    → IfOk made (λ r. r.0.fixed.limits ≡ bounds) → IfOk made (λ r. r.0.fixed.page_size ≡ page) → IfOk made (λ r. r.0.providers ≡ providers) → IfOk made (λ r. r.0.replicas ≡ replicas)
    → IfOk made (λ r. IsNewStore settings bounds r.0 r.1)
new_store_of settings bounds page providers replicas (Ok r) page_is providers_are replicas_are owned fresh limits size many copies = record {
  owned = owned;
  no_pass = ap (λ (o : OwnerView Event DeskFixed). o.made) fresh;
  none_out = ap (λ (o : OwnerView Event DeskFixed). o.out) fresh;
  none_seen = ap (λ (o : OwnerView Event DeskFixed). o.seen) fresh;
  limits = limits;
  page_size = size ∙ page_is;
  providers = many ∙ providers_are;
  replicas = copies ∙ replicas_are;
}
new_store_of settings bounds page providers replicas (Err e) page_is providers_are replicas_are owned fresh limits size many copies = tt
