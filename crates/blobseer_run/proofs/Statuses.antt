-- What follows of a run for its status.
use Rattle.std.proofs.Common.{◌≡◌, ◌≢◌, ℕ, List, true, refl, sym, ◌∙◌, subst}
use Rattle.std.proofs.lemmas.Option.{none-some}
use Rattle.std.specs.Prelude.{Option, Some, None}
use Rattle.faults.specs.Counts.{RoseBy}
use Rattle.ports.specs.Files.{Files}
use Rattle.request_form.specs.Session.{Fixed}
use Rattle.settings.specs.declared.table.Command.{Command}
use Rattle.settings.specs.declared.table.Command.TheVariants as Commands
use Rattle.settings.specs.Values.{SettingsValues}
use Rattle.settings.specs.Words.{Bytes}
use Rattle.blobseer_run.specs.Status.{done, words_refused, settings_refused, read_fault, write_fault, out_of_memory, listener_fault, input_too_long, load_ended_early}
use Rattle.blobseer_run.specs.Told.{Order, order_of_words, AsksFor, Settled, SettingsRefused, Stopped}
use Rattle.blobseer_run.specs.Outside.{Outside}
use Rattle.blobseer_run.specs.Lending.{LendsBy}
use Rattle.blobseer_run.specs.Conversation.{Dialogue, Ended}
use Rattle.blobseer_run.specs.Script.{fixed_of, script}
use Rattle.blobseer_run.specs.Node.{frames}
use Rattle.blobseer_run.specs.Filing.{lines}
use Rattle.blobseer_run.specs.Hosting.{Hosted, served_line}
use Rattle.blobseer_run.specs.Writing.{WritesLine}
use Rattle.blob_model.specs.declared.call.Event.{Event}
use Rattle.blobseer_run.specs.Measuring.{Measured}
use Rattle.blobseer_run.specs.Loading as loading
use Rattle.blobseer_run.specs.Watching as watching
use Rattle.blobseer_run.specs.Run.{Did, answers_input, measures, Ran, RefusesWords, RefusesSettings, IsTaken, IsComplete}
use Rattle.blobseer_run.proofs.Settling.{settled_not_refused}

-- a status of the command's own work
abbrev IsOwn : ℕ → Type 0
IsOwn status = (status ≢ words_refused) × (status ≢ settings_refused)

own : (status n : ℕ) → status ≡ n → IsOwn n → IsOwn status
own status n e is = (λ f. is.0 (sym e ∙ f), λ f. is.1 (sym e ∙ f))

module _ (old new : Outside) (status : ℕ) where
  ended_own : {Item : Type 0} (d : Dialogue Item) (taken text rest : List ℕ) → Ended d taken text rest old new status → IsOwn status
  ended_own d taken text rest (Ended.finished e less rose none_left uncut r x) = own status done e (λ f. cc, λ f. cc)
  ended_own d taken text rest (Ended.cut e less rose none_left cut quit r x) = own status done e (λ f. cc, λ f. cc)
  ended_own d taken text rest (Ended.quit e due is quits r x) = own status done e (λ f. cc, λ f. cc)
  ended_own d taken text rest (Ended.unread e less rose quit r x) = own status read_fault e (λ f. cc, λ f. cc)
  ended_own d taken text rest (Ended.unwritten e rose due is some x) = own status write_fault e (λ f. cc, λ f. cc)
  ended_own d taken text rest (Ended.starved e due is x) = own status out_of_memory e (λ f. cc, λ f. cc)
  ended_own d taken text rest (Ended.too_long e at quit r x) = own status input_too_long e (λ f. cc, λ f. cc)

  line_own : (line text : List ℕ) → WritesLine line text old.writes new.writes status → IsOwn status
  line_own line text (WritesLine.whole e is) = own status done e (λ f. cc, λ f. cc)
  line_own line text (WritesLine.part e rest is some rose) = own status write_fault e (λ f. cc, λ f. cc)
  line_own line text (WritesLine.nothing e is) = own status out_of_memory e (λ f. cc, λ f. cc)

  hosted_own : (address : List ℕ) (connections : ℕ) (Served : ℕ → Type 0) (text : List ℕ) → Hosted address connections Served old.net new.net text old.writes new.writes status → IsOwn status
  hosted_own address connections Served text (Hosted.served peers listens took each line) = line_own (served_line peers) text line
  hosted_own address connections Served text (Hosted.deaf e listens none is) = own status listener_fault e (λ f. cc, λ f. cc)
  hosted_own address connections Served text (Hosted.unserved e listens failed each is) = own status listener_fault e (λ f. cc, λ f. cc)
  hosted_own address connections Served text (Hosted.starved e listens none is) = own status out_of_memory e (λ f. cc, λ f. cc)

  measured_own : {Came : List Event → Type 0} (lines text : List ℕ) → Measured Came lines text old.doors new.doors old.writes new.writes status → IsOwn status
  measured_own lines text (Measured.whole line history came) = line_own lines text line
  measured_own lines text (Measured.early e rose is) = own status load_ended_early e (λ f. cc, λ f. cc)
  measured_own lines text (Measured.starved e is) = own status out_of_memory e (λ f. cc, λ f. cc)

  did_own : (command : Command) (settings : SettingsValues) (calm : Type 0) (Serves : Fixed → ℕ → Type 0) → Did command settings calm Serves old new status → IsOwn status
  did_own Commands.Run settings calm Serves d = ended_own (script (fixed_of settings) calm old.doors new.doors) d.served.taken d.served.text d.served.rest d.served.ended
  did_own Commands.Serve settings calm Serves d = hosted_own settings.listen settings.connections (Serves (fixed_of settings)) d.text d.ended
  did_own Commands.Load settings calm Serves d = measured_own (loading.load_lines (loading.plan_of settings)) d.text d.ended
  did_own Commands.Node settings calm Serves d = ended_own (frames settings.page) d.served.taken d.served.text d.served.rest d.served.ended
  did_own Commands.Files settings calm Serves d =
      ended_own (lines (fixed_of settings) settings.providers calm old.doors new.doors) d.served.taken d.served.text d.served.rest d.served.ended
  did_own Commands.Watch settings calm Serves d = measured_own (watching.watch_lines (watching.plan_of settings)) d.text d.ended

  module _ (words : List Bytes) (writes : ¬ RoseBy 1 old.writes new.writes) where
    -- it came to its end, as far as the command's own work goes
    abbrev Complete : Type 0
    Complete = IsComplete words old.doors new.doors status

    ended_complete : {Item : Type 0} (d : Dialogue Item) (taken text rest : List ℕ) (command : Command) → AsksFor words command → answers_input command ≡ true → ¬ RoseBy 1 old.reads new.reads
        → Ended d taken text rest old new status → Complete
    ended_complete d taken text rest command asks answers reads (Ended.finished e less rose none_left uncut r x) = IsComplete.ended e
    ended_complete d taken text rest command asks answers reads (Ended.cut e less rose none_left cut quit r x) = IsComplete.ended e
    ended_complete d taken text rest command asks answers reads (Ended.quit e due is quits r x) = IsComplete.ended e
    ended_complete d taken text rest command asks answers reads (Ended.unread e less rose quit r x) = absurd (reads rose)
    ended_complete d taken text rest command asks answers reads (Ended.unwritten e rose due is some x) = absurd (writes rose)
    ended_complete d taken text rest command asks answers reads (Ended.starved e due is x) = IsComplete.starved e
    ended_complete d taken text rest command asks answers reads (Ended.too_long e at quit r x) = IsComplete.too_long e command asks answers

    line_complete : (line text : List ℕ) → WritesLine line text old.writes new.writes status → Complete
    line_complete line text (WritesLine.whole e is) = IsComplete.ended e
    line_complete line text (WritesLine.part e rest is some rose) = absurd (writes rose)
    line_complete line text (WritesLine.nothing e is) = IsComplete.starved e

    hosted_complete : (address : List ℕ) (connections : ℕ) (Served : ℕ → Type 0) (text : List ℕ) → ¬ RoseBy 1 old.net.handing.faults new.net.handing.faults → Hosted address connections Served old.net new.net text old.writes new.writes status → Complete
    hosted_complete address connections Served text peers (Hosted.served n listens took each line) = line_complete (served_line n) text line
    hosted_complete address connections Served text peers (Hosted.deaf e listens none is) = absurd (peers none.rose)
    hosted_complete address connections Served text peers (Hosted.unserved e listens failed each is) = absurd (peers failed.failed)
    hosted_complete address connections Served text peers (Hosted.starved e listens none is) = IsComplete.starved e

    measured_complete : {Came : List Event → Type 0} (lines text : List ℕ) (command : Command) → AsksFor words command → measures command ≡ true → Measured Came lines text old.doors new.doors old.writes new.writes status → Complete
    measured_complete lines text command asks is (Measured.whole line history came) = line_complete lines text line
    measured_complete lines text command asks is (Measured.early e rose none) = IsComplete.early e command asks is rose
    measured_complete lines text command asks is (Measured.starved e none) = IsComplete.starved e

    did_complete : (command : Command) (settings : SettingsValues) (calm : Type 0) (Serves : Fixed → ℕ → Type 0) → AsksFor words command → ¬ RoseBy 1 old.reads new.reads → ¬ RoseBy 1 old.net.handing.faults new.net.handing.faults
        → Did command settings calm Serves old new status → Complete
    did_complete Commands.Run settings calm Serves asks reads peers d =
        ended_complete (script (fixed_of settings) calm old.doors new.doors) d.served.taken d.served.text d.served.rest Commands.Run asks refl reads d.served.ended
    did_complete Commands.Serve settings calm Serves asks reads peers d = hosted_complete settings.listen settings.connections (Serves (fixed_of settings)) d.text peers d.ended
    did_complete Commands.Load settings calm Serves asks reads peers d = measured_complete (loading.load_lines (loading.plan_of settings)) d.text Commands.Load asks refl d.ended
    did_complete Commands.Node settings calm Serves asks reads peers d = ended_complete (frames settings.page) d.served.taken d.served.text d.served.rest Commands.Node asks refl reads d.served.ended
    did_complete Commands.Files settings calm Serves asks reads peers d =
        ended_complete (lines (fixed_of settings) settings.providers calm old.doors new.doors) d.served.taken d.served.text d.served.rest Commands.Files asks refl reads d.served.ended
    did_complete Commands.Watch settings calm Serves asks reads peers d = measured_complete (watching.watch_lines (watching.plan_of settings)) d.text Commands.Watch asks refl d.ended

some_none : (o : Option Order) (order : Order) → o ≡ Some order → o ≡ None → ⊥
some_none o order e f = none-some order (sym f ∙ e)

refused_asked : (words : List Bytes) (known : Files) → SettingsRefused words known → order_of_words words ≡ None → ⊥
refused_asked words known (SettingsRefused.file_refused order asks x) none = some_none (order_of_words words) order asks none
refused_asked words known (SettingsRefused.too_many_replicas order file asks g x) none = some_none (order_of_words words) order asks none

two : (status m n : ℕ) → status ≡ m → status ≡ n → m ≢ n → ⊥
two status m n e f differ = differ (sym e ∙ f)

module _ (words : List Bytes) (known : Files) (calm : Type 0) (Serves : Fixed → ℕ → Type 0) (Back : ℕ → Type 0) (files files' : ℕ) (old new : Outside) (status : ℕ) where
  stopped_words : Stopped words known files files' status → RefusesWords words status
  stopped_words (Stopped.unasked e none same) memory = (λ f. none, λ f. e)
  stopped_words (Stopped.unread e names rose) memory = (λ f. absurd (two status read_fault words_refused e f (λ d. cc)), λ f. absurd (some_none (order_of_words words) names.0 names.2 f))
  stopped_words (Stopped.unsettled e refused) memory = (λ f. absurd (two status settings_refused words_refused e f (λ d. cc)), λ f. absurd (refused_asked words known refused f))
  stopped_words (Stopped.starved e) memory = absurd (memory e)

  pub refuses_words : Ran words known calm Serves Back files files' old new status → RefusesWords words status
  refuses_words (Ran.stopped s idle none) = stopped_words s
  refuses_words (Ran.did command settings settled did lends) = λ memory. (
    λ f. absurd ((did_own old new status command settings calm Serves did).0 f),
    λ f. absurd (some_none (order_of_words words) (command, settled.given) settled.asks f),
  )

  stopped_settings : Stopped words known files files' status → RefusesSettings words known files files' status
  stopped_settings (Stopped.unasked e none same) told still memory = (λ f. absurd (two status words_refused settings_refused e f (λ d. cc)), λ refused. absurd (refused_asked words known refused none))
  stopped_settings (Stopped.unread e names rose) told still memory = absurd (still rose)
  stopped_settings (Stopped.unsettled e refused) told still memory = (λ f. refused, λ x. e)
  stopped_settings (Stopped.starved e) told still memory = absurd (memory e)

  pub refuses_settings : Ran words known calm Serves Back files files' old new status → RefusesSettings words known files files' status
  refuses_settings (Ran.stopped s idle none) = stopped_settings s
  refuses_settings (Ran.did command settings settled did lends) = λ told still memory. (
    λ f. absurd ((did_own old new status command settings calm Serves did).1 f),
    λ refused. absurd (settled_not_refused words known told command settings settled refused),
  )

  stopped_complete : Stopped words known files files' status → IsTaken words known → ¬ RoseBy 1 files files' → IsComplete words old.doors new.doors status
  stopped_complete (Stopped.unasked e none same) taken still = absurd (taken.0 none)
  stopped_complete (Stopped.unread e names rose) taken still = absurd (still rose)
  stopped_complete (Stopped.unsettled e refused) taken still = absurd (taken.1 refused)
  stopped_complete (Stopped.starved e) taken still = IsComplete.starved e

  pub complete : Ran words known calm Serves Back files files' old new status → IsTaken words known → ¬ RoseBy 1 old.reads new.reads → ¬ RoseBy 1 old.writes new.writes
      → ¬ RoseBy 1 old.net.handing.faults new.net.handing.faults → ¬ RoseBy 1 files files' → IsComplete words old.doors new.doors status
  complete (Ran.stopped s idle none) taken reads writes peers still = stopped_complete s taken still
  complete (Ran.did command settings settled did lends) taken reads writes peers still =
      did_complete old new status words writes command settings calm Serves (settled.given, settled.asks) reads peers did

-- ---- how a run went, at the status that its line gave

module _ (words : List Bytes) (known : Files) (calm : Type 0) (Serves : Fixed → ℕ → Type 0) (Back : ℕ → Type 0) (files files' : ℕ) (n status : ℕ) (is : n ≡ status) where
  pub ran_stopped : (outside : Outside) → Stopped words known files files' status → Back 0 → Ran words known calm Serves Back files files' outside outside n
  ran_stopped outside stopped none = let P : ℕ → Type 0 = λ m. Ran words known calm Serves Back files files' outside outside m in subst P (sym is) (Ran.stopped stopped refl none)

  pub ran_did : (old new : Outside) (command : Command) (settings : SettingsValues) → Settled words known command settings → Did command settings calm Serves old new status
      → LendsBy command settings Back status → Ran words known calm Serves Back files files' old new n
  ran_did old new command settings settled did lends = let P : ℕ → Type 0 = λ m. Ran words known calm Serves Back files files' old new m in subst P (sym is) (Ran.did command settings settled did lends)
