use Rattle.std.proofs.Common.{map, refl, ◌∙◌, ap, subst}
use Rattle.std.proofs.lemmas.Result.{err_from_is_err_and}
use Rattle.std.specs.String.{string_bytes}
use Rattle.std.specs.Prelude.{Option}
use Rattle.settings.specs.Values.{GivenValues}
use Rattle.settings.specs.Words.{Bytes}
use Rattle.blobseer_run.specs.Told.{FileGives, SettingsRefused, Stopped}
use Rattle.blobseer_run.specs.Telling.{FileStops}
use Rattle.blobseer_run.proofs.Settling.{file_stopped, unnamed}
use Rattle.blobseer_run.proofs.told.told.Goals as goal

pub returns-in_err-file-clause-stopped : goal.returns-in_err-file-clause-stopped
returns-in_err-file-clause-stopped g c =
    let named = ap (λ (given : GivenValues). given.settings) c.given.view_is in
    let known = g.F.Files.known c.args.files.now in
    let files = g.F.Files.faults c.args.files.now in
    let later = g.F.Files.faults c.file_given.new.files in
    let stops = subst (λ (name : Option Bytes). FileStops known name files later c.in_err-file.field-0.0) named c.in_err-file.ensures.stopped in
    let stopped = file_stopped (map string_bytes c.args.words.now) known files later c.in_err-file.field-0.0 c.in_ok-command.command c.in_ok-command.given c.in_ok-command.ensures.asks stops in
    let p = err_from_is_err_and c.from_residual-in_err-file.result c.from_residual-in_err-file.ensures.1 in
    rw (p.1, p.2) stopped

pub returns-in-Ok-clause-settled : goal.returns-in-Ok-clause-settled
returns-in-Ok-clause-settled g c =
    let named = ap (λ (given : GivenValues). given.settings) c.given.view_is in
    let known = g.F.Files.known c.args.files.now in
    record {
      given = c.in_ok-command.given;
      file = c.in_ok-file.file;
      asks = c.in_ok-command.ensures.asks;
      gives = subst (λ (name : Option Bytes). FileGives known name c.in_ok-file.file) named c.in_ok-file.ensures.gives;
      merges = c.in-Ok.ensures.settings;
      replicas_fit = c.in-Ok.ensures.settled.replicas_fit;
    }

pub returns-in-Err-clause-stopped : goal.returns-in-Err-clause-stopped
returns-in-Err-clause-stopped g c =
    let named = ap (λ (given : GivenValues). given.settings) c.given.view_is in
    let known = g.F.Files.known c.args.files.now in
    let gives = subst (λ (name : Option Bytes). FileGives known name c.in_ok-file.file) named c.in_ok-file.ensures.gives in
    let refused = c.in-Err.ensures.refused in
    Stopped.unsettled refl (SettingsRefused.too_many_replicas (c.in_ok-command.command, c.in_ok-command.given) c.in_ok-file.file c.in_ok-command.ensures.asks gives (refused.0 refl))

pub returns-in_err-file-clause-untouched : goal.returns-in_err-file-clause-untouched
returns-in_err-file-clause-untouched g c none =
    let named = ap (λ (given : GivenValues). given.settings) c.given.view_is in
    c.in_err-file.ensures.untouched (named ∙ unnamed (map string_bytes c.args.words.now) c.in_ok-command.command c.in_ok-command.given c.in_ok-command.ensures.asks none)

pub returns-in-Err-clause-untouched : goal.returns-in-Err-clause-untouched
returns-in-Err-clause-untouched g c none =
    let named = ap (λ (given : GivenValues). given.settings) c.given.view_is in
    c.in_ok-file.ensures.untouched (named ∙ unnamed (map string_bytes c.args.words.now) c.in_ok-command.command c.in_ok-command.given c.in_ok-command.ensures.asks none)
