-- How long the updates of a session may be.
use Rattle.std.specs.Prelude.{ℕ}
use Rattle.request_form.specs.Answers.{max_update, max_update_greater}
use Rattle.client_session.specs.declared.limit.UpdateLimit.{UpdateLimit}
use Rattle.client_session.specs.declared.limit.UpdateLimit.TheVariants as UpdateLimits

-- how many bytes the longest update has
abbrev pub longest : UpdateLimit → ℕ
longest UpdateLimits.AtFirst = max_update
longest UpdateLimits.AfterHello = max_update_greater
