-- How many turns a session takes for an answer.
use Rattle.std.specs.Prelude.{◌≡◌, ℕ, ◌+◌, ◌≤◌}
use Rattle.request_form.specs.declared.form.Request.{Request}
use Rattle.request_form.specs.Answers.{Class, class_of}

-- a count of turns rose by none to so many
pub record UpTo (n before after : ℕ) : Type 0 where
  pub least : before ≤ after
  pub most : after ≤ before + n

-- A look and a call that adds a blob are one turn each, and a read is one at most. An update may look first whether the store takes it, is numbered, may
-- look at the version before it, and is reported; a start ends with the numbering, and a finish and a repair do the rest.
abbrev pub ClassTurns : Class → ℕ → ℕ → Type 0
ClassTurns Class.greets before after = after ≡ before
ClassTurns Class.quits before after = after ≡ before
ClassTurns (Class.looks call) before after = after ≡ before + 1
ClassTurns (Class.adds call) before after = after ≡ before + 1
ClassTurns (Class.reads blob version offset count) before after = UpTo 1 before after
ClassTurns (Class.reads_many blob version ranges) before after = UpTo 1 before after
ClassTurns (Class.starts blob place bytes) before after = UpTo 2 before after
ClassTurns (Class.updates blob place bytes) before after = UpTo 4 before after
ClassTurns (Class.reports number) before after = UpTo 2 before after
ClassTurns (Class.repairs blob version) before after = UpTo 2 before after

-- the turns of an answer to that request
abbrev pub TakesTurns : Request → ℕ → ℕ → Type 0
TakesTurns request before after = ClassTurns (class_of request) before after
