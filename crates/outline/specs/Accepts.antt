-- Whether the check accepts words. A checked tree says so of its own.
use Rattle.std.specs.Prelude.{ℕ, Bool, true, false, List}
use Rattle.rules.specs.Check.{check}
use Rattle.rules.specs.Refusals.{Outcome}
use Rattle.rules.specs.Refusals.Outcome.{fine, refused}

-- a result, and no refusal
abbrev pub is_fine : {A : Type 0} → Outcome A → Bool
is_fine (fine a) = true
is_fine (refused number at) = false

-- the check accepts the words
abbrev pub accepts : List ℕ → Bool
accepts words = is_fine (check words)
