-- The bound on passes that the definition of a repeat has ends no repeat.
--
--   BoundNeverEnds       no repeat is told refusal 0
use Rattle.std.specs.Prelude.{ℕ, List, ◌≢◌}
use Rattle.rules.specs.Removal.{Config}
use Rattle.rules.specs.Calls.{Handed, After, Call, Answer, calls}
use Rattle.rules.specs.Calls.Answer.{repeat_answer}
use Rattle.rules.specs.Calls.Repeated.{stopped}
use Rattle.laws.specs.Law.{In, begun_on}

-- 0, the number told where the bound on passes is met, is never told
abbrev pub BoundNeverEnds : Type 0
BoundNeverEnds = (k : Config) (cs : List Call) (words : Handed) (a : After Answer) → In a (calls k cs (begun_on words))
    → (at passes : ℕ) → a.answer ≢ repeat_answer (stopped 0 at passes)
