-- Names handed to a sink, one after another. The contracts of the walks over names cite it.
--
--   each      every name of a list, up to the first that is refused
use Rattle.std.specs.Prelude.{List, [], ◌∷◌}
use Rattle.rules.specs.Tree.{Head}
use Rattle.rules.specs.Refusals.{Outcome, and_then}
use Rattle.rules.specs.Refusals.Outcome.{fine}

-- every name of a list in turn, up to the first that is refused
abbrev pub each : {State : Type 0} → (Head → State → Outcome State) → List Head → State → Outcome State
each take [] s = fine s
each take (h ∷ hs) s = and_then (take h s) (λ t. each take hs t)
