-- What never acts to the cautious judge.
use Rattle.std.specs.Prelude.{ℕ, Bool, [], ◌∷◌}
use Rattle.rules.specs.Kinds.{member, literal, function_expression, arrow}

-- the kinds of literals, function expressions and arrow functions
abbrev pub quiet : ℕ → Bool
quiet k = member k (literal ∷ function_expression ∷ arrow ∷ [])
