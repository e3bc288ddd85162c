-- What an iterator over the rows of a table has yet to come to. Its contract and the invariants of its walkers cite it.
--
--   rows_left      the rows that are left, each of so many words
--   GivesRow       a step: the first of them, and the rest
use Rattle.std.specs.Prelude.{◌≡◌, ℕ, List, [], ◌∷◌, length, Option, MatchOption}
use Rattle.std.specs.Borrow.{Bor}
use Rattle.tables.specs.declared.rows.Rows.{Rows}
use Rattle.tables.specs.Living.{rows}

-- the rows that are left
abbrev pub rows_left : {R : Type 0} → (width : ℕ) → Rows R → List (List ℕ)
rows_left width s = rows width s.left.now

-- the first row that is left of s, if there is one, and t has the rest
abbrev pub GivesRow : {R : Type 0} → (width : ℕ) → Rows R → Option (Bor (List ℕ)) → Rows R → Type 0
GivesRow width s r t =
    MatchOption r (rows_left width s ≡ []) (λ x. (rows_left width s ≡ x.now ∷ rows_left width t) × (length x.now ≡ width))
