-- Words that hold the rows of a count. The contracts of what counts and of what discounts cite it.
--
--   Distinct, Small        no two rows have one name; the counts fit 32 bits
--   Ready                  the words of names and edges are those of such rows
use Rattle.std.specs.Prelude.{◌≡◌, ℕ, ◌^◌, ◌<◌, false, List, [], ◌∷◌}
use Rattle.rules.specs.Tables.{NameRow, Counts, some_row, row_of}
use Rattle.tables.specs.Matching.{NamesHeld, EdgesHeld, Known}

-- no two rows have one name
abbrev pub Distinct : List NameRow → Type 0
Distinct [] = Unit {0}
Distinct (r ∷ rs) = (some_row (row_of r.name) rs ≡ false) × Distinct rs

-- the counts of the rows fit 32 bits
abbrev pub Small : List NameRow → Type 0
Small [] = Unit {0}
Small (r ∷ rs) = (r.usage < 2 ^ 32) × (r.assign < 2 ^ 32) × Small rs

-- words that hold the rows of a count: each name has one row, an edge joins names that have rows, and counts fit 32 bits
pub record Ready (c : Counts) (found found' names edges : List ℕ) : Type 0 where
  pub distinct : Distinct c.names
  pub small : Small c.names
  pub known : Known c.names c.edges
  pub names_held : NamesHeld found c.names names
  pub edges_held : EdgesHeld c.names found' c.edges edges
