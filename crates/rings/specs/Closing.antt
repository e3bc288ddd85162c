-- Closed rings by the labels of their nodes. The contracts of the verdict and of the subtraction cite it.
--
--   node, pairs            the node of a name is its row in names, from 0; the edges between nodes
--   Closed                 a label is that of a closed ring
--   ClosedByLabels         the book's `closed`, told by labels
use Rattle.std.specs.Prelude.{◌≡◌, ℕ, ◌-◌, ◌<◌, Bool, true, false, List, map, length, Some, slice_index, slice_index_or}
use Rattle.rules.specs.Tree.{Name}
use Rattle.rules.specs.Tables.{NameRow, EdgeRow, Counts, row_number}
use Rattle.rules.specs.Rings.{closed}
use Rattle.tables.specs.Living.{nth}
use Rattle.tables.specs.Matching.{Present, Known}
use Rattle.graph.specs.Graphs.{source, target, Components}
use Rattle.rings.specs.Ringed.{Distinct}

-- the node of a name
abbrev pub node : List NameRow → Name → ℕ
node names n = row_number n names - 1

-- the edges between nodes
abbrev pub pairs : List NameRow → List EdgeRow → List (ℕ × ℕ)
pairs names es = map (λ e. (node names e.from, node names e.to)) es

-- a label is that of a closed ring: two nodes have it, none that has it is an entry, and each edge to one that has it leaves one that has it
pub record Closed (entered : ℕ → Bool) (edges : List (ℕ × ℕ)) (labels : List ℕ) (label : ℕ) : Type 0 where
  pub one : ℕ
  pub other : ℕ
  pub apart : one ≡ other → ⊥
  pub one_within : one < length labels
  pub other_within : other < length labels
  pub one_labelled : slice_index_or labels one 0 ≡ label
  pub other_labelled : slice_index_or labels other 0 ≡ label
  pub no_entry : (v : ℕ) → v < length labels → slice_index labels v ≡ label → entered v ≡ false
  pub fed : (k : ℕ) → k < length edges → slice_index labels (target edges k) ≡ label → slice_index labels (source edges k) ≡ label

-- a name stands in a closed ring exactly if its label is that of one
abbrev pub ClosedByLabels : Type 0
ClosedByLabels = (c : Counts) (labels : List ℕ) (count : ℕ) (entered : ℕ → Bool) → Distinct c.names → Known c.names c.edges
    → length labels ≡ length c.names → Components (pairs c.names c.edges) labels count
    → ((v : ℕ) (r : NameRow) → nth v c.names ≡ Some r → entered v ≡ r.entry)
    → (n : Name) → Present c.names n
    → (closed c n ≡ true → Closed entered (pairs c.names c.edges) labels (slice_index labels (node c.names n)))
    × (Closed entered (pairs c.names c.edges) labels (slice_index labels (node c.names n)) → closed c n ≡ true)
