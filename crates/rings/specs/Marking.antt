-- What the steps of `subtract_cycles` leave in the work memory. Their contracts cite it.
--
--   Latest, Members        the nodes of each label in a chain of links, the last one first
--   FedOutside, Outside    an edge enters a node from another label; the nodes for which that is so are marked
--   entered_at             a node is an entry
--   Quiet                  two nodes have a label, and none that has it is an entry or marked
--   Verdict, Ruled         what a mark says of a label; of each label
use Rattle.std.specs.Prelude.{◌≡◌, ℕ, ◌+◌, ◌<◌, ◌≤◌, Bool, false, not, ◌&&◌, ◌⊎◌, List, length, MatchBool, ◌==◌, ◌≢◌, slice_index, slice_index_or}
use Rattle.rules.specs.Tables.{names_width}
use Rattle.tables.specs.Living.{there}
use Rattle.tables.specs.Counts.{row_word, entry_word}
use Rattle.graph.specs.Graphs.{source, target}

-- `link` is one more than the last node below `bound` that has the label, or 0 where there is none
pub record Latest (labels : List ℕ) (label bound link : ℕ) : Type 0 where
  pub before : link ≤ bound
  pub labelled : (v : ℕ) → link ≡ v + 1 → slice_index labels v ≡ label
  pub none : (v : ℕ) → link ≤ v → v < bound → slice_index labels v ≢ label

-- of the nodes below `bound`, each label has the link of its last one, and each node that of the one before it with its label
pub record Members (labels : List ℕ) (bound : ℕ) (firsts nexts : List ℕ) : Type 0 where
  pub first : (l : ℕ) → l < length firsts → Latest labels l bound (slice_index firsts l)
  pub next : (v : ℕ) → v < bound → Latest labels (slice_index labels v) v (slice_index nexts v)

-- an edge enters a node from another label
pub record FedOutside (edges : List (ℕ × ℕ)) (labels : List ℕ) (v : ℕ) : Type 0 where
  pub at : ℕ
  pub within : at < length edges
  pub enters : target edges at ≡ v
  pub apart : slice_index_or labels (source edges at) 0 ≡ slice_index labels v → ⊥

-- of the edges below `bound`, those from another label have marked the nodes that they enter, and no other node is marked
pub record Outside (edges : List (ℕ × ℕ)) (labels : List ℕ) (bound : ℕ) (marks : List ℕ) : Type 0 where
  pub marked : (k : ℕ) → k < bound → (slice_index labels (source edges k) ≢ slice_index labels (target edges k)) → slice_index marks (target edges k) ≡ 1
  pub others : (v : ℕ) → v < length labels → (slice_index marks v ≡ 0) ⊎ FedOutside edges labels v

-- a node is an entry
abbrev pub entered_at : (names : List ℕ) → ℕ → Bool
entered_at names v = there names_width names (v + 1) && not (row_word names_width (v + 1) entry_word names == 0)

-- two nodes have a label, and none that has it is an entry or marked
pub record Quiet (entered : ℕ → Bool) (labels marks : List ℕ) (label : ℕ) : Type 0 where
  pub one : ℕ
  pub other : ℕ
  pub apart : one ≡ other → ⊥
  pub one_within : one < length labels
  pub other_within : other < length labels
  pub one_labelled : slice_index_or labels one 0 ≡ label
  pub other_labelled : slice_index_or labels other 0 ≡ label
  pub calm : (v : ℕ) → v < length labels → slice_index labels v ≡ label → (entered v ≡ false) × (slice_index marks v ≡ 0)

-- a label's mark is 1 exactly if it is quiet, and else 0
abbrev pub Verdict : (entered : ℕ → Bool) → (labels marks : List ℕ) → (label mark : ℕ) → Type 0
Verdict entered labels marks label mark = MatchBool (mark == 1) (Quiet entered labels marks label) ((mark ≡ 0) × (Quiet entered labels marks label → ⊥))

-- of each label below n
abbrev pub Ruled : (entered : ℕ → Bool) → (labels marks closed : List ℕ) → (n : ℕ) → Type 0
Ruled entered labels marks closed n = (l : ℕ) → l < n → Verdict entered labels marks l (slice_index closed l)
