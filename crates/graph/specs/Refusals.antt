-- When a graph is refused. The contract of `components` cites it, and it assumes nothing.
--
--   Stray              the first edge that names a node past the last one
--   Small              its nodes and edges are not too many
--   Refused            each fault, and what it says of the graph
use Rattle.std.specs.Prelude.{ℕ, ◌+◌, ◌*◌, ◌^◌, ◌<◌, ◌≤◌, ◌⊎◌, List, length}
use Rattle.graph.specs.Graphs.{source, target}
use Rattle.graph.specs.declared.fault.GraphFault.{GraphFault}
use Rattle.graph.specs.declared.fault.GraphFault.TheVariants.{TooLarge, NoRoom, NoSuchNode}

-- edge k is the first that names a node past the last one
pub record Stray (edges : List (ℕ × ℕ)) (n k : ℕ) : Type 0 where
  pub within : k < length edges
  pub past : (n ≤ source edges k) ⊎ (n ≤ target edges k)
  pub sources : (j : ℕ) → j < k → source edges j < n
  pub targets : (j : ℕ) → j < k → target edges j < n

-- the numbers of nodes and of edges fit
abbrev pub Small : List (ℕ × ℕ) → (n : ℕ) → Type 0
Small edges n = (n < 2 ^ 31) × (length edges < 2 ^ 32)

-- what each fault says of the edges, the number of nodes and the words of work memory: of several that are so the first is told
abbrev pub Refused : List (ℕ × ℕ) → (n words : ℕ) → GraphFault → Type 0
Refused edges n words TooLarge = (2 ^ 31 ≤ n) ⊎ (2 ^ 32 ≤ length edges)
Refused edges n words NoRoom = Small edges n × (words < 4 * n + length edges)
Refused edges n words (NoSuchNode k) = Small edges n × (4 * n + length edges ≤ words) × Stray edges n k
