-- The components of a graph, by the relation itself. The contract of `components` cites it, and it assumes nothing.
-- Nodes are numbers from 0 on, and edges a list of pairs of nodes.
--
--   source, target     the nodes that an edge leaves and enters
--   Edge, Leads        an edge leads from one node to another; edges lead there, one after another
--   Inside             all edges join nodes below a number
--   Components         two nodes have one label exactly if edges lead from each to the other
use Rattle.std.specs.Prelude.{◌≡◌, ℕ, ◌<◌, ◌≤◌, List, length, slice_index, slice_index_or}

-- the node that edge k leaves
abbrev pub source : List (ℕ × ℕ) → ℕ → ℕ
source edges k = (slice_index_or edges k (0, 0)).0

-- the node that edge k enters
abbrev pub target : List (ℕ × ℕ) → ℕ → ℕ
target edges k = (slice_index_or edges k (0, 0)).1

-- an edge leads from a to b
pub record Edge (edges : List (ℕ × ℕ)) (a b : ℕ) : Type 0 where
  pub at : ℕ
  pub within : at < length edges
  pub leaves : source edges at ≡ a
  pub enters : target edges at ≡ b

-- edges lead from a to b, one after another; no edge leads from each node to itself
pub data Leads (edges : List (ℕ × ℕ)) (a : ℕ) : ℕ → Type 0 where
  here : Leads edges a a
  onward : {b c : ℕ} → Leads edges a b → Edge edges b c → Leads edges a c

-- all edges join nodes below n
pub record Inside (edges : List (ℕ × ℕ)) (n : ℕ) : Type 0 where
  pub sources : (k : ℕ) → k < length edges → source edges k < n
  pub targets : (k : ℕ) → k < length edges → target edges k < n

-- the labels of the nodes tell the components, which are `count` many; no edge leads to a higher label
pub record Components (edges : List (ℕ × ℕ)) (labels : List ℕ) (count : ℕ) : Type 0 where
  pub inside : Inside edges (length labels)
  pub both : (a b : ℕ) → a < length labels → b < length labels → slice_index labels a ≡ slice_index labels b → Leads edges a b × Leads edges b a
  pub alike : (a b : ℕ) → a < length labels → b < length labels → Leads edges a b → Leads edges b a → slice_index labels a ≡ slice_index labels b
  pub below : (a : ℕ) → a < length labels → slice_index labels a < count
  pub used : (c : ℕ) → c < count → (a : ℕ) × (a < length labels) × (slice_index labels a ≡ c)
  pub ordered : (k : ℕ) → k < length edges → slice_index labels (target edges k) ≤ slice_index labels (source edges k)
