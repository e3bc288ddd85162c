-- The rows of edges as edges between nodes, which are the rows of names from 0. What counts and walks them cites it.
--
--   node_edge, node_edges  the edge of a row, with its weights; those of all rows
--   ends, joins            an edge without its weights; all of them
--   edges_left, GivesEdge  the edges that a walk has yet to come to; a step of it
use Rattle.std.specs.Prelude.{◌≡◌, ℕ, ◌-◌, List, [], ◌∷◌, map, Option, MatchOption, slice_index}
use Rattle.rules.specs.Tables.{edges_width}
use Rattle.tables.specs.Living.{rows}
use Rattle.tables.specs.Walking.{rows_left}
use Rattle.tables.specs.Counts.{usage_word, assign_word}
use Rattle.rings.specs.declared.edge_rows.NodeEdge.{NodeEdge}
use Rattle.rings.specs.declared.edge_rows.NodeEdges.{NodeEdges}

-- the edge of a row, by its words
abbrev pub node_edge : List ℕ → NodeEdge
node_edge row = record {
  source = slice_index row 0 - 1;
  target = slice_index row 1 - 1;
  weight = record { usage = slice_index row usage_word; assign = slice_index row assign_word };
}

-- those of all rows
abbrev pub node_edges : List ℕ → List NodeEdge
node_edges words = map node_edge (rows edges_width words)

-- an edge without its weights
abbrev pub ends : NodeEdge → ℕ × ℕ
ends e = (e.source, e.target)

-- the rows of edges as edges between nodes
abbrev pub joins : List ℕ → List (ℕ × ℕ)
joins words = map ends (node_edges words)

-- the edges that are left
abbrev pub edges_left : NodeEdges → List NodeEdge
edges_left s = map node_edge (rows_left edges_width s.rows)

-- the first edge that is left of s, if there is one, and t has the rest
abbrev pub GivesEdge : NodeEdges → Option NodeEdge → NodeEdges → Type 0
GivesEdge s r t = MatchOption r (edges_left s ≡ []) (λ e. edges_left s ≡ e ∷ edges_left t)
