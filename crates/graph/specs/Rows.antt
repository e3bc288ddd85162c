-- Edges that lie in words as rows of four. The contract of `Rows` cites it, and it assumes nothing.
--
--   row_edge, row_edges    the edge of a row, and those of all whole rows
--   ends                   the same, of the words of one row
use Rattle.std.specs.Prelude.{ℕ, ◌+◌, ◌*◌, ◌/◌, List, map, length, slice_index}
use Rattle.std.specs.List.{range_with_len}

-- the edge of row k
abbrev pub row_edge : List ℕ → ℕ → ℕ × ℕ
row_edge words k = (slice_index words (4 * k), slice_index words (4 * k + 1))

-- the edges of all whole rows
unfoldable pub row_edges : List ℕ → List (ℕ × ℕ)
row_edges words = map (row_edge words) (range_with_len 0 (length words / 4))

-- the edge of one row, by its words
abbrev pub ends : List ℕ → ℕ × ℕ
ends row = (slice_index row 0, slice_index row 1)
