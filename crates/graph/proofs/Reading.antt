-- The rows of four words that a slice of words is cut into, and the edges that they give.
use Rattle.std.proofs.Common.{◌≡◌, ℕ, zero, suc, ◌+◌, ◌*◌, ◌/◌, List, length, map, drop, ◌∷◌, refl, ap, add-zero, arith}
use Rattle.std.proofs.lemmas.List.{get_or-take, get_or-drop, drop-drop}
use Rattle.std.specs.List.{range_with_len}
use Rattle.std.specs.Simd.{first_chunks}
use Rattle.graph.specs.Rows.{row_edge, row_edges, ends}

-- the rows from row `a` on
rows_from : (words : List ℕ) (a n : ℕ) → map ends (first_chunks 4 n (drop (4 * a) words)) ≡ map (row_edge words) (range_with_len a n)
rows_from words a zero = refl
rows_from words a (suc n) =
    let next : 4 * a + 4 ≡ 4 * (a + 1) = omega arith in
    rw (get_or-take 4 (drop (4 * a) words) 0 0 (omega arith), get_or-take 4 (drop (4 * a) words) 1 0 (omega arith), get_or-drop, get_or-drop, drop-drop, add-zero, next)
    (ap (λ rest. row_edge words a ∷ rest) (rows_from words (a + 1) n))

pub rows_are : (words : List ℕ) → map ends (first_chunks 4 (length words / 4) words) ≡ row_edges words
unfolding row_edges
rows_are words = rows_from words 0 (length words / 4)
