-- The rows of edges as edges between nodes: how many there are, what each is, and what they are in a table that holds rows.
use Rattle.std.proofs.Common.{◌≡◌, ℕ, zero, suc, ◌+◌, ◌*◌, ◌/◌, ◌<◌, ◌≤◌, true, false, eqb, List, [], ◌∷◌, map, length, get_or, take, drop, Some, None, Option, sym, refl, ap, ◌∙◌, subst, ⊎_elim, zero-mul, suc-mul, arith}
use Rattle.std.proofs.lemmas.List.{length-map, get_or-map, get_or_default, drop-drop}
use Rattle.std.proofs.lemmas.Bool.{cases_Bool, cond-true, cond-false}
use Rattle.std.proofs.lemmas.Iterator.{YieldsList}
use Rattle.std.proofs.lemmas.Iterator.Consumers.{YieldsList-from_shown, YieldsList-turn, YieldsList-end}
use Rattle.std.specs.Iterator.{Yields}
use Rattle.rules.specs.Tables.{NameRow, EdgeRow, edges_width}
use Rattle.tables.specs.Living.{cut, before_zero, rows, used}
use Rattle.tables.specs.Matching.{EdgesHeld, edge_words}
use Rattle.tables.proofs.Cutting.{rows_within}
use Rattle.tables.proofs.Holding.{holds_rows}
use Rattle.graph.specs.Graphs.{source, target, Inside}
use Rattle.rings.specs.Closing.{pairs}
use Rattle.rings.specs.Joining.{node_edge, node_edges, ends, joins, edges_left, GivesEdge}
use Rattle.rings.specs.declared.edge_rows.NodeEdge.{NodeEdge}
use Rattle.rings.specs.declared.edge_rows.NodeEdges.{NodeEdges}

-- a row by its place
row_at : (n w k : ℕ) (t : List ℕ) → k < length (before_zero (cut n w t)) → get_or (before_zero (cut n w t)) k [] ≡ take w (drop (k * w) t)
unfolding cut before_zero
row_at zero w k t h = absurd (omega arith)
row_at (suc n) w k t h =
    let rest = before_zero (cut n w (drop w t)) in
    let ends_here = eqb (get_or (take w t) 0 0) 0 in
    ⊎_elim
    (λ (b : ends_here ≡ true). let e = ap length (cond-true ends_here [] (take w t ∷ rest) b) in absurd (omega arith))
    (λ (b : ends_here ≡ false).
    let e : before_zero (cut (suc n) w t) ≡ take w t ∷ rest = cond-false ends_here [] (take w t ∷ rest) b in
    let long = ap length e in
    ap (λ l. get_or l k []) e ∙ (elim k as (λ k. k < suc (length rest) → get_or (take w t ∷ rest) k [] ≡ take w (drop (k * w) t)) [
      | zero ↦ λ h. ap (λ j. take w (drop j t)) (sym (zero-mul w))
      | suc k ↦ λ h. let m = suc-mul k w in
          row_at n w k (drop w t) (omega arith) ∙ ap (take w) (drop-drop (k * w) w t ∙ ap (λ j. drop j t) (let q : w + k * w ≡ suc k * w = omega arith in q))
    ]) (omega arith))
    (cases_Bool ends_here)

pub joins_length : (words : List ℕ) → length (joins words) ≡ used edges_width words
joins_length words = length-map (node_edges words) ends ∙ length-map (rows edges_width words) node_edge

pub joins_at : (words : List ℕ) (k : ℕ) → k < length (joins words) → get_or (joins words) k (0, 0) ≡ ends (node_edge (take edges_width (drop (k * edges_width) words)))
unfolding rows
joins_at words k h =
    let n = joins_length words in
    let m = length-map (rows edges_width words) node_edge in
    get_or-map ends (node_edges words) k (node_edge []) (0, 0) (omega arith)
    ∙ ap ends (get_or-map node_edge (rows edges_width words) k [] (node_edge []) (omega arith))
    ∙ ap (λ r. ends (node_edge r)) (row_at (length words / edges_width) edges_width k words (omega arith))

pub joins_within : (words : List ℕ) (k : ℕ) → k < length (joins words) → k * edges_width + edges_width ≤ length words
joins_within words k h = let n = joins_length words in let m = rows_within edges_width words in omega arith

-- a walk gives them in their order
edges_come : (s : NodeEdges) → YieldsList GivesEdge ends s (map ends (edges_left s))
edges_come s = YieldsList-from_shown GivesEdge ends (λ s. map ends (edges_left s)) (λ s t e. ap (λ es. length (map ends es)) e) (λ s x t e. ap (map ends) e) s

-- an edge is that of row k, and joins nodes below n
pub record Met (words : List ℕ) (n k : ℕ) (e : NodeEdge) : Type 0 where
  pub within : k < length (joins words)
  pub source_is : e.source ≡ source (joins words) k
  pub target_is : e.target ≡ target (joins words) k
  pub source_in : e.source < n
  pub target_in : e.target < n

-- a `for` over the edges of a table that has come to some of them
module _ (words : List ℕ) (s t : NodeEdges) (xs : List NodeEdge) (start : edges_left s ≡ node_edges words) (y : Yields GivesEdge s xs t) where
  all_come : YieldsList GivesEdge ends s (joins words)
  all_come = subst (YieldsList GivesEdge ends s) (ap (map ends) start) (edges_come s)

  -- the next edge is that of the next row, and joins nodes where all edges do
  pub edge_met : (u : NodeEdges) (r : Option NodeEdge) (e : NodeEdge) → r ≡ Some e → GivesEdge t r u → (n : ℕ) → Inside (joins words) n → Met words n (length xs) e
  edge_met u r e is step n inside =
      let turn = YieldsList-turn all_come xs t y r u e is step in
      let is : ends e ≡ get_or (joins words) (length xs) (0, 0) = turn.1 ∙ get_or_default (joins words) (length xs) (ends e) (0, 0) turn.0 in
      let source_is : e.source ≡ source (joins words) (length xs) = ap (λ (p : ℕ × ℕ). p.0) is in
      let target_is : e.target ≡ target (joins words) (length xs) = ap (λ (p : ℕ × ℕ). p.1) is in
      record {
        within = turn.0;
        source_is = source_is;
        target_is = target_is;
        source_in = omega (arith, inside.sources (length xs) turn.0);
        target_in = omega (arith, inside.targets (length xs) turn.0);
      }

  -- at the end it has come to all
  pub edges_over : (u : NodeEdges) (r : Option NodeEdge) → r ≡ None → GivesEdge t r u → length xs ≡ length (joins words)
  edges_over u r is step = (YieldsList-end all_come xs t y r u is step).1

-- in a table that holds rows
module _ (names : List NameRow) (found : List ℕ) (es : List EdgeRow) (words : List ℕ) (held : EdgesHeld names found es words) where
  pub edges_held : node_edges words ≡ map node_edge (map (edge_words names) es)
  edges_held = ap (map node_edge) (holds_rows edges_width (edge_words names) (omega arith) found es words held)

  pub joins_held : joins words ≡ pairs names es
  joins_held = ap (map ends) edges_held ∙ same es
    where
      same : (es : List EdgeRow) → map ends (map node_edge (map (edge_words names) es)) ≡ pairs names es
      same [] = refl
      same (e ∷ es) = ap (λ l. ends (node_edge (edge_words names e)) ∷ l) (same es)

  pub held_count : length (joins words) ≡ length es
  held_count = ap length joins_held ∙ length-map es _
