-- The steps of a walk as the code takes them: the node whose turn it is, its next edge, and where that leads.
use Rattle.std.proofs.Common.{◌≡◌, ℕ, ◌+◌, ◌-◌, ◌*◌, ◌<◌, ◌≤◌, length, get_or, set, sum, sym, refl, ap, subst, mul-le-mul_right, add-mul, arith}
use Rattle.std.proofs.lemmas.List.{get_or-set_same}
use Rattle.std.proofs.lemmas.List.Sums.{sum_by-set}
use Rattle.graph.specs.Graphs.{source, target, Leads}
use Rattle.graph.specs.Searching.{Search, Walking, with_node, left, Stepped}
use Rattle.graph.proofs.Leading.{border_top, depth_low}
use Rattle.graph.proofs.Entering.{node_room, entered, set_seen}
use Rattle.graph.proofs.Following.{followed, merged, reached}

-- borders are no more than there is room for
pub depth_room : {w : Walking} → Search w → w.depth ≤ length w.borders
depth_room s = omega (arith, depth_low s.bordered, s.stacked.room, s.sized.borders_long)

-- the node whose turn it is, and its next edge
abbrev pub node_of : Walking → ℕ
node_of w = get_or w.stack (w.at - 1) 0

abbrev pub edge_of : Walking → ℕ
edge_of w = get_or w.turns (node_of w) 0 - 1

-- v, when that edge of w is followed
abbrev pub after_edge : (w v : Walking) → Walking
after_edge w v = record v { turns = set v.turns (node_of w) (get_or v.links (edge_of w) 0) }

-- a step of w leads to a walk again
pub record Steps (w v : Walking) : Type 0 where
  pub kept : Search v
  pub stepped : Stepped w v

-- when an edge is followed, less is left to do
left_falls : (w : Walking) (v x at depth : ℕ) → v < length w.turns → x < get_or w.turns v 0 → at ≤ w.nodes → depth ≤ w.nodes
    → sum (set w.turns v x) * (2 * w.nodes + 1) + at + depth < left w
left_falls w v x at depth v-in low a d =
    let fewer : sum (set w.turns v x) + 1 ≤ sum w.turns = omega (arith, sum_by-set (λ y. y) w.turns v x 0 v-in) in
    let times = mul-le-mul_right (2 * w.nodes + 1) fewer in
    omega (arith, add-mul (sum (set w.turns v x)) 1 (2 * w.nodes + 1))

module _ {w : Walking} (s : Search w) (some : 0 < w.depth) (under : get_or w.borders (w.depth - 1) 0 < w.at)
    (more : 0 < get_or w.turns (node_of w) 0) (t : ℕ) (t_is : t ≡ target w.edges (edge_of w)) where
  abbrev node : ℕ
  node = node_of w

  abbrev edge : ℕ
  edge = edge_of w

  at_in : w.at - 1 < w.top
  at_in = omega (arith, s.walked.within)

  node_in : node < w.nodes
  node_in = s.stacked.node (w.at - 1) at_in

  turn_is : get_or w.turns node 0 ≡ edge + 1
  turn_is = omega arith

  edge_in : edge < length w.edges
  edge_in = omega (arith, s.followed.within node node_in)

  leaves : source w.edges edge ≡ node
  leaves = s.followed.leaves node edge node_in turn_is

  node_seen : 0 < get_or w.places node 0
  node_seen = omega (arith, s.stacked.place (w.at - 1) at_in)

  pub target_in : t < w.nodes
  target_in = subst (λ x. x < w.nodes) (sym t_is) (s.star.inside.targets edge edge_in)

  -- each node on the stack leads to the target
  pub target_reached : (p : ℕ) → p < w.top → Leads w.edges (get_or w.stack p 0) t
  target_reached p h = subst (λ x. Leads w.edges (get_or w.stack p 0) x) (sym t_is) (reached s edge edge_in under leaves p h)

  falls : (at depth : ℕ) → at ≤ w.nodes → depth ≤ w.nodes → sum (set w.turns node (get_or w.links edge 0)) * (2 * w.nodes + 1) + at + depth < left w
  falls at depth = left_falls w node (get_or w.links edge 0) at depth (omega (arith, node_in, s.sized.turns_long)) (omega (arith, (s.star.linked edge edge_in).before))

  -- the edge leads to an unseen node
  pub steps_in : get_or w.places t 0 ≡ 0 → Steps w (after_edge w (with_node w t))
  steps_in new =
      let room = node_room s t target_in new in
      let e = entered s t target_in new target_reached in
      record {
        kept = followed e node edge node_in (set_seen w.places t node (w.top + 1) new node_seen) turn_is
            (λ k h low. omega (arith, e.bordered.within k h, ap (λ x. get_or (set w.places t (w.top + 1)) x 0) t_is, get_or-set_same w.places t (w.top + 1) 0 (omega (arith, target_in, s.sized.places_long))));
        stepped = record {
          onward = record { edges = refl; nodes = refl; seen = λ v h. set_seen w.places t v (w.top + 1) new };
          falls = falls (w.top + 1) (w.depth + 1) (omega (arith, room)) (omega (arith, room, depth_low s.bordered));
        };
      }

  -- it leads to a node that was seen: `rest` borders are left below it
  module _ (old : get_or w.places t 0 ≡ 0 → ⊥) (rest : ℕ) (fewer : rest ≤ w.depth) (kept : 0 < rest → get_or w.borders (rest - 1) 0 < get_or w.places t 0)
      (dropped : (k : ℕ) → rest ≤ k → k < w.depth → get_or w.places t 0 ≤ get_or w.borders k 0) where
    place : get_or w.places t 0 ≡ get_or w.places (target w.edges edge) 0
    place = ap (λ x. get_or w.places x 0) t_is

    pub target_merged : Search (record w { depth = rest })
    target_merged = merged s edge rest edge_in some under leaves (omega (arith, place)) fewer (λ k low high. omega (arith, place, dropped k low high))

    pub steps_on : Steps w (after_edge w (record w { depth = rest }))
    steps_on = record {
      kept = followed target_merged node edge node_in node_seen turn_is (λ k h low. omega (arith, border_top target_merged.bordered k h, kept (omega arith), place));
      stepped = record {
        onward = record { edges = refl; nodes = refl; seen = λ v h some. some };
        falls = falls w.at rest (omega (arith, s.walked.within, s.stacked.room)) (omega (arith, depth_low s.bordered, s.stacked.room));
      };
    }
