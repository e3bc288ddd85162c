-- A node is put on the stack, as a segment of its own. It leads nowhere yet, since none of its edges is followed.
use Rattle.std.proofs.Common.{◌≡◌, ℕ, ◌+◌, ◌-◌, ◌<◌, ◌≤◌, cond, eqb, List, length, get_or, set, sym, ◌∙◌, subst, ⊎_elim, arith, below_more}
use Rattle.std.proofs.lemmas.List.{get_or-set_same, get_or-set_other, length-set}
use Rattle.std.proofs.lemmas.List.Sums.{sum_by-set}
use Rattle.std.proofs.lemmas.Bool.{cases_eq, ne_eqb}
use Rattle.graph.specs.Graphs.{source, target, Leads}
use Rattle.graph.specs.Graphs.Leads.{here}
use Rattle.graph.proofs.Leading.{depth_low}
use Rattle.graph.specs.Searching.{unseen, Sized, Stacked, Walked, Chained, Bordered, Followed, Settled, Search, Walking, with_node}

-- a place above 0 in the stead of a place
pub unseen_set : (places : List ℕ) (v p : ℕ) → v < length places → 0 < p → unseen (set places v p) + cond (eqb (get_or places v 0) 0) 1 0 ≡ unseen places
unseen_set places v p h some = grind (arith, sum_by-set (λ x. cond (eqb x 0) 1 0) places v p 0 h, ne_eqb p 0)

-- what is seen stays seen where an unseen node gets a place
pub set_seen : (places : List ℕ) (a v p : ℕ) → get_or places a 0 ≡ 0 → 0 < get_or places v 0 → 0 < get_or (set places a p) v 0
set_seen places a v p new some = grind (arith, get_or-set_other places a v p 0)

-- an unseen node finds room on the stack
pub unseen_room : {n : ℕ} {stack places : List ℕ} {top count : ℕ} → Stacked n stack places top count → length places ≡ n → (w : ℕ) → w < n → get_or places w 0 ≡ 0
    → unseen (set places w (top + 1)) + 1 ≡ unseen places
unseen_room {n} {stack} {places} {top} s long w h e = grind (arith, unseen_set places w (top + 1))

module _ {w : Walking} (s : Search w) (a : ℕ) (a_in : a < w.nodes) (new : get_or w.places a 0 ≡ 0) where
  pub node_room : w.top < w.nodes
  node_room = omega (arith, unseen_room s.stacked s.sized.places_long a a_in new)

  -- the new lists
  abbrev stack' : List ℕ
  stack' = set w.stack w.top a

  abbrev back' : List ℕ
  back' = set w.back w.top w.at

  abbrev bs' : List ℕ
  bs' = set w.borders w.depth w.top

  abbrev places' : List ℕ
  places' = set w.places a (w.top + 1)

  stack_new : get_or stack' w.top 0 ≡ a
  stack_new = get_or-set_same w.stack w.top a 0 (omega (arith, node_room, s.sized.stack_long))

  stack_old : (p : ℕ) → p < w.top → get_or stack' p 0 ≡ get_or w.stack p 0
  stack_old p h = get_or-set_other w.stack w.top p a 0 (omega arith)

  back_new : get_or back' w.top 0 ≡ w.at
  back_new = get_or-set_same w.back w.top w.at 0 (omega (arith, node_room, s.sized.back_long))

  back_old : (p : ℕ) → p < w.top → get_or back' p 0 ≡ get_or w.back p 0
  back_old p h = get_or-set_other w.back w.top p w.at 0 (omega arith)

  border_new : get_or bs' w.depth 0 ≡ w.top
  border_new = get_or-set_same w.borders w.depth w.top 0 (omega (arith, node_room, depth_low s.bordered, s.sized.borders_long))

  border_old : (t : ℕ) → t < w.depth → get_or bs' t 0 ≡ get_or w.borders t 0
  border_old t h = get_or-set_other w.borders w.depth t w.top 0 (omega arith)

  place_new : get_or places' a 0 ≡ w.top + 1
  place_new = get_or-set_same w.places a (w.top + 1) 0 (omega (arith, s.sized.places_long))

  place_old : (v : ℕ) → (v ≡ a → ⊥) → get_or places' v 0 ≡ get_or w.places v 0
  place_old v ne = get_or-set_other w.places a v (w.top + 1) 0 ne

  -- what is seen is another node
  seen_old : (v : ℕ) → 0 < get_or w.places v 0 → get_or places' v 0 ≡ get_or w.places v 0
  seen_old v h = grind (arith, place_old v)

  stacked' : Stacked w.nodes stack' places' (w.top + 1) w.count
  stacked' = record {
    node = λ p h. grind (arith, stack_new, stack_old p, s.stacked.node p);
    place = λ p h. grind (arith, stack_new, stack_old p, s.stacked.place p, place_new, seen_old (get_or w.stack p 0));
    stands = λ v h some small. grind (arith, stack_new, place_new, place_old v, s.stacked.stands v h, stack_old (get_or w.places v 0 - 1));
    highest = λ v h. grind (arith, place_new, place_old v, node_room, s.stacked.highest v h);
    room = omega (arith, unseen_room s.stacked s.sized.places_long a a_in new, s.stacked.room);
  }

  walked' : Walked w.turns stack' back' (w.top + 1) (w.top + 1)
  walked' = record {
    within = omega arith;
    above = λ p low h. absurd (omega arith);
    lower = λ p h. grind (arith, back_new, back_old p, s.walked.lower p, s.walked.within);
    between = λ p i h low lt. grind (arith, back_new, back_old p, stack_old i, s.walked.between p i, s.walked.above i);
  }

  chained' : ((i : ℕ) → i < w.top → Leads w.edges (get_or w.stack i 0) a) → Chained w.edges stack' bs' (w.top + 1) (w.depth + 1)
  chained' reach = record {
    rising = λ i j le h. below_more (λ j. i ≤ j → Leads w.edges (get_or stack' i 0) (get_or stack' j 0)) w.top
        (λ j h le. rw (stack_old i (omega arith), stack_old j h) (s.chained.rising i j le h))
        (λ le. ⊎_elim
        (λ (e : i ≡ w.top). subst (λ x. Leads w.edges (get_or stack' x 0) (get_or stack' w.top 0)) (sym e) here)
        (λ (ne : i ≡ w.top → ⊥). rw (stack_old i (omega arith), stack_new) (reach i (omega arith)))
        (cases_eq i w.top))
        j h le;
    falling = λ i h off. ⊎_elim
        (λ (e : i + 1 ≡ w.top). absurd (off w.depth (omega arith) (border_new ∙ sym e)))
        (λ (ne : i + 1 ≡ w.top → ⊥). rw (stack_old (i + 1) (omega arith), stack_old i (omega arith))
        (s.chained.falling i (omega arith) (λ t lt e. off t (omega arith) (border_old t lt ∙ e))))
        (cases_eq (i + 1) w.top);
  }

  bordered' : Bordered bs' (w.top + 1) (w.depth + 1)
  bordered' = record {
    ascending = λ t u lt h. grind (arith, border_new, border_old t, border_old u, s.bordered.ascending t u lt, s.bordered.within t);
    deep = λ t h. grind (arith, border_new, border_old t, s.bordered.deep t, depth_low s.bordered);
    within = λ t h. grind (arith, border_new, border_old t, s.bordered.within t);
    empty = λ e. absurd (omega arith);
    bottom = λ _. grind (arith, border_new, border_old 0, s.bordered.bottom, s.bordered.empty);
  }

  -- an edge that was followed leaves another node
  old_source : (k : ℕ) → k < length w.edges → get_or w.turns (source w.edges k) 0 ≤ k → source w.edges k ≡ a → ⊥
  old_source k h f e = grind (arith, s.followed.fresh k h, new)

  followed' : Followed w.edges w.nodes w.turns bs' places' (w.depth + 1)
  followed' = record {
    within = s.followed.within;
    leaves = s.followed.leaves;
    fresh = λ k h z. grind (arith, place_new, place_old (source w.edges k), s.followed.fresh k h);
    kept = λ t k ht h f over. grind (
      arith,
      border_new,
      border_old t,
      place_old (source w.edges k),
      old_source k h f,
      seen_old (target w.edges k),
      s.followed.kept t k,
      s.settled.closed k h,
      s.stacked.stands (source w.edges k) (s.star.inside.sources k h),
      node_room,
    );
  }

  -- a settled node is another, and keeps its place
  settled_old : (v : ℕ) → w.nodes < get_or places' v 0 → get_or places' v 0 ≡ get_or w.places v 0
  settled_old v h = grind (arith, place_old v, place_new, node_room)

  settled' : Settled w.edges w.nodes places' w.count
  settled' = record {
    closed = λ k h d. grind (arith, settled_old (source w.edges k) d, seen_old (target w.edges k), s.settled.closed k h);
    ordered = λ k h d. grind (arith, settled_old (source w.edges k) d, seen_old (target w.edges k), s.settled.closed k h, s.settled.ordered k h);
    joined = λ a b ha hb d e. s.settled.joined a b ha hb (omega (arith, settled_old a d)) (sym (settled_old a d) ∙ e ∙ settled_old b (omega arith));
    used = λ c h. let u = s.settled.used c h in (u.0, u.1, seen_old u.0 (omega (arith, u.2)) ∙ u.2);
  }

  sized' : Sized w.nodes w.turns stack' back' bs' places'
  sized' = record {
    few = s.sized.few;
    turns_long = s.sized.turns_long;
    stack_long = length-set w.stack w.top a ∙ s.sized.stack_long;
    back_long = length-set w.back w.top w.at ∙ s.sized.back_long;
    borders_long = length-set w.borders w.depth w.top ∙ s.sized.borders_long;
    places_long = length-set w.places a (w.top + 1) ∙ s.sized.places_long;
  }

  -- a node to which all nodes on the stack lead is put on it
  pub entered : ((i : ℕ) → i < w.top → Leads w.edges (get_or w.stack i 0) a) → Search (with_node w a)
  entered reach = record { star = s.star; links_long = s.links_long; sized = sized'; stacked = stacked'; walked = walked'; chained = chained' reach; bordered = bordered'; followed = followed'; settled = settled' }
