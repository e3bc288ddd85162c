-- A search begins with all nodes unseen, and ends with all nodes settled. Then places, less what stands before them, are labels.
use Rattle.std.proofs.Common.{◌≡◌, ℕ, ◌+◌, ◌<◌, ◌≤◌, eqb, List, length, get_or, sym, ap, subst, arith}
use Rattle.std.proofs.lemmas.List.Sums.{count_by-le-length}
use Rattle.graph.specs.Graphs.{source, target, Leads, Inside, Components}
use Rattle.graph.specs.Graphs.Leads.{here, onward}
use Rattle.graph.specs.Searching.{Linked, Sized, Search, Walking}

-- all nodes are unseen, and no edge is followed
pub begun : {w : Walking} → Linked w.edges w.nodes (length w.edges) w.turns w.links → length w.edges ≤ length w.links → Sized w.nodes w.turns w.stack w.back w.borders w.places
    → ((v : ℕ) → v < w.nodes → get_or w.places v 0 ≡ 0) → w.top ≡ 0 → w.at ≡ 0 → w.depth ≡ 0 → w.count ≡ 0 → Search w
begun {w} m links_long sized clear top at depth count = record {
  star = record { inside = record { sources = m.sources; targets = m.targets }; linked = m.linked };
  links_long = links_long;
  sized = sized;
  stacked = record {
    node = λ p h. absurd (omega arith);
    place = λ p h. absurd (omega arith);
    stands = λ v h some. absurd (omega (arith, clear v h));
    highest = λ v h. omega (arith, clear v h);
    room = omega (arith, count_by-le-length (λ p. eqb p 0) w.places, sized.places_long);
  };
  walked = record { within = omega arith; above = λ p l h. absurd (omega arith); lower = λ p h. absurd (omega arith); between = λ p i h. absurd (omega arith) };
  chained = record { rising = λ i j l h. absurd (omega arith); falling = λ i h. absurd (omega arith) };
  bordered = record { ascending = λ t u l h. absurd (omega arith); deep = λ t h. absurd (omega arith); within = λ t h. absurd (omega arith); empty = λ _. top; bottom = λ h. absurd (omega arith) };
  followed = record {
    within = λ v h. (m.firsts v h).before;
    leaves = λ v k h. (m.firsts v h).leaves k;
    fresh = λ k h _. grind (arith, (m.firsts (source w.edges k) (m.sources k h)).none k);
    kept = λ t k h. absurd (omega arith);
  };
  settled = record {
    closed = λ k h d. absurd (omega (arith, clear (source w.edges k) (m.sources k h)));
    ordered = λ k h d. absurd (omega (arith, clear (source w.edges k) (m.sources k h)));
    joined = λ a b ha hb d. absurd (omega (arith, clear a ha));
    used = λ c h. absurd (omega arith);
  };
}

-- with the stack empty, what is seen is settled
pub seen_settled : {w : Walking} → Search w → w.top ≡ 0 → (v : ℕ) → v < w.nodes → 0 < get_or w.places v 0 → w.nodes < get_or w.places v 0
seen_settled {w} s empty v h seen = grind (arith, s.stacked.stands v h)

module _ {w : Walking} (s : Search w) (empty : w.top ≡ 0) (all : (v : ℕ) → v < w.nodes → 0 < get_or w.places v 0)
    (labels : List ℕ) (long : length labels ≡ w.nodes) (less : (v : ℕ) → v < w.nodes → get_or labels v 0 + (w.nodes + 1) ≡ get_or w.places v 0) where
  settled : (v : ℕ) → v < w.nodes → w.nodes < get_or w.places v 0
  settled v h = seen_settled s empty v h (all v h)

  ordered : (k : ℕ) → k < length w.edges → get_or labels (target w.edges k) 0 ≤ get_or labels (source w.edges k) 0
  ordered k h =
      let o = s.settled.ordered k h (settled (source w.edges k) (s.star.inside.sources k h)) in
      omega (arith, less (source w.edges k) (s.star.inside.sources k h), less (target w.edges k) (s.star.inside.targets k h))

  -- labels do not rise along edges
  leads_down : (a : ℕ) {b : ℕ} → Leads w.edges a b → get_or labels b 0 ≤ get_or labels a 0
  leads_down a here = omega arith
  leads_down a (onward r e) =
      let low = leads_down a r in
      let o = ordered e.at e.within in
      omega (arith, ap (λ x. get_or labels x 0) e.leaves, ap (λ x. get_or labels x 0) e.enters)

  pub finished : Components w.edges labels w.count
  finished = record {
    inside = subst (Inside w.edges) (sym long) s.star.inside;
    both = λ a b ha hb e.
        let a_in : a < w.nodes = omega arith in
        let b_in : b < w.nodes = omega arith in
        let p : get_or w.places a 0 ≡ get_or w.places b 0 = omega (arith, less a a_in, less b b_in) in
        (s.settled.joined a b a_in b_in (settled a a_in) p, s.settled.joined b a b_in a_in (settled b b_in) (sym p));
    alike = λ a b ha hb to fro. let x = leads_down a to in let y = leads_down b fro in omega arith;
    below = λ a ha. let a_in : a < w.nodes = omega arith in omega (arith, less a a_in, s.stacked.highest a a_in, settled a a_in);
    used = λ c h. let u = s.settled.used c h in (u.0, omega (arith, u.1), omega (arith, u.2, less u.0 u.1));
    ordered = ordered;
  }
