-- An edge is followed. Before that, borders above the place that it enters are dropped: what stands between leads down to it and up again.
use Rattle.std.proofs.Common.{◌≡◌, ℕ, ◌+◌, ◌-◌, ◌<◌, ◌≤◌, List, length, get_or, set, ◌∙◌, subst, ⊎_elim, arith}
use Rattle.std.proofs.lemmas.List.{get_or-set_same, get_or-set_other, length-set}
use Rattle.std.proofs.lemmas.Bool.{cases_eq, cases_lt}
use Rattle.graph.specs.Graphs.{source, target, Leads}
use Rattle.graph.specs.Searching.{Latest, Search, Walking}
use Rattle.graph.proofs.Leading.{leads_then, leads_edge, border_top, segment_leads, find}

-- the next edge of a seen node is followed, if it leads over no border downwards
pub followed : {w : Walking}
    → Search w
    → (v k : ℕ) → v < w.nodes → 0 < get_or w.places v 0 → get_or w.turns v 0 ≡ k + 1
    → ((t : ℕ) → t < w.depth → get_or w.borders t 0 < get_or w.places v 0 → get_or w.borders t 0 < get_or w.places (target w.edges k) 0)
    → Search (record w { turns = set w.turns v (get_or w.links k 0) })
followed {w} s v k v-in seen turn over =
    let turns' : List ℕ = set w.turns v (get_or w.links k 0) in
    let k_in : k < length w.edges = omega (arith, s.followed.within v v-in) in
    let leaves : source w.edges k ≡ v = s.followed.leaves v k v-in turn in
    let link : Latest w.edges v k (get_or w.links k 0) = subst (λ x. Latest w.edges x k (get_or w.links k 0)) leaves (s.star.linked k k_in) in
    let new : get_or turns' v 0 ≡ get_or w.links k 0 = get_or-set_same w.turns v (get_or w.links k 0) 0 (omega (arith, s.sized.turns_long)) in
    let old : (u : ℕ) → (u ≡ v → ⊥) → get_or turns' u 0 ≡ get_or w.turns u 0 = λ u ne. get_or-set_other w.turns v u (get_or w.links k 0) 0 ne in
    let none : (u : ℕ) → get_or w.turns u 0 ≡ 0 → get_or turns' u 0 ≡ 0 = λ u z. grind (arith, old u) in
    record {
      star = s.star;
      links_long = s.links_long;
      sized = record {
        few = s.sized.few;
        turns_long = length-set w.turns v (get_or w.links k 0) ∙ s.sized.turns_long;
        stack_long = s.sized.stack_long;
        back_long = s.sized.back_long;
        borders_long = s.sized.borders_long;
        places_long = s.sized.places_long;
      };
      stacked = s.stacked;
      walked = record {
        within = s.walked.within;
        above = λ p low h. none (get_or w.stack p 0) (s.walked.above p low h);
        lower = s.walked.lower;
        between = λ p i h low lt. none (get_or w.stack i 0) (s.walked.between p i h low lt);
      };
      chained = s.chained;
      bordered = s.bordered;
      followed = record {
        within = λ u h. grind (arith, new, old u, link.before, s.followed.within u);
        leaves = λ u j h e. grind (arith, new, old u, link.leaves j, s.followed.leaves u j);
        fresh = λ j h z. grind (arith, old (source w.edges j), s.followed.fresh j h);
        kept = λ t j ht h f. grind (arith, new, old (source w.edges j), link.none j, s.followed.kept t j ht h, over t ht);
      };
      settled = s.settled;
    }

-- the edge leads to a node on the stack or a settled one: borders from its place on are dropped
pub merged : {w : Walking}
    → Search w
    → (k rest : ℕ) → k < length w.edges → 0 < w.depth → get_or w.borders (w.depth - 1) 0 < w.at → source w.edges k ≡ get_or w.stack (w.at - 1) 0 → 0 < get_or w.places (target w.edges k) 0
    → rest ≤ w.depth → ((t : ℕ) → rest ≤ t → t < w.depth → get_or w.places (target w.edges k) 0 ≤ get_or w.borders t 0)
    → Search (record w { depth = rest })
merged {w} s k rest k_in some under from seen few drop =
    let place : ℕ = get_or w.places (target w.edges k) 0 in
    let floor : 0 < rest = ⊎_elim (λ (e : rest ≡ 0). absurd (omega (arith, drop 0 (omega arith) some, s.bordered.bottom some))) (λ (ne : rest ≡ 0 → ⊥). omega arith) (cases_eq rest 0) in
    record {
      star = s.star;
      links_long = s.links_long;
      sized = s.sized;
      stacked = s.stacked;
      walked = s.walked;
      chained = record {
        rising = s.chained.rising;
        falling = λ i h off. ⊎_elim
            (λ (f : (t : ℕ) × (t < w.depth) × (get_or w.borders t 0 ≡ i + 1)).
            let high : rest ≤ f.0 = ⊎_elim (λ (lt : f.0 < rest). absurd (off f.0 lt f.2)) (λ (ge : rest ≤ f.0). ge) (cases_lt f.0 rest) in
            let low : place ≤ i + 1 = omega (arith, drop f.0 high f.1, f.2) in
            let on = s.stacked.stands (target w.edges k) (s.star.inside.targets k k_in) seen (omega (arith, s.stacked.room, s.walked.within)) in
            leads_then (s.chained.rising (i + 1) (w.at - 1) (omega (arith, border_top s.bordered f.0 f.1, f.2)) (omega (arith, s.walked.within)))
            (leads_then (subst (λ x. Leads w.edges x (target w.edges k)) from (leads_edge w.edges k k_in))
            (subst (λ x. Leads w.edges x (get_or w.stack i 0)) on.1 (s.chained.rising (place - 1) i (omega arith) (omega arith)))))
            (λ (none : (t : ℕ) → t < w.depth → get_or w.borders t 0 ≡ i + 1 → ⊥). s.chained.falling i h none)
            (find w.borders (i + 1) w.depth);
      };
      bordered = record {
        ascending = λ t u lt h. s.bordered.ascending t u lt (omega arith);
        deep = λ t h. s.bordered.deep t (omega arith);
        within = λ t h. s.bordered.within t (omega arith);
        empty = λ e. absurd (omega arith);
        bottom = λ h. s.bordered.bottom some;
      };
      followed = record {
        within = s.followed.within;
        leaves = s.followed.leaves;
        fresh = s.followed.fresh;
        kept = λ t k h. s.followed.kept t k (omega arith);
      };
      settled = s.settled;
    }

-- each node on the stack leads to the one whose turn it is, and on along its edge
pub reached : {w : Walking}
    → Search w
    → (k : ℕ) → k < length w.edges → get_or w.borders (w.depth - 1) 0 < w.at → source w.edges k ≡ get_or w.stack (w.at - 1) 0
    → (i : ℕ) → i < w.top → Leads w.edges (get_or w.stack i 0) (target w.edges k)
reached {w} s k k_in under from i h =
    leads_then (segment_leads s.chained s.bordered i (w.at - 1) (omega arith) h (omega (arith, s.walked.within)))
    (subst (λ x. Leads w.edges x (target w.edges k)) from (leads_edge w.edges k k_in))
