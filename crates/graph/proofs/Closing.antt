-- The topmost segment is a component: its nodes lead to each other, all their edges are followed, and none leads below the border.
-- Stamping its nodes takes it off the stack.
use Rattle.std.proofs.Common.{◌≡◌, ℕ, ◌+◌, ◌-◌, ◌<◌, ◌≤◌, ◌⊎◌, List, length, get_or, set, sym, ◌∙◌, subst, inl, inr, ⊎_elim, arith, below_more}
use Rattle.std.proofs.lemmas.List.{get_or-set_same, get_or-set_other}
use Rattle.std.proofs.lemmas.Bool.{cases_lt}
use Rattle.graph.specs.Graphs.{source, target, Leads}
use Rattle.graph.specs.Searching.{Stacked, Walked, Chained, Bordered, Followed, Settled, Search, Stamped, Walking}
use Rattle.graph.proofs.Leading.{segment_leads}
use Rattle.graph.proofs.Entering.{unseen_set}

-- one more node is stamped
pub stamped_more : {n : ℕ} {stack before after : List ℕ} {border top count label : ℕ} (i : ℕ) → Stacked n stack before top count → length after ≡ n → border ≤ i → i < top → 0 < label
    → Stamped n before after border i label → Stamped n before (set after (get_or stack i 0) label) border (i + 1) label
stamped_more {n} {stack} {before} {after} {border} {top} {count} {label} i s long low high some m =
    let u : ℕ = get_or stack i 0 in
    let u_in : u < n = s.node i high in
    let new : get_or (set after u label) u 0 ≡ label = get_or-set_same after u label 0 (omega arith) in
    let old : (v : ℕ) → (v ≡ u → ⊥) → get_or (set after u label) v 0 ≡ get_or after v 0 = λ v ne. get_or-set_other after u v label 0 ne in
    let place : get_or before u 0 ≡ i + 1 = s.place i high in
    record {
      taken = λ v h l t. grind (arith, new, old v, place, m.taken v h l, s.stands v h, s.room);
      others = λ v h o. grind (arith, old v, place, m.others v h, o);
      same = grind (arith, unseen_set after u label, m.others u u_in, m.same);
    }

module _ {w : Walking} (s : Search w) (some : 0 < w.depth) (over : w.at ≤ get_or w.borders (w.depth - 1) 0)
    (places' : List ℕ) (long : length places' ≡ w.nodes) (stamped : Stamped w.nodes w.places places' (get_or w.borders (w.depth - 1) 0) w.top (w.nodes + 1 + w.count)) where
  abbrev border : ℕ
  border = get_or w.borders (w.depth - 1) 0

  border_low : border < w.top
  border_low = s.bordered.within (w.depth - 1) (omega arith)

  top_low : w.top ≤ w.nodes
  top_low = omega (arith, s.stacked.room)

  -- a node of the segment, and one outside of it
  abbrev In : ℕ → Type 0
  In v = (border < get_or w.places v 0) × (get_or w.places v 0 ≤ w.top) × (get_or places' v 0 ≡ w.nodes + 1 + w.count)

  abbrev Out : ℕ → Type 0
  Out v = ((get_or w.places v 0 ≤ border) ⊎ (w.nodes < get_or w.places v 0)) × (get_or places' v 0 ≡ get_or w.places v 0)

  fate : (v : ℕ) → v < w.nodes → In v ⊎ Out v
  fate v h = ⊎_elim
      (λ (low : border < get_or w.places v 0). ⊎_elim
      (λ (settled : w.nodes < get_or w.places v 0). inr (inr settled, stamped.others v h (inr (omega (arith, top_low)))))
      (λ (not : get_or w.places v 0 ≤ w.nodes). let on = s.stacked.stands v h (omega arith) not in inl (low, on.0, stamped.taken v h low on.0))
      (cases_lt w.nodes (get_or w.places v 0)))
      (λ (under : get_or w.places v 0 ≤ border). inr (inl under, stamped.others v h (inl under)))
      (cases_lt border (get_or w.places v 0))

  -- a node of the segment stands on the stack from the border on
  stands : (v : ℕ) → v < w.nodes → In v → (border ≤ get_or w.places v 0 - 1) × (get_or w.places v 0 - 1 < w.top) × (get_or w.stack (get_or w.places v 0 - 1) 0 ≡ v)
  stands v h i = (omega (arith, i.0), omega (arith, i.0, i.1), (s.stacked.stands v h (omega (arith, i.0)) (omega (arith, i.1, top_low))).1)

  -- all its edges are followed
  done : (v : ℕ) → v < w.nodes → In v → get_or w.turns v 0 ≡ 0
  done v h i = grind (arith, stands v h i, s.walked.above (get_or w.places v 0 - 1))

  stacked' : Stacked w.nodes w.stack places' border (w.count + 1)
  stacked' = record {
    node = λ p h. s.stacked.node p (omega (arith, border_low));
    place = λ p h.
        let p_in : p < w.top = omega (arith, border_low) in
        stamped.others (get_or w.stack p 0) (s.stacked.node p p_in) (inl (omega (arith, s.stacked.place p p_in))) ∙ s.stacked.place p p_in;
    stands = λ v h seen small. grind (arith, fate v h, s.stacked.stands v h);
    highest = λ v h. grind (arith, fate v h, s.stacked.highest v h);
    room = omega (arith, stamped.same, s.stacked.room, border_low);
  }

  walked' : Walked w.turns w.stack w.back border w.at
  walked' = record {
    within = over;
    above = λ p low h. s.walked.above p low (omega (arith, border_low));
    lower = λ p h. s.walked.lower p (omega (arith, border_low));
    between = λ p i h. s.walked.between p i (omega (arith, border_low));
  }

  chained' : Chained w.edges w.stack w.borders border (w.depth - 1)
  chained' = record {
    rising = λ i j le h. s.chained.rising i j le (omega (arith, border_low));
    falling = λ i h off. s.chained.falling i (omega (arith, border_low)) (λ t lt e. grind (arith, off t));
  }

  bordered' : Bordered w.borders border (w.depth - 1)
  bordered' = record {
    ascending = λ t u lt h. s.bordered.ascending t u lt (omega arith);
    deep = λ t h. s.bordered.deep t (omega arith);
    within = λ t h. s.bordered.ascending t (w.depth - 1) h (omega arith);
    empty = λ e. subst (λ x. get_or w.borders x 0 ≡ 0) (sym e) (s.bordered.bottom some);
    bottom = λ h. s.bordered.bottom some;
  }

  followed' : Followed w.edges w.nodes w.turns w.borders places' (w.depth - 1)
  followed' = record {
    within = s.followed.within;
    leaves = s.followed.leaves;
    fresh = λ k h z. grind (arith, fate (source w.edges k) (s.star.inside.sources k h), s.followed.fresh k h);
    kept = λ t k ht h f high. grind (
      arith,
      fate (source w.edges k) (s.star.inside.sources k h),
      fate (target w.edges k) (s.star.inside.targets k h),
      s.bordered.ascending t (w.depth - 1) ht,
      s.followed.kept t k (omega arith) h f,
      border_low,
      top_low,
    );
  }

  -- a settled node keeps its place
  settled_old : (v : ℕ) → v < w.nodes → w.nodes < get_or w.places v 0 → get_or places' v 0 ≡ get_or w.places v 0
  settled_old v h d = stamped.others v h (inr (omega (arith, top_low)))

  settled' : Settled w.edges w.nodes places' (w.count + 1)
  settled' = record {
    closed = λ k h d. grind (
      arith,
      fate (source w.edges k) (s.star.inside.sources k h),
      fate (target w.edges k) (s.star.inside.targets k h),
      done (source w.edges k) (s.star.inside.sources k h),
      s.followed.kept (w.depth - 1) k (omega arith) h,
      s.settled.closed k h,
    );
    ordered = λ k h d. grind (
      arith,
      fate (source w.edges k) (s.star.inside.sources k h),
      fate (target w.edges k) (s.star.inside.targets k h),
      done (source w.edges k) (s.star.inside.sources k h),
      s.followed.kept (w.depth - 1) k (omega arith) h,
      s.settled.closed k h,
      s.settled.ordered k h,
      s.stacked.highest (target w.edges k) (s.star.inside.targets k h),
    );
    joined = λ a b ha hb d e. ⊎_elim
        (λ (i : In a). ⊎_elim
        (λ (j : In b). let p = stands a ha i in let q = stands b hb j in
        subst (λ x. Leads w.edges x b) p.2 (subst (λ x. Leads w.edges (get_or w.stack (get_or w.places a 0 - 1) 0) x) q.2
        (segment_leads s.chained s.bordered (get_or w.places a 0 - 1) (get_or w.places b 0 - 1) q.0 p.1 q.1)))
        (λ (o : Out b). absurd (omega (arith, i.2, o.1, s.stacked.highest b hb)))
        (fate b hb))
        (λ (o : Out a). ⊎_elim
        (λ (j : In b). absurd (omega (arith, j.2, o.1, s.stacked.highest a ha)))
        (λ (q : Out b). s.settled.joined a b ha hb (omega (arith, o.1)) (sym o.1 ∙ e ∙ q.1))
        (fate b hb))
        (fate a ha);
    used = below_more (λ c. (v : ℕ) × (v < w.nodes) × (get_or places' v 0 ≡ w.nodes + 1 + c)) w.count
        (λ c h. let u = s.settled.used c h in (u.0, u.1, settled_old u.0 u.1 (omega (arith, u.2)) ∙ u.2))
        (let e = s.stacked.place border border_low in
        (get_or w.stack border 0, s.stacked.node border border_low, stamped.taken (get_or w.stack border 0) (s.stacked.node border border_low) (omega arith) (omega (arith, border_low))));
  }

  pub closed : Search (record w { places = places'; top = border; depth = w.depth - 1; count = w.count + 1 })
  closed = record {
    star = s.star;
    links_long = s.links_long;
    sized = record {
      few = s.sized.few;
      turns_long = s.sized.turns_long;
      stack_long = s.sized.stack_long;
      back_long = s.sized.back_long;
      borders_long = s.sized.borders_long;
      places_long = long;
    };
    stacked = stacked';
    walked = walked';
    chained = chained';
    bordered = bordered';
    followed = followed';
    settled = settled';
  }
