-- Sums over the records of a chain, each record weighed whatever its kind: records stay, vanish or move up, and none is made, so that what
-- is left never sums to more. Every move is one step of arithmetic.
--
--   Measure                                a weight for each record, and its sum over a chain
--   sum_append .. sum_wrapped              the pieces that are moved
--   done_sum, treated_sum, treat_sum       one record; a chain
use Rattle.std.proofs.Common.{◌≡◌, ℕ, ◌+◌, ◌≤◌, Bool, true, false, arith}
use Rattle.rules.specs.Tree.{Head, Chain, is_end, below, after, alone, append}
use Rattle.rules.specs.Tree.Chain.{end, link}
use Rattle.rules.specs.Kinds.{empty_statement, expression_statement, plain_expression}
use Rattle.rules.specs.Removal.{By, Place, place_inside, entered, swept, wrapped_object, Verdict, verdict, become, values, joined, Left, done, treated, treat}
use Rattle.rules.specs.Removal.Verdict.{stays, sweeps, empties, unlinks, restates, yields, unwraps}

-- a weight for each record, whatever its kind, and its sum over a chain
pub record Measure : Type 0 where
  pub weight : Head → ℕ
  pub sum : Chain → ℕ
  pub none : sum end ≡ 0
  pub more : (h : Head) (children rest : Chain) → sum (link h children rest) ≡ weight h + sum children + sum rest
  pub becomes : (k : ℕ) (h : Head) → weight (become k h) ≡ weight h

module _ (m : Measure) where
  pub sum_append : (c d : Chain) → m.sum (append c d) ≡ m.sum c + m.sum d
  sum_append end d = omega (arith, m.none)
  sum_append (link h children rest) d = omega (arith, m.more h children rest, m.more h children (append rest d), sum_append rest d)

  pub sum_alone : (c : Chain) → m.sum (alone c) ≤ m.sum c
  sum_alone end = omega arith
  sum_alone (link h children rest) = omega (arith, m.none, m.more h children end, m.more h children rest)

  sum_below : (c : Chain) → m.sum (below c) ≤ m.sum c
  sum_below end = omega arith
  sum_below (link h children rest) = omega (arith, m.more h children rest)

  pub sum_after : (c : Chain) → m.sum (after c) ≤ m.sum c
  sum_after end = omega arith
  sum_after (link h children rest) = omega (arith, m.more h children rest)

  pub sum_swept : (c : Chain) → m.sum (swept c) ≤ m.sum c
  sum_swept end = omega arith
  sum_swept (link h children rest) = grind (arith, m.more h children rest, m.more h children (swept rest), sum_swept rest)

  -- the values of Declarators, without the first Declarator's record
  values_beside : (d : Head) (parts rest : Chain) → m.sum (values rest) ≤ m.sum rest → m.sum (values (link d parts rest)) ≤ m.sum parts + m.sum rest
  values_beside d parts rest fewer = omega (arith, sum_append (alone (after parts)) (values rest), sum_alone (after parts), sum_after parts, fewer)

  pub sum_values : (c : Chain) → m.sum (values c) ≤ m.sum c
  sum_values end = omega arith
  sum_values (link d parts rest) = omega (arith, m.more d parts rest, values_beside d parts rest (sum_values rest))

  sum_joined : (c : Chain) → m.sum (joined c) ≤ m.sum c
  sum_joined end = omega arith
  sum_joined (link d parts rest) =
      let all = values (link d parts rest) in
      let fewer = values_beside d parts rest (sum_values rest) in
      let whole = m.more d parts rest in
      grind (arith, fewer, whole, m.none, m.more (become plain_expression d) all end, m.becomes plain_expression d)

  pub sum_wrapped : (c : Chain) → m.sum (wrapped_object c) ≤ m.sum c
  sum_wrapped c =
      omega (arith, sum_below c, sum_below (below c), sum_below (below (below c)), sum_below (below (below (below c))))

  module _ (h : Head) (children : Chain) (inner : Left) (fewer : m.sum inner.chain ≤ m.sum children) where
    done_sum : (v : Verdict) → m.sum (done v h inner).chain ≤ m.weight h + m.sum children
    done_sum stays = omega (arith, fewer, m.none, m.more h inner.chain end)
    done_sum sweeps = omega (arith, fewer, m.none, m.more h (swept inner.chain) end, sum_swept inner.chain)
    done_sum (empties names) = omega (arith, m.none, m.more (become empty_statement h) end end, m.becomes empty_statement h)
    done_sum (unlinks name) = omega (arith, m.none)
    done_sum restates =
        omega (arith, fewer, m.none, m.more (become expression_statement h) (joined inner.chain) end, m.becomes expression_statement h, sum_joined inner.chain)
    done_sum (yields name) = omega (arith, fewer, sum_alone (after inner.chain), sum_after inner.chain)
    done_sum unwraps = omega (arith, fewer, sum_alone (wrapped_object inner.chain), sum_wrapped inner.chain)

    pub treated_sum : (b : Bool) (by : By) (p : Place) → m.sum (treated b by p h children inner).chain ≤ m.weight h + m.sum children
    treated_sum true by p = done_sum (verdict by p h children inner.chain)
    treated_sum false by p = omega (arith, m.none, m.more h children end)

  pub treat_sum : (by : By) (p : Place) (c : Chain) → m.sum (treat by p c).chain ≤ m.sum c
  treat_sum by p end = omega arith
  treat_sum by p (link h children rest) =
      let inner = treat by (place_inside p h) children in
      let b = entered p h children (is_end rest) in
      omega (
        arith,
        m.more h children rest,
        sum_append (treated b by p h children inner).chain (treat by p rest).chain,
        treated_sum h children inner (treat_sum by (place_inside p h) children) b by p,
        treat_sum by p rest,
      )
