-- The number of records is a measure, so that no more are reached; and each removal loses one. Only a declaration that becomes Empty
-- without a child would lose none: the table of kinds gives each Fn, Class and Var a child.
--
--   reached_restated                       a Var that becomes an Expression statement loses its names
--   emptied_filled                         what becomes Empty has a child
--   fewer_reached                          no more are left
--   done_lost, lost_reached                fewer are left where something was removed: one record; a chain
use Rattle.std.proofs.Common.{◌≡◌, ◌+◌, ◌<◌, ◌≤◌, Bool, true, false, refl, ⊎_elim, arith}
use Rattle.std.proofs.lemmas.Bool.{both_ways, or_cases}
use Rattle.rules.specs.Tree.{Head, Chain, flagged, is_end, after, first_is, alone, reached}
use Rattle.rules.specs.Tree.Chain.{end, link}
use Rattle.rules.specs.Kinds.{name_pattern}
use Rattle.rules.specs.Grammar.{children_of, step, may_end}
use Rattle.rules.specs.Held.{Formed}
use Rattle.rules.specs.Removal.{By, Place, place_inside, entered, all_go, wrapped_object, Verdict, verdict, values, joined, Left, done, treated, treat}
use Rattle.rules.specs.Removal.Verdict.{stays, sweeps, empties, unlinks, restates, yields, unwraps}
use Rattle.laws.specs.KeepsTree.{FewerReached, LostReached}
use Rattle.laws.proofs.Verdicts.{Emptying, Means, means}
use Rattle.laws.proofs.Verdicts.Emptying.{fn, class, imports, var}
use Rattle.laws.proofs.KeepsMeasure.{Measure, sum_append, sum_alone, sum_after, sum_swept, sum_values, sum_wrapped, treated_sum, treat_sum}
use Rattle.laws.proofs.KeepsWays.{formed_filled}

-- the number of records is a measure
abbrev records : Measure
records = record { weight = λ h. 1; sum = reached; none = refl; more = λ h children rest. refl; becomes = λ k h. refl }

filled_reached : (c : Chain) → is_end c ≡ false → 1 ≤ reached c
filled_reached end e = absurd (both_ways true e refl)
filled_reached (link h children rest) e = omega arith

named_reached : (c : Chain) → first_is name_pattern c ≡ true → reached (after c) < reached c
named_reached end e = absurd (both_ways false refl e)
named_reached (link h children rest) e = omega arith

-- the names are lost: one at least
reached_restated : (by : By) (p : Place) (is_var : Bool) (c : Chain) → is_end c ≡ false → all_go by p is_var c ≡ true → reached (joined c) < reached c
reached_restated by p is_var end e g = absurd (both_ways true e refl)
reached_restated by p is_var (link d parts rest) e g =
    let all = values (link d parts rest) in
    let name : first_is name_pattern parts ≡ true = grind arith in
    let fewer : reached all < reached parts + reached rest
    = omega (arith, sum_append records (alone (after parts)) (values rest), sum_alone records (after parts), named_reached parts name, sum_values records rest) in
    grind (arith, fewer)

children_filled : (h : Head) (c : Chain) → may_end (children_of h) ≡ false → Formed (children_of h) c → 1 ≤ reached c
children_filled h c e f = filled_reached c (formed_filled (children_of h) c e f)

-- a record that becomes Empty has a child
emptied_filled : (p : Place) (h : Head) (found children : Chain) → Formed (children_of h) found → Emptying p h found children → 1 ≤ reached found
emptied_filled p h found children f (fn k x) = children_filled h found (rw k) f
emptied_filled p h found children f (class k x) = children_filled h found (rw k) f
emptied_filled p h found children f (imports k x) = filled_reached found x
emptied_filled p h found children f (var k x) = children_filled h found (rw k) f

pub fewer_reached : FewerReached
fewer_reached by p c = treat_sum records by p c

-- fewer are left where something was removed, in a chain formed by the table
module _ (by : By) (p : Place) (h : Head) (children : Chain) (formed : Formed (children_of h) children) (inner : Left)
    (fewer : reached inner.chain ≤ reached children) (lost : inner.changed ≡ true → reached inner.chain < reached children) where
  done_lost : (v : Verdict) → Means by p h children inner.chain v → (done v h inner).changed ≡ true →
      reached (done v h inner).chain < 1 + reached children
  done_lost stays m g = omega (arith, lost g)
  done_lost sweeps m g = omega (arith, lost g, sum_swept records inner.chain)
  done_lost (empties names) m g = omega (arith, emptied_filled p h children inner.chain formed m.which)
  done_lost (unlinks name) m g = omega arith
  done_lost restates m g = omega (arith, reached_restated by p (flagged h) inner.chain m.filled m.go)
  done_lost (yields name) m g = omega (arith, sum_alone records (after inner.chain), sum_after records inner.chain)
  done_lost unwraps m g = omega (arith, sum_alone records (wrapped_object inner.chain), sum_wrapped records inner.chain)

  treated_lost : (b : Bool) → (treated b by p h children inner).changed ≡ true → reached (treated b by p h children inner).chain < 1 + reached children
  treated_lost true g = done_lost (verdict by p h children inner.chain) (means by p h children inner.chain) g
  treated_lost false g = absurd (both_ways false refl g)

pub lost_reached : LostReached
lost_reached by p ways end f g = absurd (both_ways false refl g)
lost_reached by p ways (link h children rest) f g =
    let q = place_inside p h in
    let inner = treat by q children in
    let onward = treat by p rest in
    let b = entered p h children (is_end rest) in
    let here = treated b by p h children inner in
    let fewer = fewer_reached by q children in
    let e = sum_append records here.chain onward.chain in
    ⊎_elim
    (λ x. omega (arith, e, fewer_reached by p rest, treated_lost by p h children f.2 inner fewer (lost_reached by q (children_of h) children f.2) b x))
    (λ x. omega (arith, e, treated_sum records h children inner fewer b by p, lost_reached by p (step h.kind ways) rest f.3 x))
    (or_cases here.changed onward.changed g)
