-- A record occurs in what is left at most as often as in what was found, since occurrences are a measure. Each record once, and no new
-- numbers, follow.
--
--   occ                              how often a number occurs in a chain
--   occ_in, in_occ, occ_once, once_apart      occurrences, `Numbers` and `Apart`
--   treat_occ                        no number occurs more often in what is left
--   keeps_apart, keeps_numbers       the theorems
use Rattle.std.proofs.Common.{ℕ, ◌+◌, ◌<◌, ◌≤◌, cond, eqb, refl, arith}
use Rattle.std.proofs.lemmas.Bool.Decides.{nat_tests}
use Rattle.rules.specs.Tree.{Chain}
use Rattle.rules.specs.Tree.Chain.{end, link}
use Rattle.rules.specs.Held.{Numbers, Apart}
use Rattle.rules.specs.Removal.{By, Place, treat}
use Rattle.laws.specs.KeepsTree.{KeepsApart, KeepsNumbers}
use Rattle.laws.proofs.KeepsMeasure.{Measure, treat_sum}

-- 1 for the same number
abbrev one : ℕ → ℕ → ℕ
one x n = cond (eqb x n) 1 0

-- how often a number occurs
abbrev pub occ : ℕ → Chain → ℕ
occ x end = 0
occ x (link h children rest) = one x h.number + occ x children + occ x rest

occ_in : (c : Chain) (x : ℕ) → 0 < occ x c → Numbers x c
occ_in end x l = absurd (omega arith)
occ_in (link h children rest) x l = grind (arith, nat_tests, occ_in children x, occ_in rest x)

in_occ : (c : Chain) (x : ℕ) → Numbers x c → 0 < occ x c
in_occ end x i = absurd i
in_occ (link h children rest) x i = grind (arith, nat_tests, in_occ children x, in_occ rest x)

occ_once : (c : Chain) (x : ℕ) → Apart c → occ x c ≤ 1
occ_once end x a = omega arith
occ_once (link h children rest) x a =
    grind (arith, nat_tests, occ_in children h.number, occ_in rest h.number, occ_in children x, occ_in rest x, a.0, a.1, a.2 x, occ_once children x a.3, occ_once rest x a.4)

once_apart : (c : Chain) → ((x : ℕ) → occ x c ≤ 1) → Apart c
once_apart end o = tt
once_apart (link h children rest) o =
    let n = h.number in (
      λ i. grind (arith, nat_tests, o n, in_occ children n i),
      λ i. grind (arith, nat_tests, o n, in_occ rest n i),
      λ x i j. omega (arith, o x, in_occ children x i, in_occ rest x j),
      once_apart children (λ x. omega (arith, o x)),
      once_apart rest (λ x. omega (arith, o x)),
    )

-- occurrences of a number are a measure
abbrev occurring : ℕ → Measure
occurring x = record { weight = λ h. one x h.number; sum = occ x; none = refl; more = λ h children rest. refl; becomes = λ k h. refl }

treat_occ : (x : ℕ) (by : By) (p : Place) (c : Chain) → occ x (treat by p c).chain ≤ occ x c
treat_occ x by p c = treat_sum (occurring x) by p c

pub keeps_apart : KeepsApart
keeps_apart by p c a = once_apart (treat by p c).chain (λ x. omega (arith, treat_occ x by p c, occ_once c x a))

pub keeps_numbers : KeepsNumbers
keeps_numbers by p c x i = occ_in c x (omega (arith, treat_occ x by p c, in_occ (treat by p c).chain x i))
