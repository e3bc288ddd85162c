-- How many records are left to reach. A chain with each record once adds each of its records to those reached,
-- and every record added leaves one fewer free: so a chain that the words hold has no more records than they have room for.
--
--   unless, unless_most, unless_mono               1 where a test fails
--   free, free_most, free_mono, free_cons          how many of the first records are not in a list
--   visited, visited_keeps, first_reached, visited_has, visited_from      the records reached after a chain
--   Fresh, fresh_children, fresh_rest              no record of the chain was reached before
--   stands_within, stands_positive                 a record that stands has a number in range
--   size_most                                      the bound
use Rattle.std.proofs.Common.{◌≡◌, ℕ, zero, suc, ◌+◌, ◌≤◌, Bool, true, false, eqb, ◌⊎◌, List, [], ◌∷◌, refl, ap, inl, inr, arith}
use Rattle.std.proofs.lemmas.Bool.{eq-eqb, or_right, or_left}
use Rattle.std.proofs.lemmas.Bool.Decides.{nat_tests}
use Rattle.rules.specs.Tree.{Head, Chain, reached}
use Rattle.rules.specs.Tree.Chain.{end, link}
use Rattle.rules.specs.Kinds.{member}
use Rattle.rules.specs.Words.{records, stands, first_child, next, Holds}
use Rattle.rules.specs.Held.{Numbers, Apart}

-- 1 where a test fails
abbrev pub unless : Bool → ℕ
unless true = 0
unless false = 1

-- how many of 1 to k are not in the list
abbrev pub free : ℕ → List ℕ → ℕ
free zero r = 0
free (suc k) r = unless (member (suc k) r) + free k r

pub unless_most : (b : Bool) → unless b ≤ 1
unless_most b = grind arith

pub unless_mono : (a b : Bool) → (a ≡ true → b ≡ true) → unless b ≤ unless a
unless_mono a b h = grind arith

pub free_most : (k : ℕ) (r : List ℕ) → free k r ≤ k
free_most zero r = omega arith
free_most (suc k) r = omega (arith, free_most k r, unless_most (member (suc k) r))

pub free_mono : (k : ℕ) (r s : List ℕ) → ((j : ℕ) → member j r ≡ true → member j s ≡ true) → free k s ≤ free k r
free_mono zero r s h = omega arith
free_mono (suc k) r s h = omega (arith, free_mono k r s h, unless_mono (member (suc k) r) (member (suc k) s) (h (suc k)))

pub free_cons : (k n : ℕ) (r : List ℕ) → 1 ≤ n → n ≤ k → member n r ≡ false → suc (free k (n ∷ r)) ≤ free k r
free_cons zero n r l h m = absurd (omega arith)
free_cons (suc k) n r l h m = grind (arith, nat_tests, free_cons k n r l, free_mono k r (n ∷ r) (λ j q. or_right (eqb j n) (member j r) q))

-- the records reached after a chain: each before its children, and these before what follows
abbrev pub visited : Chain → List ℕ → List ℕ
visited end before = before
visited (link h children rest) before = visited rest (visited children (h.number ∷ before))

pub visited_keeps : (c : Chain) (before : List ℕ) (x : ℕ) → member x before ≡ true → member x (visited c before) ≡ true
visited_keeps end before x m = m
visited_keeps (link h children rest) before x m =
    visited_keeps rest (visited children (h.number ∷ before)) x
    (visited_keeps children (h.number ∷ before) x (or_right (eqb x h.number) (member x before) m))

-- the record that a chain begins with is reached
pub first_reached : (n x : ℕ) (before : List ℕ) → x ≡ n → member x (n ∷ before) ≡ true
first_reached n x before e = or_left (eqb x n) (member x before) (eq-eqb x n e)

pub visited_has : (c : Chain) (before : List ℕ) (x : ℕ) → Numbers x c → member x (visited c before) ≡ true
visited_has end before x i = absurd i
visited_has (link h children rest) before x i =
    let after = visited children (h.number ∷ before) in
    grind (arith, nat_tests, visited_keeps rest after x, visited_keeps children (h.number ∷ before) x, visited_has children (h.number ∷ before) x, visited_has rest after x)

pub visited_from : (c : Chain) (before : List ℕ) (x : ℕ) → member x (visited c before) ≡ true → Numbers x c ⊎ (member x before ≡ true)
visited_from end before x m = inr m
visited_from (link h children rest) before x m =
    grind (arith, nat_tests, visited_from rest (visited children (h.number ∷ before)) x m, visited_from children (h.number ∷ before) x)

-- no record of the chain was reached before
abbrev pub Fresh : Chain → List ℕ → Type 0
Fresh c before = (x : ℕ) → Numbers x c → member x before ≡ false

pub fresh_children : (h : Head) (children rest : Chain) (before : List ℕ) → Apart (link h children rest) → Fresh (link h children rest) before →
    Fresh children (h.number ∷ before)
fresh_children h children rest before apart fresh x i = grind (arith, nat_tests, fresh x)

pub fresh_rest : (h : Head) (children rest : Chain) (before : List ℕ) → Apart (link h children rest) → Fresh (link h children rest) before →
    Fresh rest (visited children (h.number ∷ before))
fresh_rest h children rest before apart fresh x j =
    grind (arith, nat_tests, visited_from children (h.number ∷ before) x, apart.2 x, apart.1, fresh x)

pub stands_positive : (words : List ℕ) (n : ℕ) → stands words n ≡ true → 1 ≤ n
stands_positive words n s = grind (arith, nat_tests)

pub stands_within : (words : List ℕ) (n : ℕ) → stands words n ≡ true → n ≤ records words
stands_within words n s = grind (arith, nat_tests)

-- a chain takes as many free records as it has
uses : (c : Chain) (words : List ℕ) (n : ℕ) (before : List ℕ) → Holds words n c → Apart c → Fresh c before →
    reached c + free (records words) (visited c before) ≤ free (records words) before
uses end words n before holds apart fresh = omega arith
uses (link h children rest) words n before holds apart fresh =
    let e : h.number ≡ n = ap (λ (g : Head). g.number) holds.1 in
    let low : 1 ≤ n = stands_positive words n holds.0 in
    let high : n ≤ records words = stands_within words n holds.0 in
    omega (
      arith,
      free_cons (records words) h.number before (omega arith) (omega arith) (fresh h.number (inl refl)),
      uses children words (first_child words n) (h.number ∷ before) holds.2 apart.3 (fresh_children h children rest before apart fresh),
      uses rest words (next words n) (visited children (h.number ∷ before)) holds.3 apart.4 (fresh_rest h children rest before apart fresh),
    )

pub size_most : (words : List ℕ) (n : ℕ) (c : Chain) → Holds words n c → Apart c → reached c ≤ records words
size_most words n c holds apart =
    omega (arith, uses c words n [] holds apart (λ x i. refl), free_most (records words) [])
