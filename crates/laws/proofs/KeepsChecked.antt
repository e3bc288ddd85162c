-- The root stays, and so the words of what is left are checked as the words of what was found: fit, held, each record once, not too deep
-- and formed by the table of kinds are what the check asks for.
--
--   done_root, treated_root      a record of a root's kind stays
--   keeps_root, checked_again    the theorems
use Rattle.std.proofs.Common.{◌≡◌, ℕ, Bool, true, false, ◌||◌, eqb, List, [], sym, refl, ap, subst}
use Rattle.std.proofs.lemmas.Bool.{both_ways}
use Rattle.rules.specs.Tree.{Head, Chain, append}
use Rattle.rules.specs.Tree.Chain.{end, link}
use Rattle.rules.specs.Kinds.{module_root, script_root}
use Rattle.rules.specs.Words.{next, Holds}
use Rattle.rules.specs.Check.{tree_fits}
use Rattle.rules.specs.Removal.{By, Place, at_root, place_inside, entered, Verdict, verdict, Left, done, treated, treat}
use Rattle.rules.specs.Removal.Verdict.{stays, sweeps, empties, unlinks, restates, yields, unwraps}
use Rattle.rules.proofs.Sounds.{check_sound, check_complete}
use Rattle.laws.specs.KeepsTree.{KeepsRoot, CheckedAgain}
use Rattle.laws.proofs.Formed.{formed_one}
use Rattle.laws.proofs.Verdicts.{Unlinking, Means, means, emptied_other}
use Rattle.laws.proofs.Verdicts.Unlinking.{declares, specifies}
use Rattle.laws.proofs.KeepsApart.{keeps_apart}
use Rattle.laws.proofs.KeepsLevel.{keeps_level}
use Rattle.laws.proofs.KeepsFormed.{keeps_formed}

-- a root's kind
abbrev a_root : ℕ → Bool
a_root k = eqb k module_root || eqb k script_root

module _ (by : By) (p : Place) (h : Head) (is_root : a_root h.kind ≡ true) where
  -- a record of another kind is no root
  other : (k : ℕ) → a_root k ≡ false → h.kind ≡ k → ⊥
  other k e s = both_ways (a_root k) e (subst (λ (j : ℕ). a_root j ≡ true) s is_root)

  unlinked_other : Unlinking p h → ⊥
  unlinked_other (declares k x) = other _ refl k
  unlinked_other (specifies k) = other _ refl k

  done_root : (found : Chain) (inner : Left) (v : Verdict) → Means by p h found inner.chain v → (remaining : Chain) × ((done v h inner).chain ≡ link h remaining end)
  done_root found inner stays m = (inner.chain, refl)
  done_root found inner sweeps m = (_, refl)
  done_root found inner (empties names) m = absurd (emptied_other a_root refl p h found inner.chain is_root m.which)
  done_root found inner (unlinks name) m = absurd (unlinked_other m.which)
  done_root found inner restates m = absurd (other _ refl m.kind)
  done_root found inner (yields name) m = absurd (other _ refl m.kind)
  done_root found inner unwraps m = absurd (other _ refl m.kind)

  treated_root : (b : Bool) (found : Chain) (inner : Left) → (remaining : Chain) × ((treated b by p h found inner).chain ≡ link h remaining end)
  treated_root true found inner = done_root found inner (verdict by p h found inner.chain) (means by p h found inner.chain)
  treated_root false found inner = (found, refl)

pub keeps_root : KeepsRoot
keeps_root by end f = absurd (both_ways false refl f)
keeps_root by (link h children end) f =
    let inner = treat by (place_inside at_root h) children in
    let t = treated_root by at_root h (formed_one a_root [] (link h children end) f).0 (entered at_root h children true) children inner in
    record { head = h; children = children; remaining = t.0; found_is = refl; left_is = ap (λ (d : Chain). append d end) t.1 }
keeps_root by (link h children (link g under rest)) f = absurd (both_ways true (formed_one a_root [] (link h children (link g under rest)) f).1.1 refl)

-- nothing follows the one record that words hold
held_alone : (words : List ℕ) (h : Head) (children c : Chain) → c ≡ link h children end → Holds words 1 c → next words 1 ≡ 0
held_alone words h children c e s = (subst (λ (d : Chain). Holds words 1 d) e s).3

pub checked_again : CheckedAgain
checked_again by words after c e l s =
    let t = check_sound words c e in
    let r = keeps_root by c t.formed in
    let left = (treat by at_root c).chain in
    check_complete after left (record {
      fits = subst (λ (n : ℕ). tree_fits n ≡ true) (sym l) t.fits;
      holds = s;
      alone = held_alone after r.head r.remaining left r.left_is s;
      apart = keeps_apart by at_root c t.apart;
      level = keeps_level by at_root 1 c t.level;
      formed = keeps_formed by c t.formed;
    })
