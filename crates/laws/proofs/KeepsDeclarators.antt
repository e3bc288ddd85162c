-- The Declarators of a Var. One that is treated stays, or is unlinked, and none that is exported is unlinked. One that stays although
-- its name can go has a value that acts, and so it has a value: hence a Var all of whose names can go becomes an
-- Expression statement over an expression.
--
--   declarator_left                what is left of a Declarator
--   exported_filled                of exported Declarators one is left
--   FirstKept, first_kept          the first one that is left was not to go
--   values_formed, joined_formed   the values are expressions, and they join to one
--   kept_valued, restated_formed   one that stays although its name can go has a value; what a Var becomes has its child
use Rattle.std.proofs.Common.{◌≡◌, Bool, true, false, List, [], ◌∷◌, sym, refl, subst, arith}
use mathlib.Core.Bool.{or-false}
use Rattle.std.proofs.lemmas.Bool.{eq-eqb, both_ways, and_parts, eqb-true}
use Rattle.std.proofs.lemmas.Bool.Decides.{nat_tests}
use Rattle.rules.specs.Tree.{Head, Chain, flagged, is_end, after, alone, append}
use Rattle.rules.specs.Tree.Chain.{end, link}
use Rattle.rules.specs.Kinds.{var_declaration, declarator, expression, pattern, only}
use Rattle.rules.specs.Grammar.{Way}
use Rattle.rules.specs.Grammar.Part.{one, maybe}
use Rattle.rules.specs.Held.{Formed}
use Rattle.rules.specs.Removal.{By, Place, place_inside, first_acts, has_list, entered, name_goes, all_go, declarator_goes, Verdict, verdict, values, joined, Left, done, treated, treat}
use Rattle.rules.specs.Removal.Verdict.{stays, sweeps, empties, unlinks, restates, yields, unwraps}
use Rattle.laws.proofs.Basics.{joined_both}
use Rattle.laws.proofs.Formed.{list_of, listed, list_link, formed_one, one_link, maybe_taken, binding_ways, declarator_children}
use Rattle.laws.proofs.Verdicts.{Unlinking, Restated, Means, means, emptied_other}
use Rattle.laws.proofs.Verdicts.Unlinking.{declares, specifies}
use Rattle.laws.proofs.KeepsTable.{declarators}

-- the rules enter every Declarator
declarator_entered : (p : Place) (h : Head) (children : Chain) (last : Bool) → h.kind ≡ declarator → entered p h children last ≡ true
declarator_entered p h children last k = grind (arith, nat_tests)

-- what is left of a Declarator: itself, and then it was not to go; or nothing, and then it is not exported
pub data DeclaratorLeft (by : By) (p : Place) (h : Head) (children left : Chain) : Type 0 where
  kept : left ≡ link h children end → declarator_goes by p h children ≡ false → DeclaratorLeft by p h children left
  gone : left ≡ end → p.in_export ≡ false → DeclaratorLeft by p h children left

module _ (by : By) (p : Place) (h : Head) (k : h.kind ≡ declarator) where
  unlinked_inward : Unlinking p h → p.in_export ≡ false
  unlinked_inward (declares e x) = x
  unlinked_inward (specifies e) = absurd (omega arith)

  done_declarator : (found : Chain) (inner : Left) (v : Verdict) → Means by p h found inner.chain v → DeclaratorLeft by p h inner.chain (done v h inner).chain
  done_declarator found inner stays m = kept refl m.bound
  done_declarator found inner sweeps m = absurd (both_ways (has_list h) (rw k) m)
  done_declarator found inner (empties names) m = absurd (emptied_other (only declarator) refl p h found inner.chain (eq-eqb h.kind declarator k) m.which)
  done_declarator found inner (unlinks name) m = gone refl (unlinked_inward m.which)
  done_declarator found inner restates m = absurd (omega (arith, m.kind))
  done_declarator found inner (yields name) m = absurd (omega (arith, m.kind))
  done_declarator found inner unwraps m = absurd (omega (arith, m.kind))

  declarator_left : (found : Chain) (last : Bool) (inner : Left) →
      DeclaratorLeft by p h inner.chain (treated (entered p h found last) by p h found inner).chain
  declarator_left found last inner =
      subst (λ (b : Bool). DeclaratorLeft by p h inner.chain (treated b by p h found inner).chain) (sym (declarator_entered p h found last k))
      (done_declarator found inner (verdict by p h found inner.chain) (means by p h found inner.chain))

-- of exported Declarators one is left
pub exported_filled : (by : By) (p : Place) → p.in_export ≡ true → (c : Chain) → Formed declarators c → is_end c ≡ false → is_end (treat by p c).chain ≡ false
exported_filled by p x end f e = absurd (both_ways true e refl)
exported_filled by p x (link h children rest) f e =
    let k = eqb-true h.kind declarator (listed (only declarator) h children rest f).0 in
    let inner = treat by (place_inside p h) children in
    let onward = (treat by p rest).chain in
    elim (declarator_left by p h k children (is_end rest) inner) [
      | kept left bound ↦ rw left
      | gone left inward ↦ absurd (both_ways p.in_export inward x)
    ]

-- the first record is a Declarator that was not to go
abbrev pub FirstKept : By → Place → Chain → Type 0
FirstKept by p end = Unit {0}
FirstKept by p (link d parts rest) = (d.kind ≡ declarator) × (declarator_goes by p d parts ≡ false)

pub first_kept : (by : By) (p : Place) (c : Chain) → Formed declarators c → FirstKept by p (treat by p c).chain
first_kept by p end f = tt
first_kept by p (link h children rest) f =
    let l = listed (only declarator) h children rest f in
    let k = eqb-true h.kind declarator l.0 in
    let inner = treat by (place_inside p h) children in
    let onward = (treat by p rest).chain in
    let i = first_kept by p rest l.1 in
    elim (declarator_left by p h k children (is_end rest) inner) [
      | kept left bound ↦ rw left (k, bound)
      | gone left inward ↦ rw left i
    ]

-- the value of a Declarator, before other expressions
value_formed : (parts others : Chain) → Formed binding_ways parts → Formed (list_of expression) others → Formed (list_of expression) (append (alone (after parts)) others)
value_formed end others f g = g
value_formed (link t under end) others f g = g
value_formed (link t under (link v inside rest)) others f g =
    let p = (formed_one pattern (maybe expression ∷ []) (link t under (link v inside rest)) f).1 in
    list_link expression v inside others (maybe_taken expression v.kind p.1) p.0 p.2 g

values_formed : (c : Chain) → Formed declarators c → Formed (list_of expression) (values c)
values_formed end f = refl
values_formed (link d parts rest) f =
    let l = listed (only declarator) d parts rest f in
    value_formed parts (values rest)
    (subst (λ (w : List Way). Formed w parts) (declarator_children d (eqb-true d.kind declarator l.0)) f.2) (values_formed rest l.1)

-- one expression alone
single_formed : (c : Chain) → is_end c ≡ false → is_end (after c) ≡ true → Formed (list_of expression) c → Formed ((one expression ∷ []) ∷ []) c
single_formed end e last f = absurd (both_ways true e refl)
single_formed (link v inside end) e last f = one_link expression [] v inside end (listed expression v inside end f).0 f.0 f.2 refl
single_formed (link v inside (link h children rest)) e last f = absurd (both_ways false refl last)

append_filled : (c d : Chain) → is_end c ≡ false → is_end (append (alone c) d) ≡ false
append_filled end d e = absurd (both_ways true e refl)
append_filled (link h children rest) d e = refl

-- values join to one expression, if the first Declarator has one
joined_formed : (d : Head) (parts rest : Chain) → is_end (after parts) ≡ false → Formed declarators (link d parts rest) →
    Formed ((one expression ∷ []) ∷ []) (joined (link d parts rest))
joined_formed d parts rest e f =
    let all = values (link d parts rest) in
    let g = values_formed (link d parts rest) f in
    joined_both (λ (c : Chain). Formed ((one expression ∷ []) ∷ []) c) d parts rest
    (λ last. single_formed all (append_filled (after parts) (values rest) e) last g) (refl, refl, g, refl)

-- what acts is there
acts_filled : (by : By) (c : Chain) → first_acts by c ≡ true → is_end c ≡ false
acts_filled by end e = absurd (both_ways false refl e)
acts_filled by (link h children rest) e = refl

-- in a Var that is not exported, a Declarator's name can go by its own place as by the Var's
name_inside : (by : By) (p : Place) (h : Head) (parts : Chain) → h.kind ≡ var_declaration →
    name_goes by (place_inside p h) (place_inside p h).in_var parts ≡ name_goes by p (flagged h) parts
name_inside by p h parts k = rw (k, or-false p.in_fn, or-false p.in_block_stmt)

-- the Declarators of an exported Var are exported, and no others
pub var_inside : (p : Place) (h : Head) → h.kind ≡ var_declaration → (place_inside p h).in_export ≡ p.in_export
var_inside p h k = grind (arith, nat_tests)

-- a Declarator that stays although its name can go has a value
kept_valued : (by : By) (p : Place) (h d : Head) (parts : Chain) → h.kind ≡ var_declaration → p.in_export ≡ false → d.kind ≡ declarator →
    declarator_goes by (place_inside p h) d parts ≡ false → name_goes by p (flagged h) parts ≡ true → is_end (after parts) ≡ false
kept_valued by p h d parts k x kd stayed goes =
    grind (arith, nat_tests, acts_filled by (after parts), name_inside by p h parts k, var_inside p h k)

-- what a Var becomes has its child
pub restated_formed : (by : By) (p : Place) (h : Head) (c : Chain) → Restated by p h c → FirstKept by (place_inside p h) c → Formed declarators c →
    Formed ((one expression ∷ []) ∷ []) (joined c)
restated_formed by p h end m first f = absurd (both_ways true m.filled refl)
restated_formed by p h (link d parts rest) m first f =
    joined_formed d parts rest
    (kept_valued by p h d parts m.kind m.inward first.0 first.1 (and_parts (name_goes by p (flagged h) parts) (all_go by p (flagged h) rest) m.go).0) f
