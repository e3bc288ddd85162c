-- What stays of the item with a number: no item is an expression, so an item leaves a record of its own number or none, and what it leaves
-- is made of the item alone.
--
--   Items                    items that are no expressions, each with its own number
--   Slot                     a record with this number, or nothing
--   remains_at               what stays of an item is made of the item alone
use Rattle.std.specs.Prelude.{if◌then◌else◌}
use Rattle.std.proofs.Common.{◌≡◌, ℕ, Bool, true, false, ◌&&◌, ◌||◌, eqb, sym, refl, ap, ◌∙◌, subst}
use Rattle.std.proofs.lemmas.Bool.{eqb-true, eq-eqb, both_ways}
use Rattle.rules.specs.Tree.{Head, Chain, ◌is◌, is_end, append, unnumbered}
use Rattle.rules.specs.Tree.Chain.{end, link}
use Rattle.rules.specs.Kinds.{empty_statement, block, for_statement, call_expression, assignment, expression}
use Rattle.rules.specs.Removal.{By, Place, place_inside, entered, swept, Verdict, verdict, Left, done, treated, treat}
use Rattle.rules.specs.Removal.Verdict.{stays, sweeps, empties, unlinks, restates, yields, unwraps}
use Rattle.laws.specs.Law.{item_at}
use Rattle.laws.proofs.Verdicts.{Means, means}
use Rattle.laws.proofs.OrderRemoval.{item_left, remains, remains_link, remains_unnumbered}

-- items that are no expressions, each with its own number
abbrev pub Items : Chain → Type 0
Items end = Unit {0}
Items (link h cs rest) = (expression h.kind ≡ false) × (item_at h.number rest ≡ end) × Items rest

-- a record with this number that is no expression, or nothing
data Slot (n : ℕ) : Chain → Type 0 where
  gone : Slot n end
  there : {h : Head} {cs : Chain} → h.number ≡ n → expression h.kind ≡ false → Slot n (link h cs end)

-- an item is no Assignment and no Call
no_item : (h : Head) (k : ℕ) → expression h.kind ≡ false → h.kind ≡ k → expression k ≡ true → ⊥
no_item h k w e x = both_ways (expression k) (subst (λ (j : ℕ). expression j ≡ false) e w) x

done_slot : (by : By) (p : Place) (h : Head) (found : Chain) (inner : Left) → expression h.kind ≡ false → (v : Verdict) → Means by p h found inner.chain v
    → Slot h.number (done v h inner).chain
done_slot by p h found inner w stays m = there refl w
done_slot by p h found inner w sweeps m = there refl w
done_slot by p h found inner w (empties names) m = there refl refl
done_slot by p h found inner w (unlinks name) m = gone
done_slot by p h found inner w restates m = there refl refl
done_slot by p h found inner w (yields name) m = absurd (no_item h assignment w m.kind refl)
done_slot by p h found inner w unwraps m = absurd (no_item h call_expression w m.kind refl)

treated_slot : (into : Bool) (by : By) (p : Place) (h : Head) (found : Chain) (inner : Left) → expression h.kind ≡ false → Slot h.number (treated into by p h found inner).chain
treated_slot true by p h found inner w = done_slot by p h found inner w (verdict by p h found inner.chain) (means by p h found inner.chain)
treated_slot false by p h found inner w = there refl w

-- SLOTS

slot_if : (n : ℕ) (b : Bool) {x : Chain} → Slot n x → Slot n (if b then end else x)
slot_if n true s = gone
slot_if n false s = s

slot_swept : (n : ℕ) {x : Chain} → Slot n x → Slot n (swept x)
slot_swept n gone = gone
slot_swept n (there {h = h} {cs = cs} q w) = slot_if n (h is empty_statement || (h is block && is_end cs)) (there q w)

-- a record with this number comes first, if any is there
slot_here : (n : ℕ) {x : Chain} (r : Chain) → Slot n x → item_at n r ≡ end → item_at n (append x r) ≡ unnumbered x
slot_here n r gone z = z
slot_here n r (there {h = h} {cs = cs} q w) z = ap (λ (b : Bool). if b then unnumbered (link h cs end) else item_at n r) (eq-eqb n h.number (sym q))

slot_past : (n a : ℕ) {x : Chain} (r : Chain) → eqb a n ≡ false → Slot n x → item_at a (append x r) ≡ item_at a r
slot_past n a r z gone = refl
slot_past n a r z (there {h = h} {cs = cs} q w) = ap (λ (b : Bool). if b then unnumbered (link h cs end) else item_at a r) (ap (eqb a) q ∙ z)

append_end : (c : Chain) → append c end ≡ c
append_end end = refl
append_end (link h cs rest) = ap (link h cs) (append_end rest)

module _ (by : By) (unseen : (c : Chain) → by.config.acts (unnumbered c) ≡ by.config.acts c) (p : Place) (quiet : eqb p.parent for_statement ≡ false) where
  slot : (h : Head) (cs : Chain) → expression h.kind ≡ false → Slot h.number (swept (item_left by p h cs).chain)
  slot h cs w = slot_swept h.number (treated_slot (entered p h cs true) by p h cs (treat by (place_inside p h) cs) w)

  step_at : (a : ℕ) (h : Head) (cs rest : Chain) → expression h.kind ≡ false → item_at h.number rest ≡ end → item_at a (remains by p rest) ≡ remains by p (item_at a rest) → (b : Bool) → eqb a h.number ≡ b →
      item_at a (append (swept (item_left by p h cs).chain) (remains by p rest)) ≡ remains by p (if b then unnumbered (link h cs end) else item_at a rest)
  step_at a h cs rest w z ih true q =
      let s : a ≡ h.number = eqb-true a h.number q in
      let left = swept (item_left by p h cs).chain in
      slot_here a (remains by p rest) (subst (λ (n : ℕ). Slot n left) (sym s) (slot h cs w)) (ih ∙ ap (remains by p) (ap (λ (n : ℕ). item_at n rest) s ∙ z))
      ∙ (ap unnumbered (sym (remains_link by p quiet h cs end ∙ append_end left)) ∙ remains_unnumbered by unseen p (link h cs end))
  step_at a h cs rest w z ih false q = slot_past h.number a (remains by p rest) q (slot h cs w) ∙ ih

  -- what stays of an item is made of the item alone
  pub remains_at : (a : ℕ) (cs : Chain) → Items cs → item_at a (remains by p cs) ≡ remains by p (item_at a cs)
  remains_at a end i = refl
  remains_at a (link h cs rest) i = ap (item_at a) (remains_link by p quiet h cs rest) ∙ step_at a h cs rest i.0 i.1 (remains_at a rest i.2) (eqb a h.number) refl
