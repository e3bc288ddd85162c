-- What each verdict does: a record that stays, changed or not, is followed at its own slot; one that gives way is lifted.
use Rattle.std.proofs.Common.{◌≡◌, ℕ, List, get_or, sym, refl, ap, ◌∙◌, inl, inr}
use Rattle.rules.specs.Tree.{Head, Chain, below, after}
use Rattle.rules.specs.Tree.Chain.{end, link}
use Rattle.rules.specs.Words.{Holds}
use Rattle.rules.specs.Held.{Apart}
use Rattle.rules.specs.Removal.{wrapped_object}
use Rattle.edit.specs.Slots.{next_slot, Linked, Part, Made, Lift, Step}
use Rattle.edit.proofs.Moves.{number_at}
use Rattle.edit.proofs.Lifts.{lift_nothing, lift_second}

part_below : (c : Chain) → Apart c → Part (below c) c
part_below end a = record { apart = tt; numbers = λ x k. k }
part_below (link h ch rest) a = record { apart = a.3; numbers = λ x k. inr (inl k) }

part_then : (a b c : Chain) → Part a b → Part b c → Part a c
part_then a b c p q = record { apart = p.apart; numbers = λ x k. q.numbers x (p.numbers x k) }

part_wrapped : (c : Chain) → Apart c → Part (wrapped_object c) c
part_wrapped c a =
    let p1 = part_below c a in
    let p2 = part_below (below c) p1.apart in
    let p3 = part_below (below (below c)) p2.apart in
    let p4 = part_below (below (below (below c))) p3.apart in
    part_then (wrapped_object c) (below (below (below c))) c p4
    (part_then (below (below (below c))) (below (below c)) c p3 (part_then (below (below c)) (below c) c p2 p1))

module _ (w : List ℕ) (i : ℕ) (h : Head) (ch rest : Chain) (at : Linked w i (link h ch rest)) where
  pub to_nothing : Lift w i 0 (link h ch rest) end
  to_nothing = lift_nothing w i (link h ch rest) at refl

  pub to_value : (v : ℕ) → Holds w v (after ch) → Lift w i v (link h ch rest) (after ch)
  to_value v held = lift_second w i v (link h ch rest) at refl held

  pub to_object : (v : ℕ) → Holds w v (wrapped_object ch) → Lift w i v (link h ch rest) (wrapped_object ch)
  to_object v held = record { at = at; some = refl; holds = held; part = part_wrapped ch at.apart.3 }

  -- a record with the same number, and the slot after it
  pub stays_at : (v : List ℕ) (r : ℕ) (g : Head) (d : Chain) → g.number ≡ h.number → r ≡ next_slot (get_or w i 0) →
      Made w v i (link h ch rest) (link g d rest) → Step w v i (link h ch rest) (link g d end) r
  stays_at v r g d e is made = record { made = made; next = is ∙ ap next_slot (sym (number_at w i h ch rest at) ∙ sym e) }
