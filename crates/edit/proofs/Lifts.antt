-- A record that gives way. The slot links past it, or to a record below it whose own next is then what followed the first.
use Rattle.std.proofs.Common.{◌≡◌, ℕ, ◌+◌, ◌-◌, ◌*◌, ◌/◌, ◌≤◌, true, false, List, length, get_or, set, sym, refl, ap, ◌∙◌, subst, inl, inr, arith, length-set, get_or-set_other, get_or-set_same}
use Rattle.std.proofs.lemmas.Bool.{cond-true, true≢false}
use Rattle.rules.specs.Tree.{Head, Chain, is_end, below, after}
use Rattle.rules.specs.Tree.Chain.{end, link}
use Rattle.rules.specs.Kinds.{within}
use Rattle.rules.specs.Words.{word, records, first_child, Holds}
use Rattle.rules.specs.Held.{Numbers, Apart}
use Rattle.records.specs.Writes.{with_word}
use Rattle.edit.specs.Slots.{owner, next_slot, Linked, Part, Made, Lift, Step}
use Rattle.edit.proofs.Frames.{number_is, number_positive, number_within, stands_there, stands_same, head_same, owns_next, frame, frame_set}
use Rattle.edit.proofs.Moves.{part_onto}

-- a write to a record that is there
pub written : (w : List ℕ) (n i x : ℕ) → within 1 (records w) n ≡ true → with_word w n i x ≡ set w (6 * (n - 1) + i) x
written w n i x t = cond-true (within 1 (records w) n) (set w (6 * (n - 1) + i) x) w t

-- what follows the slot's record, from a link that leads to it
pub dropped : (w : List ℕ) (i y : ℕ) (h : Head) (ch rest : Chain) → Linked w i (link h ch rest) → Holds w y rest →
    Made w (set w i y) i (link h ch rest) rest
dropped w i y h ch rest at held = record {
  long = length-set w i y;
  holds = subst (λ (m : ℕ). Holds (set w i y) m rest) (sym (get_or-set_same w i y 0 at.room))
      (frame_set rest w y i y (λ k. at.free (inr (inr k))) held);
  part = record { apart = at.apart.4; numbers = λ x k. inr (inr k) };
  others = λ j ne out. get_or-set_other w i j y 0 ne;
}

-- the record v below the slot's takes its place and what follows it
pub lifted : (w : List ℕ) (i v y : ℕ) (h : Head) (ch rest : Chain) (g : Head) (cg rg : Chain) → Linked w i (link h ch rest) →
    Holds w v (link g cg rg) → Part (link g cg rg) ch → Holds w y rest →
    Made w (set (set w i v) (next_slot v) y) i (link h ch rest) (link g cg rest)
lifted w i v y h ch rest g cg rg at held part follows =
    let w1 : List ℕ = set w i v in
    let o : ℕ = next_slot v in
    let u : List ℕ = set w1 o y in
    let low : 1 ≤ v = number_positive w v g cg rg held in
    let most : 6 * v ≤ length w = number_within w v g cg rg held in
    let e : g.number ≡ v = number_is w v g cg rg held in
    let owns : owner o ≡ g.number = owns_next v low ∙ sym e in
    let l1 : length w1 ≡ length w = length-set w i v in
    let long : length u ≡ length w = length-set w1 o y ∙ l1 in
    let up : (x : ℕ) → Numbers x (link g cg rg) → Numbers x ch = part.numbers in
    let slot : i ≡ o → ⊥ = λ z. at.free (inr (inl (up (owner i) (inl (ap owner z ∙ owns))))) in
    let other : (j : ℕ) → (j ≡ i → ⊥) → (j ≡ o → ⊥) → get_or u j 0 ≡ get_or w j 0
    = λ j ne nf. get_or-set_other w1 o j y 0 nf ∙ get_or-set_other w i j v 0 ne in
    let own : (j : ℕ) → owner j ≡ v → (j ≡ o → ⊥) → get_or u j 0 ≡ get_or w j 0
    = λ j q nf. other j (λ z. at.free (inr (inl (up (owner i) (inl (ap owner (sym z) ∙ q ∙ sym e)))))) nf in
    let w0 : word u v 0 ≡ word w v 0 = own (6 * (v - 1) + 0) (omega arith) (λ z. omega arith) in
    let wa : word u v 1 ≡ word w v 1 = own (6 * (v - 1) + 1) (omega arith) (λ z. omega arith) in
    let wb : word u v 2 ≡ word w v 2 = own (6 * (v - 1) + 2) (omega arith) (λ z. omega arith) in
    let wc : word u v 3 ≡ word w v 3 = own (6 * (v - 1) + 3) (omega arith) (λ z. omega arith) in
    let wd : word u v 4 ≡ word w v 4 = own (6 * (v - 1) + 4) (omega arith) (λ z. omega arith) in
    let we : word u v 5 ≡ y = get_or-set_same w1 o y 0 (omega arith) in
    let links : get_or u i 0 ≡ v = get_or-set_other w1 o i y 0 slot ∙ get_or-set_same w i v 0 at.room in
    let made : Holds u v (link g cg rest) = (
      stands_same w u v long w0 held.0,
      held.1 ∙ head_same w u v w0 wa wb wc,
      subst (λ (m : ℕ). Holds u m cg) (sym wd)
          (frame cg w u (first_child w v) long
          (λ j inside. other j
          (λ z. at.free (inr (inl (up (owner i) (inr (inl (subst (λ (k : ℕ). Numbers (owner k) cg) z inside)))))))
          (λ z. part.apart.0 (subst (λ (k : ℕ). Numbers k cg) (ap owner z ∙ owns) inside)))
          held.2),
      subst (λ (m : ℕ). Holds u m rest) (sym we)
          (frame rest w u y long
          (λ j inside. other j
          (λ z. at.free (inr (inr (subst (λ (k : ℕ). Numbers (owner k) rest) z inside))))
          (λ z. at.apart.2 (owner j) (up (owner j) (inl (ap owner z ∙ owns))) inside))
          follows),
    ) in
    record {
      long = long;
      holds = subst (λ (m : ℕ). Holds u m (link g cg rest)) (sym links) made;
      part = part_onto h ch rest (link g cg rg) at.apart part;
      others = λ j ne out. other j ne (λ z. out (inr (inl (up (owner j) (inl (ap owner z ∙ owns))))));
    }

module _ (w : List ℕ) (i v y : ℕ) where
  pub lift_none : (c p : Chain) → Holds w y (after c) → v ≡ 0 → Lift w i v c p → Step w (set w i y) i c p i
  lift_none end p follows z h = absurd (true≢false h.some)
  lift_none (link h ch rest) end follows z l = record { made = dropped w i y h ch rest l.at follows; next = refl }
  lift_none (link h ch rest) (link g cg rg) follows z l = absurd (omega (arith, number_positive w v g cg rg l.holds))

  pub lift_some : (u : List ℕ) (r : ℕ) (c p : Chain) → u ≡ with_word (set w i v) v 5 y → r ≡ next_slot v → Holds w y (after c) → (v ≡ 0 → ⊥) → Lift w i v c p →
      Step w u i c p r
  lift_some u r end p eu er follows ne h = absurd (true≢false h.some)
  lift_some u r (link h ch rest) end eu er follows ne l = absurd (ne l.holds)
  lift_some u r (link h ch rest) (link g cg rg) eu er follows ne l =
      let there : within 1 (records (set w i v)) v ≡ true
      = subst (λ (m : ℕ). within 1 (m / 6) v ≡ true) (sym (length-set w i v)) (stands_there w v l.holds.0) in
      record {
        made = subst (λ (u : List ℕ). Made w u i (link h ch rest) (link g cg rest)) (sym (eu ∙ written (set w i v) v 5 y there))
            (lifted w i v y h ch rest g cg rg l.at l.holds l.part follows);
        next = er ∙ ap next_slot (sym (number_is w v g cg rg l.holds));
      }

-- nothing below a record
pub lift_nothing : (w : List ℕ) (i : ℕ) (c : Chain) → Linked w i c → is_end c ≡ false → Lift w i 0 c end
lift_nothing w i c at some = record { at = at; some = some; holds = refl; part = record { apart = tt; numbers = λ x k. absurd k } }

part_after : (c : Chain) → Apart c → Part (after c) c
part_after end a = record { apart = tt; numbers = λ x k. k }
part_after (link h ch rest) a = record { apart = a.4; numbers = λ x k. inr (inr k) }

apart_below : (c : Chain) → Apart c → Apart (below c)
apart_below end a = tt
apart_below (link h ch rest) a = a.3

-- the second child
pub lift_second : (w : List ℕ) (i v : ℕ) (c : Chain) → Linked w i c → is_end c ≡ false → Holds w v (after (below c)) → Lift w i v c (after (below c))
lift_second w i v c at some held = record { at = at; some = some; holds = held; part = part_after (below c) (apart_below c at.apart) }
