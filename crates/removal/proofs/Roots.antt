-- The root has no slot of its own: its children are a list, treated and swept, which is what the rules do with a root. What then hangs
-- at the root is what the book leaves.
--
--   root_list                          a root has a list
--   under_root                         the chain of its children
--   entered_root, passed_root          what is left of a root that the rules enter, and of one that they do not
use Rattle.std.proofs.Common.{◌≡◌, ℕ, Bool, true, false, ◌||◌, eqb, List, [], get_or, sym, refl, ap, ◌∙◌, subst, inl, inr, ⊎_elim, arith}
use Rattle.std.proofs.Math.Bool.{or-false, or-true}
use Rattle.std.proofs.lemmas.Bool.{both_ways, or_cases}
use Rattle.rules.specs.Tree.{Head, Chain, below, append}
use Rattle.rules.specs.Tree.Chain.{end, link}
use Rattle.rules.specs.Kinds.{module_root, script_root, block}
use Rattle.rules.specs.Refusals.Outcome.{fine}
use Rattle.rules.specs.Words.{word, Holds, tree_of, Whole}
use Rattle.rules.specs.Check.{check, most_nesting}
use Rattle.rules.specs.Held.{Numbers, Tree}
use Rattle.rules.specs.Removal.{By, Place, Left, has_list, at_root, entered, place_inside, swept, verdict, done, treated, treat}
use Rattle.rules.specs.Removal as book
use Rattle.rules.specs.Removal.Verdict.{sweeps}
use Rattle.rules.proofs.Sounds.{check_sound}
use Rattle.rules.proofs.Reading.{tree_is_read, tree_depth}
use Rattle.laws.proofs.Formed.{formed_one}
use Rattle.laws.proofs.KeepsChecked.{checked_again}
use Rattle.edit.specs.Slots.{owner, first_slot, Linked, Made}
use Rattle.edit.proofs.Frames.{number_is, number_within, stands_same, head_same}
use Rattle.shaker.specs.Treating.{entered_first, place_below, Nested}
use Rattle.removal.proofs.Treats.{list_sweeps, treats}

-- a root's kind
abbrev a_root : ℕ → Bool
a_root k = eqb k module_root || eqb k script_root

pub whole_root : (w : List ℕ) → check w ≡ fine (tree_of w 1) → Whole w 1
whole_root w e = (tree_is_read w (tree_of w 1) e).1

root_list : (h : Head) → a_root h.kind ≡ true → has_list h ≡ true
root_list h is = ⊎_elim
    (λ (e : eqb h.kind module_root ≡ true). ap (λ (b : Bool). b || (eqb h.kind script_root || eqb h.kind block)) e)
    (λ (e : eqb h.kind script_root ≡ true). ap (λ (b : Bool). eqb h.kind module_root || (b || eqb h.kind block)) e ∙ or-true (eqb h.kind module_root))
    (or_cases (eqb h.kind module_root) (eqb h.kind script_root) is)

module _ (w : List ℕ) (h : Head) (ch : Chain) (t : Tree w (link h ch end)) where
  root_number : h.number ≡ 1
  root_number = number_is w 1 h ch end t.holds

  root_child : Linked w (first_slot 1) ch
  root_child = record {
    room = omega (arith, number_within w 1 h ch end t.holds);
    holds = t.holds.2;
    apart = t.apart.3;
    free = λ k. t.apart.0 (subst (λ (x : ℕ). Numbers x ch) (sym root_number) k);
  }

  root_made : (v : List ℕ) (d : Chain) → Made w v (first_slot 1) ch d → Holds v 1 (link h d end)
  root_made v d r =
      let own : (j : ℕ) → owner j ≡ 1 → (j ≡ first_slot 1 → ⊥) → get_or v j 0 ≡ get_or w j 0
      = λ j o ne. r.others j ne (λ k. t.apart.0 (subst (λ (x : ℕ). Numbers x ch) (o ∙ sym root_number) k)) in
      let w0 : word v 1 0 ≡ word w 1 0 = own 0 refl (λ z. omega arith) in
      let w1 : word v 1 1 ≡ word w 1 1 = own 1 refl (λ z. omega arith) in
      let w2 : word v 1 2 ≡ word w 1 2 = own 2 refl (λ z. omega arith) in
      let w3 : word v 1 3 ≡ word w 1 3 = own 3 refl (λ z. omega arith) in
      let w5 : word v 1 5 ≡ word w 1 5 = own 5 refl (λ z. omega arith) in (
        stands_same w v 1 r.long w0 t.holds.0,
        t.holds.1 ∙ head_same w v 1 w0 w1 w2 w3,
        r.holds,
        w5 ∙ t.alone,
      )

  root_others : (v : List ℕ) (d : Chain) → Made w v (first_slot 1) ch d →
      (j : ℕ) → (Numbers (owner j) (link h ch end) → ⊥) → get_or v j 0 ≡ get_or w j 0
  root_others v d r j out = r.others j (λ z. out (inl (ap owner z ∙ sym root_number))) (λ k. out (inr (inl k)))

-- what the words hold at last, and whether something was removed
pub record LeftAtRoot (by : By) (w v : List ℕ) (c : Chain) (changed : Bool) : Type 0 where
  pub tree : check v ≡ fine (treat by at_root c).chain
  pub flag : changed ≡ (treat by at_root c).changed
  pub others : (j : ℕ) → (Numbers (owner j) c → ⊥) → get_or v j 0 ≡ get_or w j 0

module _ (w : List ℕ) where
  -- the chain of its children
  pub under_root : (c : Chain) (s : ℕ) → s ≡ first_slot 1 → check w ≡ fine c → Nested w s most_nesting (below c)
  under_root end s es e = absurd (both_ways false refl (check_sound w end e).formed)
  under_root (link h ch end) s es e =
      let t = check_sound w (link h ch end) e in
      record { at = subst (λ (j : ℕ). Linked w j ch) (sym es) (root_child w h ch t); deep = omega (arith, tree_depth w (link h ch end) t) }
  under_root (link h ch (link g under rest)) s es e =
      absurd (both_ways true (formed_one a_root [] (link h ch (link g under rest)) (check_sound w (link h ch (link g under rest)) e).formed).1.1 refl)

  module _ (by : By) (q : Place) (is_root : q ≡ at_root) where
    -- a root that the rules enter
    pub entered_root : (c k : Chain) → k ≡ c → (v : List ℕ) (s : ℕ) (z : Place) (a : Bool) → s ≡ first_slot 1 → check w ≡ fine c →
        true ≡ entered_first q k → z ≡ place_below q k → Made w v s (below c) (swept (treats by z (below c))) → a ≡ (treat by z (below c)).changed →
        LeftAtRoot by w v c a
    entered_root end k is v s z a es e en ez m ea = absurd (both_ways false refl (check_sound w end e).formed)
    entered_root (link h ch (link g under rest)) k is v s z a es e en ez m ea =
        absurd (both_ways true (formed_one a_root [] (link h ch (link g under rest)) (check_sound w (link h ch (link g under rest)) e).formed).1.1 refl)
    entered_root (link h ch end) k is v s z a es e en ez m ea =
        let t = check_sound w (link h ch end) e in
        let inner : Left = treat by (place_inside at_root h) ch in
        let is_z : z ≡ place_inside at_root h = ez ∙ ap (place_below q) is ∙ ap (λ (x : Place). place_inside x h) is_root in
        let yes : entered at_root h ch true ≡ true = sym (en ∙ ap (entered_first q) is ∙ ap (λ (x : Place). entered x h ch true) is_root) in
        let sweep : verdict by at_root h ch inner.chain ≡ sweeps
        = list_sweeps by at_root h ch inner.chain (root_list h (formed_one a_root [] (link h ch end) t.formed).0) in
        let here : treated (entered at_root h ch true) by at_root h ch inner ≡ done sweeps h inner
        = ap (λ (b : Bool). treated b by at_root h ch inner) yes ∙ ap (λ (u : book.Verdict). done u h inner) sweep in
        let made : Made w v (first_slot 1) ch (swept inner.chain)
        = subst (λ (j : ℕ). Made w v j ch (swept inner.chain)) es (subst (λ (x : Place). Made w v s ch (swept (treats by x ch))) is_z m) in
        record {
          tree = checked_again by w v (link h ch end) e made.long
              (subst (λ (x : Left). Holds v 1 (append x.chain end)) (sym here) (root_made w h ch t v (swept inner.chain) made));
          flag = ea ∙ ap (λ (x : Place). (treat by x ch).changed) is_z ∙ sym (or-false inner.changed) ∙ ap (λ (x : Left). x.changed || false) (sym here);
          others = root_others w h ch t v (swept inner.chain) made;
        }

    -- a root that they do not enter
    pub passed_root : (c k : Chain) → k ≡ c → check w ≡ fine c → false ≡ entered_first q k → LeftAtRoot by w w c false
    passed_root end k is e en = absurd (both_ways false refl (check_sound w end e).formed)
    passed_root (link h ch (link g under rest)) k is e en =
        absurd (both_ways true (formed_one a_root [] (link h ch (link g under rest)) (check_sound w (link h ch (link g under rest)) e).formed).1.1 refl)
    passed_root (link h ch end) k is e en =
        let inner : Left = treat by (place_inside at_root h) ch in
        let no : entered at_root h ch true ≡ false = sym (en ∙ ap (entered_first q) is ∙ ap (λ (x : Place). entered x h ch true) is_root) in
        let here : treated (entered at_root h ch true) by at_root h ch inner ≡ treated false by at_root h ch inner
        = ap (λ (b : Bool). treated b by at_root h ch inner) no in
        record {
          tree = e ∙ ap (λ (x : Left). fine (append x.chain end)) (sym here);
          flag = ap (λ (x : Left). x.changed || false) (sym here);
          others = λ j out. refl;
        }
