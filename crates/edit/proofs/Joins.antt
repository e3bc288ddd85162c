-- Values as one expression. The first Declarator's record is in none of the values, so that it can stand over them.
use Rattle.std.proofs.Common.{◌≡◌, ℕ, ◌+◌, ◌-◌, ◌*◌, ◌≤◌, true, ◌⊎◌, List, length, get_or, sym, refl, ap, ◌∙◌, subst, inl, inr, arith}
use Rattle.std.proofs.lemmas.Bool.{cond-true, cond-false}
use Rattle.rules.specs.Tree.{Head, Chain, is_end, after}
use Rattle.rules.specs.Tree.Chain.{end, link}
use Rattle.rules.specs.Kinds.{within, plain_expression, expression_statement}
use Rattle.rules.specs.Words.{word, records, Holds}
use Rattle.rules.specs.Held.{Numbers, Apart}
use Rattle.rules.specs.Removal.{become, values, joined}
use Rattle.records.specs.Writes.{with_word, turned}
use Rattle.edit.specs.Slots.{owner, first_slot, Linked, Made, onto, wrapped}
use Rattle.edit.proofs.Frames.{stands_there, zero_ends, other_goes_on, frame}
use Rattle.edit.proofs.Moves.{again, then, number_at, beneath_by}
use Rattle.edit.proofs.Titles.{Wrote, set_wrote, word_wrote, there_within, there_again, turned_titled, titled_holds, retitled}

onto_numbers : (p rest : Chain) (x : ℕ) → Numbers x (onto p rest) → Numbers x p ⊎ Numbers x rest
onto_numbers end rest x k = inr k
onto_numbers (link h ch q) rest x k = elim k [ inl z ↦ inl (inl z) | inr l ↦ elim l [ inl m ↦ inl (inr (inl m)) | inr m ↦ inr m ] ]

after_numbers : (c : Chain) (x : ℕ) → Numbers x (after c) → Numbers x c
after_numbers end x k = k
after_numbers (link h ch rest) x k = inr (inr k)

values_numbers : (c : Chain) (x : ℕ) → Numbers x (values c) → Numbers x c
values_numbers end x k = k
values_numbers (link h ch rest) x k = elim (onto_numbers (after ch) (values rest) x k) [
  | inl l ↦ inr (inl (after_numbers ch x l))
  | inr l ↦ inr (inr (values_numbers rest x l))
]

values_out : (h : Head) (ch rest : Chain) → Apart (link h ch rest) → Numbers h.number (values (link h ch rest)) → ⊥
values_out h ch rest a k = elim (onto_numbers (after ch) (values rest) h.number k) [
  | inl l ↦ a.0 (after_numbers ch h.number l)
  | inr l ↦ a.1 (values_numbers rest h.number l)
]

pub join_one : (w v : List ℕ) (i y : ℕ) (c : Chain) → Holds v y (after (values c)) → y ≡ 0 → Made w v i c (values c) → Made w v i c (joined c)
join_one w v i y end held z r = r
join_one w v i y (link h ch rest) held z r =
    let all : Chain = values (link h ch rest) in
    subst (λ (d : Chain). Made w v i (link h ch rest) d)
    (sym (cond-true (is_end (after all)) all (link (become plain_expression h) all end) (zero_ends v y (after all) held z))) r

-- a chain put under a spare record
over : (w v u : List ℕ) (i d : ℕ) (c all : Chain) (h : Head) → h.number ≡ d → within 1 (records v) d ≡ true → Linked w i c →
    (Numbers d all → ⊥) → (owner i ≡ d → ⊥) → Numbers d c → Made w v i c all → u ≡ wrapped v i d →
    Made w u i c (link (become plain_expression h) all end)
over w v u i d c all h e t at out free inside r eu =
    let x : ℕ = get_or v i 0 in
    let o : ℕ = 6 * (d - 1) in
    let a : List ℕ = with_word v d 4 x in
    let b : List ℕ = with_word a d 5 0 in
    let m : List ℕ = turned b d plain_expression in
    let low : 1 ≤ d = (there_within v d t).0 in
    let f1 = word_wrote v d 4 x t (omega arith) in
    let ta = there_again v a d f1.long t in
    let f2 = word_wrote a d 5 0 ta (omega arith) in
    let tb = there_again a b d f2.long ta in
    let f3 = turned_titled b d plain_expression tb in
    let tm = there_again b m d f3.long tb in
    let f4 : Wrote m u i d = subst (λ (z : List ℕ). Wrote m z i d) (sym eu)
    (set_wrote m i d (omega (arith, f3.long, f2.long, f1.long, r.long, at.room))) in
    let own : (j : ℕ) → owner j ≡ d → get_or u j 0 ≡ get_or m j 0 = λ j q. f4.others j (λ z. free (ap owner (sym z) ∙ q)) in
    let other : (j : ℕ) → (j ≡ i → ⊥) → (owner j ≡ d → ⊥) → get_or u j 0 ≡ get_or v j 0
    = λ j ne nd. f4.others j ne ∙ f3.others j nd ∙ f2.others j (λ z. nd (omega arith)) ∙ f1.others j (λ z. nd (omega arith)) in
    let long : length u ≡ length v = f4.long ∙ f3.long ∙ f2.long ∙ f1.long in
    let first : word u d 4 ≡ x = own (o + 4) (omega arith) ∙ f3.first ∙ f2.others (o + 4) (λ z. omega arith) ∙ f1.is in
    let last : word u d 5 ≡ 0 = own (o + 5) (omega arith) ∙ f3.next ∙ f2.is in
    record {
      long = long ∙ r.long;
      holds = subst (λ (z : ℕ). Holds u z (link (become plain_expression h) all end)) (sym f4.is)
          (titled_holds u d plain_expression h all end (there_again m u d f4.long tm) refl e
          (own (o + 0) (omega arith) ∙ f3.kind) (own (o + 1) (omega arith) ∙ f3.flags) (own (o + 2) (omega arith) ∙ f3.symbol) (own (o + 3) (omega arith) ∙ f3.mark)
          (subst (λ (z : ℕ). Holds u z all) (sym first)
          (frame all v u x long
          (λ j k. other j
          (λ z. at.free (subst (λ (y : ℕ). Numbers (owner y) c) z (r.part.numbers (owner j) k)))
          (λ z. out (subst (λ (y : ℕ). Numbers y all) z k)))
          r.holds))
          last);
      part = record {
        apart = (λ k. out (subst (λ (y : ℕ). Numbers y all) e k), λ k. k, λ y k l. l, r.part.apart, tt);
        numbers = λ y k. elim k [ inl z ↦ subst (λ (q : ℕ). Numbers q c) (sym (z ∙ e)) inside | inr l ↦ elim l [ inl q ↦ r.part.numbers y q | inr q ↦ absurd q ] ];
      };
      others = λ j ne nc. other j ne (λ z. nc (subst (λ (q : ℕ). Numbers q c) (sym z) inside)) ∙ r.others j ne nc;
    }

pub join_several : (w v u : List ℕ) (i d y : ℕ) (c : Chain) → d ≡ get_or w i 0 → Linked w i c → Made w v i c (values c) →
    Holds v y (after (values c)) → (y ≡ 0 → ⊥) → u ≡ wrapped v i d → Made w u i c (joined c)
join_several w v u i d y end ed at r held ne eu = absurd (ne held)
join_several w v u i d y (link h ch rest) ed at r held ne eu =
    let c : Chain = link h ch rest in
    let all : Chain = values c in
    let e : h.number ≡ d = number_at w i h ch rest at ∙ sym ed in
    let t : within 1 (records w) d ≡ true
    = subst (λ (m : ℕ). within 1 (records w) m ≡ true) (sym ed) (stands_there w (get_or w i 0) at.holds.0) in
    subst (λ (q : Chain). Made w u i c q)
    (sym (cond-false (is_end (after all)) all (link (become plain_expression h) all end) (other_goes_on v y (after all) held ne)))
    (over w v u i d c all h e (there_again w v d r.long t) at
    (λ k. values_out h ch rest at.apart (subst (λ (q : ℕ). Numbers q all) (sym e) k))
    (λ z. at.free (inl (z ∙ sym e)))
    (inl (sym e)) r eu)

-- a Var whose Declarators gave way to their values is an Expression statement
pub restated : (w v u : List ℕ) (i s : ℕ) (h : Head) (ch rest : Chain) → s ≡ first_slot (get_or w i 0) → Linked w i (link h ch rest) →
    Made w v s ch (joined ch) → u ≡ turned v (get_or w i 0) expression_statement →
    Made w u i (link h ch rest) (link (become expression_statement h) (joined ch) rest)
restated w v u i s h ch rest es at r eu =
    let n : ℕ = get_or w i 0 in
    let q = beneath_by w v i s h ch rest (joined ch) es at r in
    let on = again w v i (link h ch rest) (link h (joined ch) rest) at q in
    let en : n ≡ get_or v i 0 = sym (number_at w i h ch rest at) ∙ number_at v i h (joined ch) rest on in
    then w v u i (link h ch rest) (link h (joined ch) rest) (link (become expression_statement h) (joined ch) rest) q
    (retitled v i h (joined ch) rest on u n expression_statement refl en eu)
