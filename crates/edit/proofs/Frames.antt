-- Words that did not change. A chain that the words hold is held by other words that are as many and agree in all words of
-- the chain's records. The words of record n are those that n owns.
use Rattle.std.proofs.Common.{◌≡◌, ℕ, ◌+◌, ◌-◌, ◌*◌, ◌<◌, ◌≤◌, true, false, List, length, get_or, set, sym, refl, ap, ◌∙◌, subst, inl, inr, arith, length-set, get_or-set_other}
use Rattle.std.proofs.lemmas.Bool.{and_parts}
use Rattle.rules.specs.Tree.{Head, Chain, is_end}
use Rattle.rules.specs.Tree.Chain.{end, link}
use Rattle.rules.specs.Kinds.{within, known}
use Rattle.rules.specs.Words.{word, records, stands, head_at, first_child, next, Holds}
use Rattle.rules.specs.Held.{Numbers}
use Rattle.rules.proofs.Sizes.{stands_positive, stands_within}
use Rattle.edit.specs.Slots.{owner, first_slot, next_slot}

-- a link is the number of the record that it leads to
pub number_is : (w : List ℕ) (n : ℕ) (h : Head) (ch rest : Chain) → Holds w n (link h ch rest) → h.number ≡ n
number_is w n h ch rest held = ap (λ (g : Head). g.number) held.1

pub number_positive : (w : List ℕ) (n : ℕ) (h : Head) (ch rest : Chain) → Holds w n (link h ch rest) → 1 ≤ n
number_positive w n h ch rest held = stands_positive w n held.0

pub number_within : (w : List ℕ) (n : ℕ) (h : Head) (ch rest : Chain) → Holds w n (link h ch rest) → 6 * n ≤ length w
number_within w n h ch rest held = omega (arith, stands_within w n held.0)

pub stands_there : (w : List ℕ) (n : ℕ) → stands w n ≡ true → within 1 (records w) n ≡ true
stands_there w n s = (and_parts (within 1 (records w) n) (known (word w n 0)) s).0

-- the link 0 leads to no record, and no other link to none
pub zero_ends : (w : List ℕ) (n : ℕ) (c : Chain) → Holds w n c → n ≡ 0 → is_end c ≡ true
zero_ends w n end held z = refl
zero_ends w n (link h ch rest) held z = absurd (omega (arith, number_positive w n h ch rest held))

pub other_goes_on : (w : List ℕ) (n : ℕ) (c : Chain) → Holds w n c → (n ≡ 0 → ⊥) → is_end c ≡ false
other_goes_on w n end held ne = absurd (ne held)
other_goes_on w n (link h ch rest) held ne = refl

pub owns_first : (n : ℕ) → 1 ≤ n → owner (first_slot n) ≡ n
owns_first n l = omega arith

pub owns_next : (n : ℕ) → 1 ≤ n → owner (next_slot n) ≡ n
owns_next n l = omega arith

-- a record whose first four words are the same is the same record
pub stands_same : (w v : List ℕ) (n : ℕ) → length v ≡ length w → word v n 0 ≡ word w n 0 → stands w n ≡ true → stands v n ≡ true
stands_same w v n long e s = rw (long, e) s

pub head_same : (w v : List ℕ) (n : ℕ) → word v n 0 ≡ word w n 0 → word v n 1 ≡ word w n 1 → word v n 2 ≡ word w n 2 →
    word v n 3 ≡ word w n 3 → head_at w n ≡ head_at v n
head_same w v n a b c d = cc

-- the chain is held where the words of its records are
pub frame : (c : Chain) (w v : List ℕ) (n : ℕ) → length v ≡ length w →
    ((j : ℕ) → Numbers (owner j) c → get_or v j 0 ≡ get_or w j 0) → Holds w n c → Holds v n c
frame end w v n long same held = held
frame (link h ch rest) w v n long same held =
    let e : h.number ≡ n = number_is w n h ch rest held in
    let low : 1 ≤ n = number_positive w n h ch rest held in
    let own : (i : ℕ) → i < 6 → word v n i ≡ word w n i = λ i l. same (6 * (n - 1) + i) (inl (omega arith)) in (
      stands_same w v n long (own 0 (omega arith)) held.0,
      held.1 ∙ head_same w v n (own 0 (omega arith)) (own 1 (omega arith)) (own 2 (omega arith)) (own 3 (omega arith)),
      subst (λ (m : ℕ). Holds v m ch) (sym (own 4 (omega arith))) (frame ch w v (first_child w n) long (λ j i. same j (inr (inl i))) held.2),
      subst (λ (m : ℕ). Holds v m rest) (sym (own 5 (omega arith))) (frame rest w v (next w n) long (λ j i. same j (inr (inr i))) held.3),
    )

-- a write outside of the chain
pub frame_set : (c : Chain) (w : List ℕ) (n j x : ℕ) → (Numbers (owner j) c → ⊥) → Holds w n c → Holds (set w j x) n c
frame_set c w n j x out held =
    frame c w (set w j x) n (length-set w j x)
    (λ i inside. get_or-set_other w j i x 0 (λ e. out (subst (λ (k : ℕ). Numbers (owner k) c) e inside))) held
