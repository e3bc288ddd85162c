-- A chain put in the place of another. What is made at a record's slot is made in the chain that the record stands in; what is made
-- in steps is made; and a loop along a chain keeps that whatever finishes what is left has finished the whole.
--
--   again, then, same                  the words after are linked again; two steps; none
--   child_at, child_by, rest_at, after_at        the slots of a record, and the one after a piece
--   beneath, beneath_by, along, past               what is made there, seen from the slot of the record
--   part_onto                          a piece in the place of the record that it was below
--   Going, turn, ended                 the loop
use Rattle.std.proofs.Common.{◌≡◌, ℕ, ◌+◌, ◌-◌, ◌*◌, ◌<◌, ◌≤◌, List, length, get_or, sym, refl, ap, ◌∙◌, subst, inl, inr, arith}
use Rattle.rules.specs.Tree.{Head, Chain}
use Rattle.rules.specs.Tree.Chain.{end, link}
use Rattle.rules.specs.Words.{word, first_child, next, Holds, tree_of}
use Rattle.rules.specs.Held.{Numbers, Apart}
use Rattle.rules.specs.Opening.{siblings}
use Rattle.rules.proofs.Reading.{read_back}
use Rattle.edit.specs.Slots.{owner, first_slot, next_slot, Linked, Part, Made, onto, slot_after}
use Rattle.edit.proofs.Frames.{number_is, number_positive, number_within, stands_same, head_same, owns_first, owns_next, frame}

pub again : (w v : List ℕ) (i : ℕ) (c d : Chain) → Linked w i c → Made w v i c d → Linked v i d
again w v i c d at r = record {
  room = omega (arith, at.room, r.long);
  holds = r.holds;
  apart = r.part.apart;
  free = λ h. at.free (r.part.numbers (owner i) h);
}

pub then : (w v u : List ℕ) (i : ℕ) (c d e : Chain) → Made w v i c d → Made v u i d e → Made w u i c e
then w v u i c d e r q = record {
  long = q.long ∙ r.long;
  holds = q.holds;
  part = record { apart = q.part.apart; numbers = λ x h. r.part.numbers x (q.part.numbers x h) };
  others = λ j ne out. q.others j ne (λ h. out (r.part.numbers (owner j) h)) ∙ r.others j ne out;
}

pub part_same : (c : Chain) → Apart c → Part c c
part_same c a = record { apart = a; numbers = λ x h. h }

pub same : (w : List ℕ) (i : ℕ) (c : Chain) → Linked w i c → Made w w i c c
same w i c at = record { long = refl; holds = at.holds; part = part_same c at.apart; others = λ j ne out. refl }

module _ (w : List ℕ) (i : ℕ) (h : Head) (ch rest : Chain) (at : Linked w i (link h ch rest)) where
  -- the record's number is the word at the slot
  pub number_at : h.number ≡ get_or w i 0
  number_at = number_is w (get_or w i 0) h ch rest at.holds

  pub positive_at : 1 ≤ get_or w i 0
  positive_at = number_positive w (get_or w i 0) h ch rest at.holds

  pub within_at : 6 * get_or w i 0 ≤ length w
  within_at = number_within w (get_or w i 0) h ch rest at.holds

  first_owned : owner (first_slot (get_or w i 0)) ≡ h.number
  first_owned = owns_first (get_or w i 0) positive_at ∙ sym number_at

  next_owned : owner (next_slot (get_or w i 0)) ≡ h.number
  next_owned = owns_next (get_or w i 0) positive_at ∙ sym number_at

  pub child_at : Linked w (first_slot (get_or w i 0)) ch
  child_at = record {
    room = omega (arith, within_at, positive_at);
    holds = at.holds.2;
    apart = at.apart.3;
    free = λ j. at.apart.0 (subst (λ (x : ℕ). Numbers x ch) first_owned j);
  }

  pub rest_at : Linked w (next_slot (get_or w i 0)) rest
  rest_at = record {
    room = omega (arith, within_at, positive_at);
    holds = at.holds.3;
    apart = at.apart.4;
    free = λ j. at.apart.1 (subst (λ (x : ℕ). Numbers x rest) next_owned j);
  }

  -- the children, at a slot that is theirs
  pub child_by : (s : ℕ) → s ≡ first_slot (get_or w i 0) → Linked w s ch
  child_by s e = subst (λ (j : ℕ). Linked w j ch) (sym e) child_at

  pub beneath : (v : List ℕ) (d : Chain) → Made w v (first_slot (get_or w i 0)) ch d → Made w v i (link h ch rest) (link h d rest)
  beneath v d r =
      let n : ℕ = get_or w i 0 in
      let low : 1 ≤ n = positive_at in
      let e : h.number ≡ n = number_at in
      let own : (j : ℕ) → owner j ≡ n → (j ≡ first_slot n → ⊥) → get_or v j 0 ≡ get_or w j 0
      = λ j o ne. r.others j ne (λ k. at.apart.0 (subst (λ (x : ℕ). Numbers x ch) (o ∙ sym e) k)) in
      let w0 : word v n 0 ≡ word w n 0 = own (6 * (n - 1) + 0) (omega arith) (λ z. omega arith) in
      let w1 : word v n 1 ≡ word w n 1 = own (6 * (n - 1) + 1) (omega arith) (λ z. omega arith) in
      let w2 : word v n 2 ≡ word w n 2 = own (6 * (n - 1) + 2) (omega arith) (λ z. omega arith) in
      let w3 : word v n 3 ≡ word w n 3 = own (6 * (n - 1) + 3) (omega arith) (λ z. omega arith) in
      let w5 : word v n 5 ≡ word w n 5 = own (6 * (n - 1) + 5) (omega arith) (λ z. omega arith) in
      let slot : get_or v i 0 ≡ n = r.others i (λ z. at.free (inl (ap owner z ∙ first_owned))) (λ k. at.free (inr (inl k))) in
      let held : Holds v n (link h d rest) = (
        stands_same w v n r.long w0 at.holds.0,
        at.holds.1 ∙ head_same w v n w0 w1 w2 w3,
        r.holds,
        subst (λ (m : ℕ). Holds v m rest) (sym w5)
            (frame rest w v (next w n) r.long
            (λ j inside. r.others j
            (λ z. at.apart.1 (subst (λ (x : ℕ). Numbers x rest) (ap owner z ∙ first_owned) inside))
            (λ k. at.apart.2 (owner j) k inside))
            at.holds.3),
      ) in
      record {
        long = r.long;
        holds = subst (λ (m : ℕ). Holds v m (link h d rest)) (sym slot) held;
        part = record {
          apart = (λ k. at.apart.0 (r.part.numbers h.number k), at.apart.1, λ x k l. at.apart.2 x (r.part.numbers x k) l, r.part.apart, at.apart.4);
          numbers = λ x k. elim k [ inl z ↦ inl z | inr l ↦ elim l [ inl m ↦ inr (inl (r.part.numbers x m)) | inr m ↦ inr (inr m) ] ];
        };
        others = λ j ne out. r.others j (λ z. out (inl (ap owner z ∙ first_owned))) (λ k. out (inr (inl k)));
      }

  pub along : (v : List ℕ) (d : Chain) → Made w v (next_slot (get_or w i 0)) rest d → Made w v i (link h ch rest) (link h ch d)
  along v d r =
      let n : ℕ = get_or w i 0 in
      let low : 1 ≤ n = positive_at in
      let e : h.number ≡ n = number_at in
      let own : (j : ℕ) → owner j ≡ n → (j ≡ next_slot n → ⊥) → get_or v j 0 ≡ get_or w j 0
      = λ j o ne. r.others j ne (λ k. at.apart.1 (subst (λ (x : ℕ). Numbers x rest) (o ∙ sym e) k)) in
      let w0 : word v n 0 ≡ word w n 0 = own (6 * (n - 1) + 0) (omega arith) (λ z. omega arith) in
      let w1 : word v n 1 ≡ word w n 1 = own (6 * (n - 1) + 1) (omega arith) (λ z. omega arith) in
      let w2 : word v n 2 ≡ word w n 2 = own (6 * (n - 1) + 2) (omega arith) (λ z. omega arith) in
      let w3 : word v n 3 ≡ word w n 3 = own (6 * (n - 1) + 3) (omega arith) (λ z. omega arith) in
      let w4 : word v n 4 ≡ word w n 4 = own (6 * (n - 1) + 4) (omega arith) (λ z. omega arith) in
      let slot : get_or v i 0 ≡ n = r.others i (λ z. at.free (inl (ap owner z ∙ next_owned))) (λ k. at.free (inr (inr k))) in
      let held : Holds v n (link h ch d) = (
        stands_same w v n r.long w0 at.holds.0,
        at.holds.1 ∙ head_same w v n w0 w1 w2 w3,
        subst (λ (m : ℕ). Holds v m ch) (sym w4)
            (frame ch w v (first_child w n) r.long
            (λ j inside. r.others j
            (λ z. at.apart.0 (subst (λ (x : ℕ). Numbers x ch) (ap owner z ∙ next_owned) inside))
            (at.apart.2 (owner j) inside))
            at.holds.2),
        r.holds,
      ) in
      record {
        long = r.long;
        holds = subst (λ (m : ℕ). Holds v m (link h ch d)) (sym slot) held;
        part = record {
          apart = (at.apart.0, λ k. at.apart.1 (r.part.numbers h.number k), λ x k l. at.apart.2 x k (r.part.numbers x l), at.apart.3, r.part.apart);
          numbers = λ x k. elim k [ inl z ↦ inl z | inr l ↦ elim l [ inl m ↦ inr (inl m) | inr m ↦ inr (inr (r.part.numbers x m)) ] ];
        };
        others = λ j ne out. r.others j (λ z. out (inl (ap owner z ∙ next_owned))) (λ k. out (inr (inr k)));
      }

-- the same, by a slot that is the children's
pub beneath_by : (w v : List ℕ) (i s : ℕ) (h : Head) (ch rest d : Chain) → s ≡ first_slot (get_or w i 0) → Linked w i (link h ch rest) →
    Made w v s ch d → Made w v i (link h ch rest) (link h d rest)
beneath_by w v i s h ch rest d e at r = beneath w i h ch rest at v d (subst (λ (j : ℕ). Made w v j ch d) e r)

pub after_at : (w : List ℕ) (i : ℕ) (p rest : Chain) → Linked w i (onto p rest) → Linked w (slot_after i p) rest
after_at w i end rest at = at
after_at w i (link h ch q) rest at =
    subst (λ (m : ℕ). Linked w (next_slot m) rest) (sym (number_at w i h ch rest at)) (rest_at w i h ch rest at)

pub past : (w v : List ℕ) (i : ℕ) (p rest d : Chain) → Linked w i (onto p rest) → Made w v (slot_after i p) rest d → Made w v i (onto p rest) (onto p d)
past w v i end rest d at r = r
past w v i (link h ch q) rest d at r =
    along w i h ch rest at v d (subst (λ (m : ℕ). Made w v (next_slot m) rest d) (number_at w i h ch rest at) r)

pub part_onto : (h : Head) (ch rest p : Chain) → Apart (link h ch rest) → Part p ch → Part (onto p rest) (link h ch rest)
part_onto h ch rest end a q = record { apart = a.4; numbers = λ x k. inr (inr k) }
part_onto h ch rest (link g cg rg) a q = record {
  apart = (q.apart.0, λ k. a.2 g.number (q.numbers g.number (inl refl)) k, λ x k l. a.2 x (q.numbers x (inr (inl k))) l, q.apart.3, a.4);
  numbers = λ x k. elim k [
    | inl z ↦ inr (inl (q.numbers x (inl z)))
    | inr l ↦ elim l [ inl m ↦ inr (inl (q.numbers x (inr (inl m)))) | inr m ↦ inr (inr m) ]
  ];
}

-- a loop that does F to a chain: whatever finishes what is left has finished the whole
pub record Going (F : Chain → Chain) (w0 : List ℕ) (i0 : ℕ) (c : Chain) (w : List ℕ) (i : ℕ) (todo : Chain) : Type 0 where
  pub at : Linked w i todo
  pub whole : (v : List ℕ) → Made w v i todo (F todo) → Made w0 v i0 c (F c)

-- the records that a loop has yet to come to
abbrev pub to_go : List ℕ → ℕ → ℕ
to_go w i = siblings (tree_of w (get_or w i 0))

pub to_go_is : (c : Chain) (w : List ℕ) (i : ℕ) → Linked w i c → to_go w i ≡ siblings c
to_go_is c w i at = ap siblings (read_back w (get_or w i 0) c at.holds at.apart).0

-- a turn that puts p in the place of the first record
pub turn : (F : Chain → Chain) (w0 : List ℕ) (i0 : ℕ) (c : Chain) (w v : List ℕ) (i : ℕ) (h : Head) (ch rest p : Chain) →
    F (link h ch rest) ≡ onto p (F rest) → Made w v i (link h ch rest) (onto p rest) → Going F w0 i0 c w i (link h ch rest) →
    Going F w0 i0 c v (slot_after i p) rest × (to_go v (slot_after i p) < to_go w i)
turn F w0 i0 c w v i h ch rest p is r going =
    let on : Linked v i (onto p rest) = again w v i (link h ch rest) (onto p rest) going.at r in
    let next : Linked v (slot_after i p) rest = after_at v i p rest on in (
      record {
        at = next;
        whole = λ u q. going.whole u
            (subst (λ (d : Chain). Made w u i (link h ch rest) d) (sym is)
            (then w v u i (link h ch rest) (onto p rest) (onto p (F rest)) r (past v u i p rest (F rest) on q)));
      },
      omega (arith, to_go_is rest v (slot_after i p) next, to_go_is (link h ch rest) w i going.at),
    )

pub ended : (F : Chain → Chain) → F end ≡ end → (w0 : List ℕ) (i0 : ℕ) (c : Chain) (w : List ℕ) (i : ℕ) → get_or w i 0 ≡ 0 → (todo : Chain) →
    Going F w0 i0 c w i todo → Made w0 w i0 c (F c)
ended F fe w0 i0 c w i e end going = going.whole w (subst (λ (d : Chain). Made w w i end d) (sym fe) (same w i end going.at))
ended F fe w0 i0 c w i e (link h ch rest) going = absurd (omega (arith, positive_at w i h ch rest going.at))
