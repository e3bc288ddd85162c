-- A record of another kind. A write changes one word; four of them make a record another one, and leave its links.
use Rattle.std.proofs.Common.{◌≡◌, ℕ, ◌+◌, ◌-◌, ◌*◌, ◌/◌, ◌<◌, ◌≤◌, true, leb, List, length, get_or, set, sym, refl, ap, ◌∙◌, subst, inl, arith, length-set, get_or-set_other, get_or-set_same}
use Rattle.std.proofs.lemmas.Bool.{leb-true, and_parts, and_from}
use Rattle.rules.specs.Tree.{Head, Chain}
use Rattle.rules.specs.Tree.Chain.{end, link}
use Rattle.rules.specs.Kinds.{within, known, empty_statement}
use Rattle.rules.specs.Words.{word, records, first_child, next, Holds}
use Rattle.rules.specs.Held.{Numbers}
use Rattle.rules.specs.Removal.{become}
use Rattle.records.specs.Writes.{with_word, turned}
use Rattle.edit.specs.Slots.{owner, first_slot, Linked, Made}
use Rattle.edit.proofs.Frames.{stands_there, frame}
use Rattle.edit.proofs.Moves.{again, then, number_at, beneath}
use Rattle.edit.proofs.Lifts.{written}

-- one word changed
pub record Wrote (w v : List ℕ) (j x : ℕ) : Type 0 where
  pub long : length v ≡ length w
  pub is : get_or v j 0 ≡ x
  pub others : (k : ℕ) → (k ≡ j → ⊥) → get_or v k 0 ≡ get_or w k 0

pub set_wrote : (w : List ℕ) (j x : ℕ) → j < length w → Wrote w (set w j x) j x
set_wrote w j x l = record { long = length-set w j x; is = get_or-set_same w j x 0 l; others = λ k ne. get_or-set_other w j k x 0 ne }

pub there_within : (w : List ℕ) (n : ℕ) → within 1 (records w) n ≡ true → (1 ≤ n) × (6 * n ≤ length w)
there_within w n t =
    let q = and_parts (leb 1 n) (leb n (records w)) t in
    omega (arith, leb-true 1 n q.0, leb-true n (records w) q.1)

pub there_again : (w v : List ℕ) (n : ℕ) → length v ≡ length w → within 1 (records w) n ≡ true → within 1 (records v) n ≡ true
there_again w v n long t = subst (λ (m : ℕ). within 1 (m / 6) n ≡ true) (sym long) t

pub word_wrote : (w : List ℕ) (n i x : ℕ) → within 1 (records w) n ≡ true → i < 6 → Wrote w (with_word w n i x) (6 * (n - 1) + i) x
word_wrote w n i x t l =
    let q = there_within w n t in
    subst (λ (v : List ℕ). Wrote w v (6 * (n - 1) + i) x) (sym (written w n i x t)) (set_wrote w (6 * (n - 1) + i) x (omega (arith, q.0, q.1)))

-- record n made one of kind k
pub record Titled (w v : List ℕ) (n k : ℕ) : Type 0 where
  pub long : length v ≡ length w
  pub kind : word v n 0 ≡ k
  pub flags : word v n 1 ≡ 0
  pub symbol : word v n 2 ≡ 0
  pub mark : word v n 3 ≡ 0
  pub first : word v n 4 ≡ word w n 4
  pub next : word v n 5 ≡ word w n 5
  pub others : (j : ℕ) → (owner j ≡ n → ⊥) → get_or v j 0 ≡ get_or w j 0

-- four words changed
four : (w a b c d : List ℕ) (n k : ℕ) → 1 ≤ n → Wrote w a (6 * (n - 1) + 0) k → Wrote a b (6 * (n - 1) + 1) 0 → Wrote b c (6 * (n - 1) + 2) 0 →
    Wrote c d (6 * (n - 1) + 3) 0 → Titled w d n k
four w a b c d n k l p q r s = record {
  long = s.long ∙ r.long ∙ q.long ∙ p.long;
  kind = s.others (6 * (n - 1) + 0) (λ z. omega arith) ∙ r.others (6 * (n - 1) + 0) (λ z. omega arith) ∙ q.others (6 * (n - 1) + 0) (λ z. omega arith) ∙ p.is;
  flags = s.others (6 * (n - 1) + 1) (λ z. omega arith) ∙ r.others (6 * (n - 1) + 1) (λ z. omega arith) ∙ q.is;
  symbol = s.others (6 * (n - 1) + 2) (λ z. omega arith) ∙ r.is;
  mark = s.is;
  first = away (6 * (n - 1) + 4) (λ z. omega arith) (λ z. omega arith) (λ z. omega arith) (λ z. omega arith);
  next = away (6 * (n - 1) + 5) (λ z. omega arith) (λ z. omega arith) (λ z. omega arith) (λ z. omega arith);
  others = λ j ne. away j (λ z. ne (omega arith)) (λ z. ne (omega arith)) (λ z. ne (omega arith)) (λ z. ne (omega arith));
}
  where
    away : (j : ℕ) → (j ≡ 6 * (n - 1) + 0 → ⊥) → (j ≡ 6 * (n - 1) + 1 → ⊥) → (j ≡ 6 * (n - 1) + 2 → ⊥) → (j ≡ 6 * (n - 1) + 3 → ⊥) →
        get_or d j 0 ≡ get_or w j 0
    away j e f g h = s.others j h ∙ r.others j g ∙ q.others j f ∙ p.others j e

pub turned_titled : (w : List ℕ) (n k : ℕ) → within 1 (records w) n ≡ true → Titled w (turned w n k) n k
turned_titled w n k t =
    let a : List ℕ = with_word w n 0 k in
    let b : List ℕ = with_word a n 1 0 in
    let c : List ℕ = with_word b n 2 0 in
    let p = word_wrote w n 0 k t (omega arith) in
    let ta = there_again w a n p.long t in
    let q = word_wrote a n 1 0 ta (omega arith) in
    let tb = there_again a b n q.long ta in
    let r = word_wrote b n 2 0 tb (omega arith) in
    let tc = there_again b c n r.long tb in
    four w a b c (with_word c n 3 0) n k (there_within w n t).0 p q r (word_wrote c n 3 0 tc (omega arith))

-- a record of another kind is there, by its words
pub titled_holds : (v : List ℕ) (n k : ℕ) (h : Head) (ch rest : Chain) → within 1 (records v) n ≡ true → known k ≡ true → h.number ≡ n →
    word v n 0 ≡ k → word v n 1 ≡ 0 → word v n 2 ≡ 0 → word v n 3 ≡ 0 → Holds v (word v n 4) ch → Holds v (word v n 5) rest →
    Holds v n (link (become k h) ch rest)
titled_holds v n k h ch rest t known-k e e0 e1 e2 e3 hc hr =
    (and_from (within 1 (records v) n) (known (word v n 0)) t (ap known e0 ∙ known-k), cc, hc, hr)

module _ (w : List ℕ) (i : ℕ) (h : Head) (ch rest : Chain) (at : Linked w i (link h ch rest)) where
  there : within 1 (records w) (get_or w i 0) ≡ true
  there = stands_there w (get_or w i 0) at.holds.0

  pub retitled : (v : List ℕ) (n k : ℕ) → known k ≡ true → n ≡ get_or w i 0 → v ≡ turned w n k → Made w v i (link h ch rest) (link (become k h) ch rest)
  retitled v n k known-k en ev =
      let e : h.number ≡ n = number_at w i h ch rest at ∙ sym en in
      let t : within 1 (records w) n ≡ true = subst (λ (m : ℕ). within 1 (records w) m ≡ true) (sym en) there in
      let f : Titled w v n k = subst (λ (u : List ℕ). Titled w u n k) (sym ev) (turned_titled w n k t) in
      let held : Holds w n (link h ch rest) = subst (λ (m : ℕ). Holds w m (link h ch rest)) (sym en) at.holds in
      let links : get_or v i 0 ≡ n = f.others i (λ z. at.free (inl (z ∙ sym e))) ∙ sym en in
      let away : (d : Chain) → (Numbers h.number d → ⊥) → (j : ℕ) → Numbers (owner j) d → get_or v j 0 ≡ get_or w j 0
      = λ d out j inside. f.others j (λ z. out (subst (λ (x : ℕ). Numbers x d) (z ∙ sym e) inside)) in
      record {
        long = f.long;
        holds = subst (λ (m : ℕ). Holds v m (link (become k h) ch rest)) (sym links)
            (titled_holds v n k h ch rest (there_again w v n f.long t) known-k e f.kind f.flags f.symbol f.mark
            (subst (λ (m : ℕ). Holds v m ch) (sym f.first) (frame ch w v (first_child w n) f.long (away ch at.apart.0) held.2))
            (subst (λ (m : ℕ). Holds v m rest) (sym f.next) (frame rest w v (next w n) f.long (away rest at.apart.1) held.3)));
        part = record { apart = at.apart; numbers = λ x k. k };
        others = λ j ne out. f.others j (λ z. out (inl (z ∙ sym e)));
      }

  -- no children any more
  cut : (v : List ℕ) → v ≡ with_word w (get_or w i 0) 4 0 → Made w v i (link h ch rest) (link h end rest)
  cut v ev =
      let n : ℕ = get_or w i 0 in
      let f : Wrote w v (first_slot n) 0 = subst (λ (u : List ℕ). Wrote w u (first_slot n) 0) (sym ev) (word_wrote w n 4 0 there (omega arith)) in
      beneath w i h ch rest at v end (record {
        long = f.long;
        holds = f.is;
        part = record { apart = tt; numbers = λ x k. absurd k };
        others = λ j ne out. f.others j ne;
      })

pub emptied : (w u v : List ℕ) (i : ℕ) (h : Head) (ch rest : Chain) → u ≡ with_word w (get_or w i 0) 4 0 → v ≡ turned u (get_or w i 0) empty_statement →
    Linked w i (link h ch rest) → Made w v i (link h ch rest) (link (become empty_statement h) end rest)
emptied w u v i h ch rest eu ev at =
    let n : ℕ = get_or w i 0 in
    let r = cut w i h ch rest at u eu in
    let on = again w u i (link h ch rest) (link h end rest) at r in
    let en : n ≡ get_or u i 0 = sym (number_at w i h ch rest at) ∙ number_at u i h end rest on in
    then w u v i (link h ch rest) (link h end rest) (link (become empty_statement h) end rest) r (retitled u i h end rest on v n empty_statement refl en ev)
