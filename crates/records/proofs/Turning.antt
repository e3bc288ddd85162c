-- Four words of a record written at once are four words written one after the other.
use Rattle.std.proofs.Common.{◌≡◌, ℕ, zero, suc, ◌+◌, ◌-◌, ◌*◌, ◌/◌, ◌≤◌, true, List, [], ◌∷◌, length, set, refl, ap, sym, ◌∙◌, arith, length-set}
use borrow.Rule.Slice.PartMut.{put_mid}
use Rattle.rules.specs.Kinds.{within}
use Rattle.rules.specs.Words.{records}
use Rattle.records.specs.Reads.{Starts}
use Rattle.records.specs.Writes.{with_word, turned}

four : (a k : ℕ) (xs : List ℕ) → a + 4 ≤ length xs
    → put_mid a 4 xs (k ∷ 0 ∷ 0 ∷ 0 ∷ []) ≡ set (set (set (set xs a k) (suc a) 0) (suc (suc a)) 0) (suc (suc (suc a))) 0
four zero k (x ∷ y ∷ z ∷ w ∷ rest) h = refl
four zero k (x ∷ y ∷ z ∷ []) h = absurd (omega (arith, h))
four zero k (x ∷ y ∷ []) h = absurd (omega (arith, h))
four zero k (x ∷ []) h = absurd (omega (arith, h))
four zero k [] h = absurd (omega (arith, h))
four (suc a) k [] h = absurd (omega (arith, h))
four (suc a) k (x ∷ xs) h = ap (λ rest. x ∷ rest) (four a k xs (omega (arith, h)))

-- word i of record n, written to words that are as many
set_at : (words : List ℕ) (n start i j v : ℕ) (ws : List ℕ) → Starts words n start → length ws ≡ length words → j ≡ start + i
    → with_word ws n i v ≡ set ws j v
set_at words n start i j v ws s many at =
    let there : within 1 (records ws) n ≡ true = ap (λ (m : ℕ). within 1 (m / 6) n) many ∙ s.there in
    let place : 6 * (n - 1) + i ≡ j = omega (arith, s.is, at) in
    rw (there) (ap (λ (p : ℕ). set ws p v) place)

-- the words of the kind, and of no flags, symbol and mark
pub turned_is : (words ys : List ℕ) (n start k : ℕ) → Starts words n start → ys ≡ k ∷ 0 ∷ 0 ∷ 0 ∷ [] → put_mid start (start + 4 - start) words ys ≡ turned words n k
turned_is words ys n start k s is =
    let four_words : start + 4 - start ≡ 4 = omega arith in
    let a = set words start k in
    let b = set a (suc start) 0 in
    let c = set b (suc (suc start)) 0 in
    let many_a : length a ≡ length words = length-set words start k in
    let many_b : length b ≡ length words = length-set a (suc start) 0 ∙ many_a in
    let many_c : length c ≡ length words = length-set b (suc (suc start)) 0 ∙ many_b in
    rw (four_words, is)
    (four start k words (omega (arith, s.room))
    ∙ sym
    (ap (λ ws. with_word (with_word (with_word ws n 1 0) n 2 0) n 3 0) (set_at words n start 0 start k words s refl (omega arith))
    ∙ ap (λ ws. with_word (with_word ws n 2 0) n 3 0) (set_at words n start 1 (suc start) 0 a s many_a (omega arith))
    ∙ ap (λ ws. with_word ws n 3 0) (set_at words n start 2 (suc (suc start)) 0 b s many_b (omega arith))
    ∙ set_at words n start 3 (suc (suc (suc start))) 0 c s many_c (omega arith)))
