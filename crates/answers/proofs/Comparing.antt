-- Two texts: what they begin with alike, and the line that a place of one is in.
use Rattle.std.proofs.Common.{◌≡◌, ℕ, suc, ◌+◌, ◌-◌, ◌≤◌, not, List, [], ◌∷◌, ◌++◌, length, take, drop, arith, refl, ap, sym, ◌∙◌, inl, inr, length-drop, take-append-drop, Bor}
use Rattle.std.proofs.Math.Seq.{take-append-add}
use Rattle.std.proofs.lemmas.List.{drop-append-le, length-take-le}
use Rattle.std.proofs.lemmas.List.Sums.{suffix_len-le-length}
use Rattle.std.proofs.lemmas.Bool.{cases_eq, eq-eqb, ne_eqb}
use Rattle.std.specs.Prelude.{slice_get, ◌≢◌, Option, Some, None, Result, Ok, Err, MatchOption, MatchResult, IfErr, IsErrAnd}
use Rattle.std.specs.List.{position_or_len, suffix_len}
use Rattle.answers.specs.Differing.{line_around, shared, is_line_feed}

-- one more byte
shared_same : (x y : ℕ) (xs ys : List ℕ) → x ≡ y → shared (x ∷ xs) (y ∷ ys) ≡ suc (shared xs ys)
shared_same x y xs ys e = rw (eq-eqb x y e) (omega arith)

shared_other : (x y : ℕ) (xs ys : List ℕ) → (x ≡ y → ⊥) → shared (x ∷ xs) (y ∷ ys) ≡ 0
shared_other x y xs ys ne = rw (ne_eqb x y ne)

-- so many bytes are alike
pub alike : (a b : List ℕ) → take (shared a b) a ≡ take (shared a b) b
alike [] [] = refl
alike [] (y ∷ ys) = refl
alike (x ∷ xs) [] = refl
alike (x ∷ xs) (y ∷ ys) = elim (cases_eq x y) [
  | inl e ↦ (let one = shared_same x y xs ys e in ap (λ n. take n (x ∷ xs)) one ∙ ap (λ z. z ∷ take (shared xs ys) xs) e ∙ ap (λ l. y ∷ l) (alike xs ys) ∙ ap (λ n. take n (y ∷ ys)) (sym one))
  | inr ne ↦ (let none = shared_other x y xs ys ne in ap (λ n. take n (x ∷ xs)) none ∙ ap (λ n. take n (y ∷ ys)) (sym none))
]

-- and the next is not, where the second is not what the first begins with
pub apart : (a b : List ℕ) → ((rest : List ℕ) → a ≡ b ++ rest → ⊥) → slice_get a (shared a b) ≡ slice_get b (shared a b) → ⊥
apart a [] other same = other a refl
apart [] (y ∷ ys) other same = cc
apart (x ∷ xs) (y ∷ ys) other same = elim (cases_eq x y) [
  | inl e ↦ (let one = shared_same x y xs ys e in
      apart xs ys (λ rest is. other rest (rw (e, is))) (ap (slice_get (x ∷ xs)) (sym one) ∙ same ∙ ap (slice_get (y ∷ ys)) one))
  | inr ne ↦ (let none = shared_other x y xs ys ne in
      let first : slice_get (x ∷ xs) 0 ≡ slice_get (y ∷ ys) 0 = ap (slice_get (x ∷ xs)) (sym none) ∙ same ∙ ap (slice_get (y ∷ ys)) none in
      ne (cc))
]

-- the part of a text round a place, as far as the bytes before and behind it end no line
pub part_around : (text : List ℕ) (place before behind : ℕ) → place ≤ length text → before ≡ suffix_len (λ b. not (is_line_feed b)) (take place text)
    → behind ≡ position_or_len is_line_feed (drop place text)
    → take (place + behind - (place - before)) (drop (place - before) text) ≡ line_around text place
part_around text place before behind within is-before is-behind =
    let xs : List ℕ = take place text in
    let ys : List ℕ = drop place text in
    let long : length xs ≡ place = length-take-le place text within in
    let few : before ≤ place = omega (arith, suffix_len-le-length (λ b. not (is_line_feed b)) xs) in
    let zs : List ℕ = drop (place - before) xs in
    let tail : drop (place - before) text ≡ zs ++ ys = ap (drop (place - before)) (sym (take-append-drop place text)) ∙ drop-append-le (place - before) xs ys (omega arith) in
    let size : place + behind - (place - before) ≡ length zs + behind = omega (arith, length-drop (place - before) xs) in
    rw (tail, size, take-append-add zs ys behind, is-before, is-behind, long)

-- the rest where the first begins with the second, and else what is learnt of the difference
pub told_by : {D : Type 0} (stored found : List ℕ) (o : Option (Bor (List ℕ))) (r : Result (Bor (List ℕ)) D) (Learnt : D → Type 0)
    → MatchOption o ((rest : List ℕ) → stored ≢ found ++ rest) (λ x. stored ≡ found ++ x.now) → MatchOption o (IsErrAnd r Learnt) (λ x. r ≡ Ok x)
    → MatchResult r (λ x. stored ≡ found ++ x.now) (λ _. (rest : List ℕ) → stored ≢ found ++ rest) × IfErr r (λ d. ((rest : List ℕ) → stored ≢ found ++ rest) × Learnt d)
told_by stored found None (Ok x) Learnt is gives = absurd gives
told_by stored found None (Err d) Learnt is gives = (is, (is, gives))
told_by stored found (Some x) r Learnt is gives = rw gives (is, tt)
