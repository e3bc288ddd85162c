-- Numbers that are written in decimal, apart by spaces, are read as they were. What is written of a number is digits alone,
-- so that a cut at spaces finds it whole, and reading a digit undoes writing it.
use Rattle.std.proofs.Common.{◌≡◌, ℕ, ◌+◌, ◌-◌, ◌*◌, ◌/◌, ◌%◌, ◌^◌, ◌<◌, true, false, eqb, ltb, List, [], ◌∷◌, ◌++◌, length, Ok, decimal, refl, ap, ◌∙◌, div-add-mod', arith, lt-ltb, ne_eqb, le-leb}
use Rattle.std.specs.Char.{digit_value}
use Rattle.std.specs.List.{onto_first}
use Rattle.std.specs.Str.Parse.{AllDigits}
use Rattle.std.proofs.lemmas.Fmt.{decimal_by_steps, decimal_is_IsNumeral, decimal_nonempty}
use Rattle.std.proofs.lemmas.Str.Parse.{digit_from_value}
use Rattle.text.specs.Split.{split, words, and_then, each}
use Rattle.text.proofs.Reading.{words_open}
use Rattle.text.specs.Numbers.{with_digit, number_from, number, written, ReadBack}

-- a digit more is one more step of the reading
number_from_push : (n b : ℕ) (bs : List ℕ) → number_from n (bs ++ b ∷ []) ≡ and_then (number_from n bs) (λ m. with_digit m b)
number_from_push n b [] = grind arith
number_from_push n b (c ∷ bs) = grind (arith, λ (m : ℕ). number_from_push m b bs)

-- a digit is read as its value
with_digit_good : (n d m : ℕ) → d < 10 → n * 10 + d ≡ m → m < 2 ^ 32 → with_digit n (48 + d) ≡ Ok m
with_digit_good n d m small is fits =
    let value : n * 10 + (48 + d - 48) ≡ m = omega arith in
    let below : ltb m (2 ^ 32) ≡ true = lt-ltb m (2 ^ 32) fits in
    rw (le-leb 48 (48 + d) (omega arith), le-leb (48 + d) 57 (omega arith), value, below)

-- what is written of a number is read as it
number_from_decimal : (n : ℕ) → n < 2 ^ 32 → number_from 0 (decimal n) ≡ Ok n
number_from_decimal n small =
    decimal_by_steps (λ n ds. n < 2 ^ 32 → number_from 0 ds ≡ Ok n)
    (λ n h fits. ap (λ r. and_then {B = ℕ} r (λ m. Ok m)) (with_digit_good 0 n n h (omega arith) fits))
    (λ n ds h read fits.
    number_from_push 0 (48 + n % 10) ds
    ∙ ap (λ r. and_then r (λ m. with_digit m (48 + n % 10))) (read (omega arith))
    ∙ with_digit_good (n / 10) (n % 10) n (omega arith) (div-add-mod' n 10) fits)
    n (omega arith) small

number_some : (bs : List ℕ) → 0 < length bs → number bs ≡ number_from 0 bs
number_some bs some = grind arith

number_decimal : (n : ℕ) → n < 2 ^ 32 → number (decimal n) ≡ Ok n
number_decimal n small = number_some (decimal n) (decimal_nonempty n (omega arith)) ∙ number_from_decimal n small

-- digits are found whole: before a space, and at the end
digit_no_space : (b : ℕ) → digit_value b < 10 → eqb b 32 ≡ false
digit_no_space b small = let digit = digit_from_value b small in ne_eqb b 32 (λ is. omega arith)

split_digits : (bs rest : List ℕ) → AllDigits 10 bs → split 32 (bs ++ 32 ∷ rest) ≡ bs ∷ split 32 rest
split_digits [] rest all = refl
split_digits (b ∷ bs) rest (small, all) = rw (digit_no_space b small, split_digits bs rest all)

split_digits_last : (bs : List ℕ) → AllDigits 10 bs → 0 < length bs → split 32 bs ≡ bs ∷ []
split_digits_last [] all some = absurd (omega arith)
split_digits_last (b ∷ []) (small, all) some = rw (digit_no_space b small)
split_digits_last (b ∷ c ∷ bs) (small, all) some =
    rw (digit_no_space b small) (ap (onto_first b) (split_digits_last (c ∷ bs) all (omega arith)))

-- the words of what is written
words_more : (n : ℕ) (rest : List ℕ) → n < 2 ^ 64 → words (decimal n ++ 32 ∷ rest) ≡ decimal n ∷ words rest
words_more n rest small =
    let numeral = decimal_is_IsNumeral n small in
    words_open (decimal n ++ 32 ∷ rest) (decimal n) rest (λ none. omega arith) (split_digits (decimal n) rest numeral.0.1)

words_last : (n : ℕ) → n < 2 ^ 64 → words (decimal n) ≡ decimal n ∷ []
words_last n small =
    let numeral = decimal_is_IsNumeral n small in
    words_open (decimal n) (decimal n) [] (λ none. omega arith) (split_digits_last (decimal n) numeral.0.1 numeral.0.0)

-- one number more
each_more : (word : List ℕ) (rest : List (List ℕ)) (n : ℕ) (ns : List ℕ) → number word ≡ Ok n → each number rest ≡ Ok ns → each number (word ∷ rest) ≡ Ok (n ∷ ns)
each_more word rest n ns first others = rw (first, others)

pub read_back : ReadBack
read_back [] all = refl
read_back (n ∷ []) (fits, all) =
    ap (each number) (words_last n (omega arith)) ∙ each_more (decimal n) [] n [] (number_decimal n fits) refl
read_back (n ∷ m ∷ ns) (fits, all) =
    ap (each number) (words_more n (written (m ∷ ns)) (omega arith))
    ∙ each_more (decimal n) (words (written (m ∷ ns))) n (m ∷ ns) (number_decimal n fits) (read_back (m ∷ ns) all)
