-- Decimal numbers below 2^32, apart by spaces.
--
--   with_digit             a number with one more digit behind it
--   number                 what a word writes
--   numbers                what a line of words writes
--   written, ReadBack      numbers as they are written; reading gives them back
use Rattle.std.specs.Prelude.{◌≡◌, ℕ, ◌+◌, ◌-◌, ◌*◌, ◌^◌, ◌<◌, cond, List, [], ◌∷◌, ◌++◌, Ok, Err, decimal, Result, nat_lt}
use Rattle.std.specs.Char.{is_ascii_digit}
use Rattle.text.specs.declared.fault.Problem.{Problem}
use Rattle.text.specs.declared.fault.Problem.TheVariants.{NotANumber, TooLarge}
use Rattle.text.specs.Split.{and_then, words, each}

-- a number with one more digit behind it
abbrev pub with_digit : ℕ → ℕ → Result ℕ Problem
with_digit n b =
    cond (is_ascii_digit b) (cond (nat_lt (n * 10 + (b - 48)) (2 ^ 32)) (Ok (n * 10 + (b - 48))) (Err TooLarge)) (Err NotANumber)

-- a number with all of these digits behind it
abbrev pub number_from : ℕ → List ℕ → Result ℕ Problem
number_from n [] = Ok n
number_from n (b ∷ bs) = and_then (with_digit n b) (λ m. number_from m bs)

-- the number that a word writes; the first byte that is no digit, or makes it too large, refuses it
abbrev pub number : List ℕ → Result ℕ Problem
number [] = Err NotANumber
number (b ∷ bs) = number_from 0 (b ∷ bs)

-- the numbers that a line writes
abbrev pub numbers : List ℕ → Result (List ℕ) Problem
numbers line = each number (words line)

-- numbers written in decimal, with a space between two
abbrev pub written : List ℕ → List ℕ
written [] = []
written (n ∷ []) = decimal n
written (n ∷ m ∷ ns) = decimal n ++ 32 ∷ written (m ∷ ns)

-- every number is below 2^32
abbrev pub AllFit : List ℕ → Type 0
AllFit [] = Unit {0}
AllFit (n ∷ ns) = (n < 2 ^ 32) × AllFit ns

-- numbers that are written are read as they were
abbrev pub ReadBack : Type 0
ReadBack = (ns : List ℕ) → AllFit ns → numbers (written ns) ≡ Ok ns
