-- Names: one word of ASCII. The tests of the code say of each byte what the definitions compute byte by byte.
use Rattle.std.proofs.Common.{◌≡◌, ◌≢◌, ℕ, zero, suc, true, false, eqb, List, [], ◌∷◌, length, Ok, Err, IsAscii, refl, arith, lt-ltb, ne_eqb}
use Rattle.std.specs.List.{list_any}
use Rattle.text.specs.declared.fault.Problem.TheVariants.{NotText}
use Rattle.text.specs.Lines.{ascii, name_of}

-- every byte is below 128
ascii_so : (bytes : List ℕ) → IsAscii bytes → ascii bytes ≡ true
ascii_so [] all = refl
ascii_so (b ∷ bs) all = rw (lt-ltb b 128 (all 0), ascii_so bs (λ i. all (suc i)))

ascii_all : (bytes : List ℕ) → ascii bytes ≡ true → IsAscii bytes
ascii_all [] so i = omega arith
ascii_all (b ∷ bs) so zero = grind arith
ascii_all (b ∷ bs) so (suc i) = let rest : ascii bs ≡ true = grind arith in ascii_all bs rest i

-- some byte is not
not_ascii_so : (bytes : List ℕ) → (IsAscii bytes → ⊥) → ascii bytes ≡ false
not_ascii_so bytes other = grind (arith, ascii_all bytes)

-- a good name
pub name_good : (bytes : List ℕ) → length bytes ≢ 0 → list_any (λ b. eqb b 32) bytes ≡ false → IsAscii bytes → name_of bytes ≡ Ok bytes
name_good bytes some one plain = rw (ne_eqb (length bytes) 0 some, one, ascii_so bytes plain)

-- one word that is not ASCII
pub name_not_text : (bytes : List ℕ) → length bytes ≢ 0 → list_any (λ b. eqb b 32) bytes ≡ false → (IsAscii bytes → ⊥) → name_of bytes ≡ Err NotText
name_not_text bytes some one other = rw (ne_eqb (length bytes) 0 some, one, not_ascii_so bytes other)
