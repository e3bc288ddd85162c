-- Reading words into values. A loop has read a front of the words; what it has, with what the rest gives, is what the
-- whole gives.
use Rattle.std.proofs.Common.{◌≡◌, ℕ, List, [], ◌∷◌, ◌++◌, length, Ok, Err, Result, append_assoc, arith, ne_eqb}
use Rattle.std.proofs.lemmas.List.{append-nil, nil_from_length}
use Rattle.text.specs.Split.{split, words, and_then, each}

-- the words of a line whose first part is a word
pub words_open : (rest word after : List ℕ) → (length word ≡ 0 → ⊥) → split 32 rest ≡ word ∷ split 32 after → words rest ≡ word ∷ words after
words_open rest word after some cut = rw (cut, ne_eqb (length word) 0 some)

module _ {A E : Type 0} (read : List ℕ → Result A E) where
  -- what words give behind values that were read before
  pub prefixed : List A → Result (List A) E → Result (List A) E
  prefixed values r = and_then r (λ more. Ok (values ++ more))

  -- `values` are read, and the line `rest` is left
  pub record Sofar (line : List ℕ) (values : List A) (rest : List ℕ) : Type 0 where
    pub gives : prefixed values (each read (words rest)) ≡ each read (words line)

  -- nothing is read yet
  pub sofar_none : (line : List ℕ) → Sofar line [] line
  unfolding prefixed
  sofar_none line = record { gives = grind arith }

  -- a value behind those that were read
  prefixed_more : (values : List A) (value : A) (r : Result (List A) E)
      → prefixed (values ++ value ∷ []) r ≡ prefixed values (and_then r (λ more. Ok (value ∷ more)))
  unfolding prefixed
  prefixed_more values value r = grind (arith, append_assoc)

  -- a word is read
  pub sofar_more : (line rest after word : List ℕ) (values : List A) (value : A) → (length word ≡ 0 → ⊥) → split 32 rest ≡ word ∷ split 32 after
      → Ok value ≡ read word → Sofar line values rest → Sofar line (values ++ value ∷ []) after
  sofar_more line rest after word values value some cut is sofar =
      let opened : words rest ≡ word ∷ words after = words_open rest word after some cut in
      record { gives = grind (arith, prefixed_more, opened, sofar.gives) }

  -- a word is refused
  pub sofar_stops : (line rest after word : List ℕ) (values : List A) (e : E) → (length word ≡ 0 → ⊥) → split 32 rest ≡ word ∷ split 32 after
      → Err e ≡ read word → Sofar line values rest → each read (words line) ≡ Err e
  unfolding prefixed
  sofar_stops line rest after word values e some cut is sofar =
      let opened : words rest ≡ word ∷ words after = words_open rest word after some cut in
      grind (arith, opened, sofar.gives)

  -- no word is left
  pub sofar_all : (line rest : List ℕ) (values : List A) → length rest ≡ 0 → Sofar line values rest → each read (words line) ≡ Ok values
  unfolding prefixed
  sofar_all line rest values none sofar =
      let empty : rest ≡ [] = nil_from_length rest none in
      grind (arith, empty, append-nil, sofar.gives)
