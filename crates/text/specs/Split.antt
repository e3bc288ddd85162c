-- Bytes cut at a separator: lines at a line feed, words at spaces.
--
--   before, behind      what stands before the first separator, and behind it
--   split               the parts between separators; a separator at the end closes the last part and opens none
--   words               the parts between spaces that are not empty
--   each                all parts read one after another
use Rattle.std.specs.Prelude.{ℕ, cond, List, [], ◌∷◌, length, Ok, Err, Result, ◌==◌, not, filter}
use Rattle.std.specs.List.{before_first, after_first, onto_first}

-- the bytes before the first separator
abbrev pub before : (separator : ℕ) → List ℕ → List ℕ
before separator bytes = before_first (λ b. b == separator) bytes

-- the bytes behind the first separator
abbrev pub behind : (separator : ℕ) → List ℕ → List ℕ
behind separator bytes = after_first (λ b. b == separator) bytes

-- the parts between separators
abbrev pub split : (separator : ℕ) → List ℕ → List (List ℕ)
split separator [] = []
split separator (b ∷ bs) = cond (b == separator) ([] ∷ split separator bs) (onto_first b (split separator bs))

-- the words of a line
abbrev pub words : List ℕ → List (List ℕ)
words line = filter (λ part. not (length part == 0)) (split 32 line)

-- go on with a result, or stay refused
abbrev pub and_then : {A B E : Type 0} → Result A E → (A → Result B E) → Result B E
and_then (Ok a) f = f a
and_then (Err e) f = Err e

-- all parts read one after another: their values, or the first refusal
abbrev pub each : {A E : Type 0} → (List ℕ → Result A E) → List (List ℕ) → Result (List A) E
each read [] = Ok []
each read (part ∷ parts) = and_then (read part) (λ a. and_then (each read parts) (λ rest. Ok (a ∷ rest)))
