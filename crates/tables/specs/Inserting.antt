-- What an insertion comes to: `t` is a table, `u` the same with a row behind its last. The contract of the insertion cites it.
--
--   ComesAlive      the rows afterwards
--   FoundThere      the answer for the new row's key
--   OthersStay      the answers for all other keys
--   HoldsMore       a table that held rows holds one more
--   answered, placed      a row that is looked up, and put behind the last if it is not there: the answer, and the table left
use Rattle.std.specs.Prelude.{◌≡◌, ℕ, ◌+◌, ◌<◌, Bool, true, false, List, [], ◌∷◌, ◌++◌, Some, None, Ok, Err, Option, Result, slice_index, if◌then◌else◌}
use Rattle.tables.specs.declared.fault.TableFault.{TableFault}
use Rattle.tables.specs.Living.{rows, used, free, behind, keyed, first_row, added}
use Rattle.tables.specs.Held.{Holds}

-- the new row follows the rows, and what lay behind the first free row follows it: words there that are not 0 come alive
abbrev pub ComesAlive : (width : ℕ) → (row t u : List ℕ) → Type 0
ComesAlive width row t u =
    free width t ≡ true → 0 < slice_index row 0 → rows width u ≡ rows width t ++ (row ∷ rows width (behind width t))

-- the key, which no row had, is found at the new row
abbrev pub FoundThere : (List ℕ → Bool) → (width : ℕ) → (row t u : List ℕ) → Type 0
FoundThere has_key width row t u =
    free width t ≡ true → 0 < slice_index row 0 → first_row has_key (rows width t) ≡ None → first_row has_key (rows width u) ≡ Some (used width t + 1)

-- where nothing comes alive, every other key has the answer that it had
abbrev pub OthersStay : {Key : Type 0} → (Key → Key → Bool) → (List ℕ → Key) → Key → (width : ℕ) → (t u : List ℕ) → Type 0
OthersStay {Key} same key_of k width t u =
    rows width (behind width t) ≡ [] → (other : Key) → same other k ≡ false
    → first_row (keyed same key_of other) (rows width u) ≡ first_row (keyed same key_of other) (rows width t)

-- where the table holds rows, nothing comes alive: it holds the new row besides
abbrev pub HoldsMore : (width : ℕ) → (row t u : List ℕ) → Type 0
HoldsMore width row t u =
    (found : List ℕ) (rs : List (List ℕ)) → Holds width (λ r. r) found rs t → free width t ≡ true → 0 < slice_index row 0
    → (rows width (behind width t) ≡ []) × Holds width (λ r. r) found (rs ++ (row ∷ [])) u

-- the row that was found, or the one put behind the last, if one is free
abbrev pub answered : (width : ℕ) → TableFault → List ℕ → Option ℕ → Result ℕ TableFault
answered width fault t (Some n) = Ok n
answered width fault t None = if free width t then Ok (used width t + 1) else Err fault

-- what is left of the table
abbrev pub placed : (width : ℕ) → (row t : List ℕ) → Option ℕ → List ℕ
placed width row t (Some n) = t
placed width row t None = added width row t
