-- A row that is needed of words and of the book's rows: the table's answer beside the book's.
--
--   RowThere, RowPlaced      a row is there; the row of an answer and the words that are left, beside the book's rows
--   row_placed               so they are, or both are refused alike
use Rattle.std.proofs.Common.{◌≡◌, ℕ, ◌/◌, Bool, true, false, ◌⊎◌, List, [], ◌∷◌, ◌++◌, length, Some, Ok, Err, Result, sym, refl, subst, inl, inr}
use Rattle.std.specs.Prelude.{nat_lt, if◌then◌else◌}
use Rattle.rules.specs.Refusals.Outcome.{fine, refused}
use Rattle.rules.specs.Tables.{some_row, need}
use Rattle.rules.proofs.Outcomes.{Alike}
use Rattle.tables.specs.declared.fault.TableFault.{TableFault}
use Rattle.tables.specs.Faults.{number, place}
use Rattle.tables.specs.Held.{Holds}
use Rattle.tables.specs.Living.{first_row}
use Rattle.tables.specs.Matching.{RowNeeded}
use Rattle.data.specs.Events.{Placed, placed_at, told}

module _ {Row : Type 0} (is_it : Row → Bool) (new : Row) (width : ℕ) (in_words : Row → List ℕ) (found : List ℕ) (rs : List Row) where
  -- rows with the one that is needed: it was there, or it comes last
  abbrev pub RowThere : List Row → Type 0
  RowThere more = (more ≡ rs) ⊎ ((some_row is_it rs ≡ false) × (more ≡ rs ++ (new ∷ [])))

  -- the row of a table's answer and the words that are left, beside the book's rows
  pub record RowPlaced (p : Placed) (more : List Row) : Type 0 where
    pub held : Holds width in_words found more p.words
    pub first : first_row is_it more ≡ Some p.row
    pub there : RowThere more

  there_by : (here room : Bool) (full at : ℕ) (more : List Row) → (if here then fine rs else if room then fine (rs ++ (new ∷ [])) else refused full at) ≡ fine more
      → (more ≡ rs) ⊎ ((here ≡ false) × (more ≡ rs ++ (new ∷ [])))
  there_by true room full at more e = inl cc
  there_by false true full at more e = inr (refl, cc)
  there_by false false full at more e = cc

  pub row_placed : (full at : ℕ) (t u : List ℕ) (r : Result ℕ TableFault) → RowNeeded is_it new width in_words found full at rs t u r
      → Alike RowPlaced (told r u) (need is_it new (length found / width) full at rs)
  row_placed full at t u (Ok n) (more, e, h, f) =
      subst (Alike RowPlaced (fine (placed_at n u))) (sym e)
      (record { held = h; first = f; there = there_by (some_row is_it rs) (nat_lt (length rs) (length found / width)) full at more e })
  row_placed full at t u (Err x) (e, same) = subst (Alike RowPlaced (refused (number x) (place x))) (sym e) (refl, refl)
