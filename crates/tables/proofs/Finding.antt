-- A walk over the rows of a table gives its rows; the place of the first that passes is one less than its number.
use Rattle.std.proofs.Common.{◌≡◌, ℕ, ◌+◌, Bool, true, false, List, [], ◌∷◌, length, Some, Option, refl, ap, ◌∙◌, cond}
use Rattle.std.proofs.lemmas.Iterator.{YieldsList}
use Rattle.std.proofs.lemmas.Iterator.Consumers.{YieldsList-from_shown}
use Rattle.std.proofs.lemmas.Iterator.Adapters.{position_from-zero}
use Rattle.std.proofs.lemmas.Iterator.Search.{position_from_yields_List}
use Rattle.std.specs.Borrow.{Bor}
use Rattle.std.specs.Fn.{Called, Mut}
use Rattle.std.specs.Iterator.{FindsPosition}
use Rattle.std.specs.List.{position_from}
use Rattle.std.specs.Option.{option_map}
use Rattle.tables.specs.declared.rows.Rows.{Rows}
use Rattle.tables.specs.Living.{first_from, first_row}
use Rattle.tables.specs.Walking.{rows_left, GivesRow}

-- the rows that are left come one after another
pub rows_come : {R : Type 0} (w : ℕ) (s : Rows R) → YieldsList (GivesRow w) (λ x. x.now) s (rows_left w s)
rows_come w s = YieldsList-from_shown (GivesRow w) (λ x. x.now) (rows_left w) (λ s t e. ap length e) (λ s x t e. e.0) s

-- a place is counted from 0, and a number from 1
counted_on : {Row : Type 0} (passes : Row → Bool) (n : ℕ) (rs : List Row) → option_map (λ i. i + 1) (position_from passes n rs) ≡ first_from passes n rs
counted_on passes n [] = refl
counted_on passes n (r ∷ rs) =
    let more = counted_on passes (n + 1) rs in
    elim (passes r) as (λ (b : Bool). option_map (λ i. i + 1) (cond b (Some n) (position_from passes (n + 1) rs)) ≡ cond b (Some (n + 1)) (first_from passes (n + 1) rs)) [ true ↦ refl | false ↦ more ]

-- so the place that `position` gives is one less than the number of the first row that passes
pub row_found : {R F : Type 0} {g : Mut F (Bor (List ℕ) × Unit {0}) Bool} (w : ℕ) (passes : List ℕ → Bool) (s u : Rows R) (f : F) (p : Option ℕ)
    → FindsPosition (GivesRow w) g s f p u → ((x : Bor (List ℕ)) (b : Bool) (q : F) → Called g f (x, tt) b q → (q ≡ f) × (b ≡ passes x.now))
    → option_map (λ i. i + 1) p ≡ first_row passes (rows_left w s)
row_found w passes s u f p ran answers =
    ap (option_map (λ i. i + 1)) (position_from_yields_List passes u f p ran (rows_come w s) answers ∙ position_from-zero passes (rows_left w s))
    ∙ counted_on passes 0 (rows_left w s)
