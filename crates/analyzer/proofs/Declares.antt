-- The declared table, filled name by name in words, is the book's.
-- A name's row is needed of both, and both go on alike, so they agree on any list of names.
use Rattle.std.proofs.Common.{ℕ, ◌/◌, List, [], ◌∷◌, length, Ok, Err, Result, sym, refl, subst}
use Rattle.rules.specs.Tree.{Head, Name, name_of}
use Rattle.rules.specs.Names.{same}
use Rattle.rules.specs.Refusals.{Outcome, declared_full}
use Rattle.rules.specs.Refusals.Outcome.{fine, refused}
use Rattle.rules.specs.Tables.{declared_width, need, declare}
use Rattle.rules.proofs.Declared.{Signed}
use Rattle.rules.proofs.Outcomes.{Alike, then_alike}
use Rattle.tables.specs.declared.fault.TableFault.{TableFault}
use Rattle.tables.specs.Matching.{DeclaredHeld, RowNeeded, id_words}
use Rattle.tables.specs.Faults.{number, place}
use Rattle.tables.proofs.Matched.{declared_told}
use Rattle.names.specs.Sinks.{each}
use Rattle.analyzer.specs.Declaring.{told, declare_words}

-- the words are those of the rows, or both are refused alike
abbrev pub Agree : (found : List ℕ) → Outcome (List ℕ) → Outcome (List Name) → Type 0
Agree found = Alike (λ words names. DeclaredHeld found names words)

-- so they are where a row was needed
row_agrees : (found : List ℕ) (n : Name) (at : ℕ) (ns : List Name) (t u : List ℕ) (r : Result ℕ TableFault)
    → RowNeeded (same n) n declared_width id_words found declared_full at ns t u r
    → Agree found (told r u) (need (same n) n (length found / declared_width) declared_full at ns)
row_agrees found n at ns t u (Ok row) (more, e, h, first) = subst (Agree found (fine u)) (sym e) h
row_agrees found n at ns t u (Err x) (e, stays) = subst (Agree found (refused (number x) (place x))) (sym e) (refl, refl)

-- the words agree with the book's rows on any list of names
pub declares_agree : (found : List ℕ) (hs : List Head) (ns : List Name) (words : List ℕ) → Signed hs → DeclaredHeld found ns words
    → Agree found (each declare_words hs words) (declare (length found / declared_width) hs ns)
declares_agree found [] ns words all held = held
declares_agree found (h ∷ hs) ns words all held =
    then_alike (λ t ms. DeclaredHeld found ms t) (λ t ms. DeclaredHeld found ms t) (declare_words h words)
    (need (same (name_of h)) (name_of h) (length found / declared_width) declared_full h.number ns) _ _
    (row_agrees found (name_of h) h.number ns words _ _ (declared_told (record { symbol = h.symbol; mark = h.mark }) h.number words _ _ refl refl found ns all.0 held))
    (λ t ms more. declares_agree found hs ms t all.1 more)
