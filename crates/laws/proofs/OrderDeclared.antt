-- The declared names, each once: the same names in another order give as many rows, which hold the same names;
-- and each has a symbol, since the records of a checked tree that declare a name bear one.
--
--   declared_names, declared_sizes         rows from the same names
--   Symbols, symbols_declared              rows whose first word is not 0
--   signed_symbols                         records that have a symbol
--   symbols_of_tree                        the rows of a tree formed by the table of kinds
use Rattle.std.specs.Prelude.{if◌then◌else◌}
use Rattle.std.proofs.Common.{◌≡◌, Bool, true, false, ◌||◌, eqb, List, [], ◌∷◌, length, sym, refl, ap, ◌∙◌, subst, arith}
use Rattle.std.proofs.lemmas.Bool.Decides.{nat_tests}
use Rattle.rules.specs.Tree.{Head, Chain, Name, name_of}
use Rattle.rules.specs.Grammar.{root}
use Rattle.rules.specs.Held.{Formed}
use Rattle.rules.specs.Names.{same, among, names_of, under_nothing, declared}
use Rattle.rules.specs.Tables.{some_row}
use Rattle.rules.proofs.Declared.{Signed, declaring_signed}
use Rattle.rules.proofs.SameNames.{same_eq, same_laws}
use Rattle.laws.proofs.TablesRows.{with_row, some_with_row}
use Rattle.laws.proofs.TablesSizes.{Single, single_none, single_with_row, equal_sizes}
use Rattle.laws.proofs.TablesRoom.{all_declared}

-- THE SAME NAMES

some_declared : (n : Name) (hs : List Head) (rows : List Name) → some_row (same n) (all_declared hs rows) ≡ (among n (names_of hs) || some_row (same n) rows)
some_declared n [] rows = refl
some_declared n (h ∷ hs) rows =
    let there = some_with_row (same n) (same (name_of h)) (name_of h) (λ r q x. subst (λ (m : Name). same n m ≡ true) (same_eq (name_of h) r q) x) rows in
    grind (arith, some_declared n hs (with_row (same (name_of h)) (name_of h) rows), there)

-- a name is its own key
abbrev itself : Name → Name
itself n = n

single_onward : (hs : List Head) (rows : List Name) → Single itself same rows → Single itself same (all_declared hs rows)
single_onward [] rows p = p
single_onward (h ∷ hs) rows p = single_onward hs (with_row (same (name_of h)) (name_of h) rows) (single_with_row itself same_laws (name_of h) rows p)

pub declared_names : (hs gs : List Head) → ((n : Name) → among n (names_of hs) ≡ among n (names_of gs)) → (n : Name) → among n (all_declared hs []) ≡ among n (all_declared gs [])
declared_names hs gs e n = some_declared n hs [] ∙ (ap (λ (b : Bool). b || false) (e n) ∙ sym (some_declared n gs []))

pub declared_sizes : (hs gs : List Head) → ((n : Name) → among n (names_of hs) ≡ among n (names_of gs)) → length (all_declared hs []) ≡ length (all_declared gs [])
declared_sizes hs gs e =
    let none = single_none itself same in
    equal_sizes itself same_laws (all_declared hs []) (all_declared gs []) (single_onward hs [] none) (single_onward gs [] none) (declared_names hs gs e)

-- SYMBOLS

-- each name has a symbol
abbrev pub Symbols : List Name → Type 0
Symbols [] = Unit {0}
Symbols (n ∷ ns) = (eqb n.symbol 0 ≡ false) × Symbols ns

symbols_with : (n : Name) (is_it : Name → Bool) (rows : List Name) → eqb n.symbol 0 ≡ false → Symbols rows → Symbols (with_row is_it n rows)
symbols_with n is_it [] p q = (p, tt)
symbols_with n is_it (r ∷ rs) p q = elim (is_it r) as (λ b. Symbols (if b then r ∷ rs else r ∷ with_row is_it n rs)) [ true ↦ q | false ↦ (q.0, symbols_with n is_it rs p q.1) ]

symbols_declared : (hs : List Head) (rows : List Name) → Symbols (names_of hs) → Symbols rows → Symbols (all_declared hs rows)
symbols_declared [] rows p q = q
symbols_declared (h ∷ hs) rows p q = symbols_declared hs (with_row (same (name_of h)) (name_of h) rows) p.1 (symbols_with (name_of h) (same (name_of h)) rows p.0 q)

-- records that have a symbol, by their names
signed_symbols : (hs : List Head) → Signed hs → Symbols (names_of hs)
signed_symbols [] s = tt
signed_symbols (h ∷ hs) s = (grind (arith, nat_tests, s.0), signed_symbols hs s.1)

pub symbols_of_tree : (c : Chain) → Formed root c → Symbols (all_declared (declared c) [])
symbols_of_tree c f = symbols_declared (declared c) [] (signed_symbols (declared c) (declaring_signed root under_nothing c f)) tt
