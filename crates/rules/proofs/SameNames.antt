-- Two names are one exactly if the test says so; so the row that is looked at for a name bears it, and is a fresh one where there is none.
use Rattle.std.specs.Cmp.{IsEquivalence, decided}
use Rattle.std.proofs.Common.{◌≡◌, true, false, eqb, List, [], ◌∷◌, refl, arith}
use Rattle.std.proofs.lemmas.Bool.{and_parts, and_from, eqb-true, eq-eqb}
use Rattle.rules.specs.Tree.{Name}
use Rattle.rules.specs.Names.{same}
use Rattle.rules.specs.Tables.{NameRow, some_row, fresh, look, row_of}

pub same_eq : (a b : Name) → same a b ≡ true → a ≡ b
same_eq a b h =
    let p = and_parts (eqb a.symbol b.symbol) _ h in
    let x = eqb-true a.symbol b.symbol p.0 in
    let y = eqb-true a.mark b.mark p.1 in
    λ i. record { symbol = x i; mark = y i }

pub same_refl : (a : Name) → same a a ≡ true
same_refl a = and_from _ _ (eq-eqb a.symbol a.symbol refl) (eq-eqb a.mark a.mark refl)

-- so it is an equivalence
pub same_laws : IsEquivalence same
same_laws = decided same (λ a b. (same_eq a b, λ e. rw e (same_refl b)))

-- the row that is looked at bears the name
pub look_name : (n : Name) (rows : List NameRow) → (look n rows).name ≡ n
look_name n [] = refl
look_name n (r ∷ rs) = grind (arith, look_name n rs, same_eq n r.name)

-- where no row does, it is a fresh one
pub look_none : (n : Name) (rows : List NameRow) → some_row (row_of n) rows ≡ false → look n rows ≡ fresh n
look_none n [] e = refl
look_none n (r ∷ rs) e = grind (arith, look_none n rs)
