-- Names noted in memory: a name is found exactly if it was noted.
use Rattle.std.specs.List.{list_any}
use Rattle.std.proofs.Common.{◌≡◌, ℕ, ◌||◌, List, [], ◌∷◌, reverse, sym, refl, ap, ◌∙◌}
use Rattle.std.proofs.lemmas.List.Sorted.{list_any-IsPermutation, IsPermutation-reverse}
use Rattle.rules.specs.Tree.{Name}
use Rattle.rules.specs.Names.{same, among}
use Rattle.marks.specs.Noting.{name_in, names_in}

-- some pair is a name exactly if that is among the names of the pairs
pub among_pairs : (n : Name) (pairs : List (List ℕ)) → list_any (λ p. same n (name_in p)) pairs ≡ among n (names_in pairs)
among_pairs n [] = refl
among_pairs n (p ∷ ps) = ap (λ b. same n (name_in p) || b) (among_pairs n ps)

-- the same, looked for from the last pair to the first
pub among_turned : (n : Name) (pairs : List (List ℕ)) → list_any (λ p. same n (name_in p)) (reverse pairs) ≡ among n (names_in pairs)
among_turned n pairs = sym (list_any-IsPermutation (λ p. same n (name_in p)) pairs (reverse pairs) (IsPermutation-reverse pairs)) ∙ among_pairs n pairs
