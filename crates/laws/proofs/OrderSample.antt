-- The law's premise is met: two functions that call each other, in both orders.
use Rattle.std.proofs.Common.{ℕ, List, [], ◌∷◌, refl}
use Rattle.rules.specs.Kinds.{script_root, block, expression_statement, fn_declaration, function, identifier, call_expression}
use Rattle.rules.specs.Check.{check}
use Rattle.laws.specs.Law.{outcome_tree, Reordered}
use Rattle.laws.specs.Law.Shuffled.{swap}
use Rattle.rules.specs.Scripts.{a, b, own, ring}

-- function b(){a()} function a(){b()}
abbrev turned : List ℕ
turned =
    script_root ∷ 0 ∷ 0 ∷ 0 ∷ 8 ∷ 0 ∷
    fn_declaration ∷ 0 ∷ a ∷ own ∷ 3 ∷ 0 ∷
    function ∷ 0 ∷ 0 ∷ 0 ∷ 4 ∷ 0 ∷
    block ∷ 0 ∷ 0 ∷ 0 ∷ 5 ∷ 0 ∷
    expression_statement ∷ 0 ∷ 0 ∷ 0 ∷ 6 ∷ 0 ∷
    call_expression ∷ 0 ∷ 0 ∷ 0 ∷ 7 ∷ 0 ∷
    identifier ∷ 0 ∷ b ∷ own ∷ 0 ∷ 0 ∷
    fn_declaration ∷ 0 ∷ b ∷ own ∷ 9 ∷ 2 ∷
    function ∷ 0 ∷ 0 ∷ 0 ∷ 10 ∷ 0 ∷
    block ∷ 0 ∷ 0 ∷ 0 ∷ 11 ∷ 0 ∷
    expression_statement ∷ 0 ∷ 0 ∷ 0 ∷ 12 ∷ 0 ∷
    call_expression ∷ 0 ∷ 0 ∷ 0 ∷ 13 ∷ 0 ∷
    identifier ∷ 0 ∷ a ∷ own ∷ 0 ∷ 0 ∷ []

pub premise_met : Reordered ring turned (outcome_tree (check ring)) (outcome_tree (check turned))
premise_met = record {
  one = refl;
  other = refl;
  roots = refl;
  items = swap;
  without_asm = (refl, (refl, (refl, (refl, (refl, (refl, (refl, tt, tt), tt), tt), tt), tt), (refl, (refl, (refl, (refl, (refl, (refl, tt, tt), tt), tt), tt), tt), tt)), tt);
  without_asm_too = (refl, (refl, (refl, (refl, (refl, (refl, (refl, tt, tt), tt), tt), tt), tt), (refl, (refl, (refl, (refl, (refl, (refl, tt, tt), tt), tt), tt), tt), tt)), tt);
}
