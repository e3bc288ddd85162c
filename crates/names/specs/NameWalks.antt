-- The names that a walk gives by a rule. The contract of the walk over names and its rules cite it.
--
--   listed                      the records whose names are given, in walk order
--   exports, exports_below      the rule for what an Export declaration declares
use Rattle.std.specs.Prelude.{Bool, ◌||◌, List, [], ◌++◌, Option, option_map, unwrap_or}
use Rattle.rules.specs.Tree.{Head, Chain, ◌is◌}
use Rattle.rules.specs.Tree.Chain.{end, link}
use Rattle.rules.specs.Kinds.{fn_declaration, class_declaration, var_declaration, declarator}
use Rattle.rules.specs.Names.{binds, nests, keep}

-- the records whose names a rule gives, in a chain and where it goes on below
abbrev pub listed : {Rule : Type 0} → (gives : Rule → Head → Bool) → (inside : Rule → Head → Option Rule) → Rule → Chain → List Head
listed gives inside rule end = []
listed gives inside rule (link h children rest) =
    keep (gives rule h) h
    (unwrap_or (option_map (λ below. listed gives inside below children) (inside rule h)) [] ++ listed gives inside rule rest)

-- a record that an Export declaration exports by its name
abbrev pub exports : Head → Bool
exports h = h is fn_declaration || h is class_declaration || binds h

-- a record below which more of them stand
abbrev pub exports_below : Head → Bool
exports_below h = h is var_declaration || h is declarator || nests h
