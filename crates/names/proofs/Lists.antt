-- The lists that the rules give are the book's.
use Rattle.std.specs.Prelude.{option_map, unwrap_or, Some, if◌then◌else◌}
use Rattle.std.specs.Bool.{then_some}
use Rattle.std.proofs.Common.{◌≡◌, Bool, true, false, List, [], refl}
use Rattle.rules.specs.Tree.{Head, Chain}
use Rattle.rules.specs.Tree.Chain.{end, link}
use Rattle.rules.specs.Names.{binds, nests, bound, Under, under, declares, declaring, exported}
use Rattle.names.specs.declared.bound.Bound.{Bound}
use Rattle.names.specs.declared.exported.Exported.{Exported}
use Rattle.names.specs.NameWalks.{listed, exports, exports_below}

-- what is given where the walk goes on only under a condition
gone_on : {R : Type 0} (some : Bool) (rule : R) (given : R → List Head) → unwrap_or (option_map given (then_some some rule)) [] ≡ (if some then given rule else [])
gone_on true rule given = refl
gone_on false rule given = refl

pub lists_bound : (rule : Bound) (c : Chain) → listed (λ _. binds) (λ r h. then_some (nests h) r) rule c ≡ bound c
lists_bound rule end = refl
lists_bound rule (link h children rest) = simp (gone_on, lists_bound rule children, lists_bound rule rest)

pub lists_exported : (rule : Exported) (c : Chain) → listed (λ _. exports) (λ r h. then_some (exports_below h) r) rule c ≡ exported c
lists_exported rule end = refl
lists_exported rule (link h children rest) = simp (gone_on, lists_exported rule children, lists_exported rule rest)

pub lists_declaring : (u : Under) (c : Chain) → listed declares (λ u h. Some (under u h)) u c ≡ declaring u c
lists_declaring u end = refl
lists_declaring u (link h children rest) = simp (lists_declaring (under u h) children, lists_declaring u rest)
