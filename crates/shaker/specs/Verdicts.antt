-- What a rule does with a record, and what is left of it. The contracts of `perform` and of the trait `Basis` cite it.
--
--   verdict_of      the book's verdict, without the names and the sweep of a list
--   left_of         what is left of a record: one record, or none
--   removes         a verdict that removes something
use Rattle.std.specs.Prelude.{Bool, true, false}
use Rattle.rules.specs.Tree.{Head, Chain, after}
use Rattle.rules.specs.Tree.Chain.{end, link}
use Rattle.rules.specs.Kinds.{empty_statement, expression_statement}
use Rattle.rules.specs.Removal.{become, joined, wrapped_object}
use Rattle.rules.specs.Removal.Verdict.{stays, sweeps, empties, unlinks, restates, yields, unwraps}
use Rattle.rules.specs.Removal as book
use Rattle.shaker.specs.declared.perform.Verdict.{Verdict}
use Rattle.shaker.specs.declared.perform.Verdict.TheVariants.{Stays, Empties, Unlinks, Restates, Yields, Unwraps}

-- the book's verdict, without the names; `sweeps`, which is the book's on each record with a list, is none of the code's: no rule takes
-- such a record, so that it stays, and its list is treated and swept without a verdict
abbrev pub verdict_of : book.Verdict → Verdict
verdict_of stays = Stays
verdict_of sweeps = Stays
verdict_of (empties names) = Empties
verdict_of (unlinks name) = Unlinks
verdict_of restates = Restates
verdict_of (yields name) = Yields
verdict_of unwraps = Unwraps

-- the chain whose first record, if any, takes the record's place
abbrev pub left_of : Verdict → Head → (children : Chain) → Chain
left_of Stays h children = link h children end
left_of Empties h children = link (become empty_statement h) end end
left_of Unlinks h children = end
left_of Restates h children = link (become expression_statement h) (joined children) end
left_of Yields h children = after children
left_of Unwraps h children = wrapped_object children

-- a verdict removes something by itself
abbrev pub removes : Verdict → Bool
removes Stays = false
removes Empties = true
removes Unlinks = true
removes Restates = true
removes Yields = true
removes Unwraps = true
