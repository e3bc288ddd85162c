-- What a shaker goes by, and the members of a class one by one. The contracts of the shaker's tests cite it.
--
--   by_shaker     what a removal by the shaker goes by, given what its judge means
--   keeps_by      a member keeps its class
use Rattle.std.specs.Prelude.{Bool, ◌&&◌, ◌||◌}
use Rattle.rules.specs.Tree.{Head, Chain, ◌is◌, flagged}
use Rattle.rules.specs.Kinds.{expression, method, property, static_block}
use Rattle.rules.specs.Removal.{By, first_acts}
use Rattle.verdicts.specs.Grounds.{by_of}
use Rattle.verdicts.specs.declared.tree_shaker.TreeShaker.{TreeShaker}

-- what a removal by the shaker goes by, given what judges mean
abbrev pub by_shaker : {J : Type 0} → (acts : J → Chain → Bool) → TreeShaker J → By
by_shaker acts s = by_of (acts s.judge.now) s.basis

-- a member, first of the chain that begins with it, keeps the class: a superclass or Property value that acts, a Static block, a computed key
abbrev pub keeps_by : By → (h : Head) → (children : Chain) → (from_it : Chain) → Bool
keeps_by by h children from_it =
    (expression h.kind && first_acts by from_it)
    || (h is static_block
    || (((h is method || h is property) && flagged h)
    || (h is property && first_acts by children)))
