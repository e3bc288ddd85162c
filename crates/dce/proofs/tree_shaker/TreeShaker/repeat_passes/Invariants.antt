use Rattle.rules.specs.Calls.{reached_by}
use Rattle.std.proofs.Common.{◌+◌}
use Rattle.rules.specs.Check.{check}
use Rattle.rules.specs.Tables.{bit}
use Rattle.dce.specs.Calls.{state}
use Rattle.dce.proofs.Repeating.{Looping}
use Rattle.dce.proofs.tree_shaker.TreeShaker.repeat_passes.Given as goal

abbrev pub invariant-loop-changed : goal.invariant-loop-changed
invariant-loop-changed g l = Looping g.J.Judge.acts l.fn.self (state l.fn.tree l.fn.declared l.fn.names l.fn.edges l.fn.self) l.passes l.self l.tree l.declared l.names l.edges l.retain l.changed

abbrev pub decreases-loop-changed : goal.decreases-loop-changed
decreases-loop-changed g l = reached_by (check l.tree) + bit l.changed
