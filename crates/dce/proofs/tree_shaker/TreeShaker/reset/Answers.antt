use Rattle.std.proofs.Common.{rules}
use Rattle.rules.specs.Refusals.{bad_lengths}
use Rattle.rules.specs.Refusals.Outcome.{refused}
use Rattle.dce.proofs.tree_shaker.TreeShaker.reset.Goals as goal

pub returns-in_err-check_lengths-clause-answer : goal.returns-in_err-check_lengths-clause-answer
returns-in_err-check_lengths-clause-answer g c = (refused bad_lengths 0, search rules, search rules)
