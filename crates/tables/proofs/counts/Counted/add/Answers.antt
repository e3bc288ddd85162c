use Rattle.std.proofs.Common.{rules}
use Rattle.tables.specs.Counts.{more_counts}
use Rattle.tables.proofs.Behind.{changed_zeroed, more_counts_long}
use Rattle.tables.proofs.counts.Counted.add.Goals as goal

pub returns-in-Some-clause-behind : goal.returns-in-Some-clause-behind
returns-in-Some-clause-behind g c =
    changed_zeroed g.Self.Row.WIDTH c.args.row (more_counts c.args.by.usage c.args.by.assign) _ _ (more_counts_long c.args.by.usage c.args.by.assign) (search rules)
