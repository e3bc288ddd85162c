use Rattle.tables.proofs.Behind.{added_zeroed}
use Rattle.std.proofs.Common.{ap, ◌∙◌}
use Rattle.rules.specs.Calls.{zeroed}
use Rattle.tables.proofs.table.need.Goals as goal

pub returns-in-None-clause-behind : goal.returns-in-None-clause-behind
returns-in-None-clause-behind g c =
    let k = c.args.key in
    ap (zeroed g.R.Row.WIDTH) c.insert.ensures.words ∙ added_zeroed g.R.Row.WIDTH (g.R.Row.fresh k) c.args.table.now (g.met.R.Row.whole k)
