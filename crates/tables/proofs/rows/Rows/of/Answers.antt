use Rattle.tables.proofs.Cutting.{rows_few, rows_within}
use Rattle.tables.proofs.rows.Rows.of.Goals as goal

pub returns-clause-few : goal.returns-clause-few
returns-clause-few g c = rows_few g.R.Row.WIDTH c.args.table.now

pub returns-clause-whole : goal.returns-clause-whole
returns-clause-whole g c = rows_within g.R.Row.WIDTH c.args.table.now
