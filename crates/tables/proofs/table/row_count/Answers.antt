use Rattle.std.proofs.Common.{ap, length, ◌∙◌}
use Rattle.std.proofs.lemmas.Iterator.Consumers.{count_from_yields_List}
use Rattle.tables.proofs.Finding.{rows_come}
use Rattle.tables.proofs.table.row_count.Goals as goal

pub returns-clause-row : goal.returns-clause-row
returns-clause-row g c =
    count_from_yields_List c.of.result c.count.result c.count.ensures.ran (rows_come g.R.Row.WIDTH c.of.result) ∙ ap length c.of.ensures.left
