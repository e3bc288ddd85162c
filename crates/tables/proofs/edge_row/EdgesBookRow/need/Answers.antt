use Rattle.tables.proofs.Matched.{edges_told}
use Rattle.tables.proofs.edge_row.EdgesBookRow.need.Goals as goal

pub returns-clause-book : goal.returns-clause-book
returns-clause-book c = edges_told _ _ _ _ _ c.need.ensures.row c.need.ensures.words
