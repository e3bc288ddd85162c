use Rattle.tables.proofs.Matched.{declared_told}
use Rattle.tables.proofs.declared_row.DeclaredBookRow.need.Goals as goal

pub returns-clause-book : goal.returns-clause-book
returns-clause-book c = declared_told _ _ _ _ _ c.need.ensures.row c.need.ensures.words
