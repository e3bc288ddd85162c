use Rattle.tables.proofs.Matched.{names_told}
use Rattle.tables.proofs.name_row.NamesBookRow.need.Goals as goal

pub returns-clause-book : goal.returns-clause-book
returns-clause-book c = names_told _ _ _ _ _ c.need.ensures.row c.need.ensures.words
