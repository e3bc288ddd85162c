use Rattle.records.proofs.Openings.{at_opens}
use Rattle.records.proofs.record.Record.at.Goals as goal

pub returns-clause-opened : goal.returns-clause-opened
returns-clause-opened c = at_opens _ _ _ c.read.ensures
