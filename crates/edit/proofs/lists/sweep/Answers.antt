use Rattle.std.proofs.Common.{rules}
use Rattle.rules.specs.Removal.{swept}
use Rattle.edit.proofs.lists.sweep.Goals as goal

pub thin-requires-clause-thins : goal.thin-requires-clause-thins
thin-requires-clause-thins c = (swept, search rules)
