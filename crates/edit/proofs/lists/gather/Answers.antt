use Rattle.std.proofs.Common.{rules}
use Rattle.rules.specs.Removal.{values}
use Rattle.edit.proofs.lists.gather.Goals as goal

pub thin-requires-clause-thins : goal.thin-requires-clause-thins
thin-requires-clause-thins c = (values, search rules)
