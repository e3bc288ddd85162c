use Rattle.std.proofs.Common.{refl}
use Rattle.rules.proofs.Reading.{tree_end, whole_end}
use Rattle.records.proofs.Openings.{depth-tree_of}
use Rattle.records.proofs.children.Children.empty.Goals as goal

pub within-requires-clause-whole : goal.within-requires-clause-whole
within-requires-clause-whole c = whole_end _ _ refl

pub within-requires-clause-deep : goal.within-requires-clause-deep
within-requires-clause-deep c = depth-tree_of _ _

pub returns : goal.returns
returns c = tree_end _ _ c.within.ensures.at
