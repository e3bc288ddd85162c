use Rattle.records.proofs.Openings.{depth-tree_of}
use Rattle.records.proofs.links.Links.chain.Goals as goal

pub within-requires-clause-deep : goal.within-requires-clause-deep
within-requires-clause-deep c = depth-tree_of _ _
