use Rattle.rings.proofs.Taking.{discounted_by_edges}
use Rattle.rings.proofs.laws.discounted_by_edges.Goals as goal

pub returns : goal.returns
returns c = discounted_by_edges
