use Rattle.rings.proofs.Ruling.{closed_by_labels}
use Rattle.rings.proofs.laws.closed_by_labels.Goals as goal

pub returns : goal.returns
returns c = closed_by_labels
