use Rattle.tally.proofs.Weights.{counts_fit}
use Rattle.tally.proofs.counts_stay_below_2_32.Goals as goal

pub returns : goal.returns
returns c = counts_fit
