use Rattle.tally.proofs.Filling.{filled_told}
use Rattle.tally.proofs.words_hold_the_rows_of_a_count.Goals as goal

pub returns : goal.returns
returns c = filled_told
