use Rattle.std.proofs.Common.{length}
use Rattle.cases.proofs.replay_cases.Given as goal

abbrev pub decreases-loop-case : goal.decreases-loop-case
decreases-loop-case l = length l.cases.lines
