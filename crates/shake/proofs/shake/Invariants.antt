use Rattle.std.proofs.Common.{length}
use Rattle.shake.proofs.shake.Given as goal

abbrev pub decreases-loop-case : goal.decreases-loop-case
decreases-loop-case l = length l.cases.lines
