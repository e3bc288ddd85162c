use Rattle.std.proofs.Common.{rules}
use Rattle.analyzer.specs.Walk.{leaving}
use Rattle.analyzer.proofs.analyzer.Analyzer.leave_scope.Goals as goal

pub returns-in_err-mark_below-clause-marks : goal.returns-in_err-mark_below-clause-marks
unfolding leaving
returns-in_err-mark_below-clause-marks c = search rules

pub returns-clause-marks : goal.returns-clause-marks
unfolding leaving
returns-clause-marks c = search rules
