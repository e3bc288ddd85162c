use Rattle.std.proofs.Common.{rules}
use Rattle.analyzer.specs.Walk.{referred}
use Rattle.analyzer.proofs.Paths.{part}
use Rattle.analyzer.proofs.analyzer.Analyzer.reference.Goals as goal

pub returns-then-is_own-clause-walk : goal.returns-then-is_own-clause-walk
unfolding referred
returns-then-is_own-clause-walk c = search rules

pub returns-in_err-add_reference-clause-walk : goal.returns-in_err-add_reference-clause-walk
unfolding referred
returns-in_err-add_reference-clause-walk c =
    let self = c.args.self.now in
    let held = part self.scope.start self.scope.len self.path self.scope.ordered in
    search rules

pub returns-clause-walk : goal.returns-clause-walk
unfolding referred
returns-clause-walk c =
    let self = c.args.self.now in
    let held = part self.scope.start self.scope.len self.path self.scope.ordered in
    search rules
