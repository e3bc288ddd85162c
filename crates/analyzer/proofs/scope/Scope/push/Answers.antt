use Rattle.analyzer.proofs.Paths.{shorter}
use Rattle.analyzer.proofs.scope.Scope.push.Goals as goal

pub returns-clause-kept : goal.returns-clause-kept
returns-clause-kept c = λ q e. shorter _ _ q c.args.id e
