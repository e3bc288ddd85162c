use Rattle.std.proofs.Common.{rules}
use Rattle.analyzer.specs.Scopes.{here_inside}
use Rattle.analyzer.proofs.scope.Scope.enter.Goals as goal
use Rattle.analyzer.proofs.scope.Scope.enter.Goals.{then-eq, else-eq+then-eq-2, else-eq+else-eq-2+then-opens_scope, else-eq+else-eq-2+else-opens_scope}

pub returns-clause-here : goal.returns-clause-here
unfolding here_inside
returns-clause-here c =
    elim c.if-eq.branch [
      | then-eq w ↦ search rules
      | else-eq+then-eq-2 w ↦ search rules
      | else-eq+else-eq-2+then-opens_scope w ↦ search rules
      | else-eq+else-eq-2+else-opens_scope w ↦ search rules
    ]
