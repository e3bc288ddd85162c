use Rattle.laws.specs.Law.{begun_on}
use Rattle.verdicts.specs.Grounds.{config_of}
use Rattle.dce.specs.Calls.{handed}
use Rattle.dce.proofs.Running.{Running}
use Rattle.dce.proofs.runs.run.Given as goal

abbrev pub invariant-loop-place : goal.invariant-loop-place
invariant-loop-place g l =
    Running g.J.Judge.acts (config_of l.fn.config (g.J.Judge.acts l.fn.judge) l.retain) l.list (begun_on (handed l.fn.tree l.fn.declared l.fn.names l.fn.edges))
    l.place l.shaker l.tree l.declared l.names l.edges l.retain l.places
