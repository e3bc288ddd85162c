use Rattle.text.proofs.Going.{goes_on_then}
use Rattle.text.proofs.cases.Cases.read_case.Goals as goal

pub returns-in_err-tree-clause-on : goal.returns-in_err-tree-clause-on
returns-in_err-tree-clause-on c =
    goes_on_then c.in_ok-name.ensures.on (goes_on_then c.in_ok-settings.ensures.on (goes_on_then c.in_ok-retain.ensures.on (goes_on_then c.in_ok-tables.ensures.on c.in_err-tree.ensures.on)))

pub returns-in_err-calls-clause-on : goal.returns-in_err-calls-clause-on
returns-in_err-calls-clause-on c =
    goes_on_then c.in_ok-name.ensures.on (goes_on_then c.in_ok-settings.ensures.on (goes_on_then c.in_ok-retain.ensures.on (goes_on_then c.in_ok-tables.ensures.on (goes_on_then c.in_ok-tree.ensures.on c.in_err-calls.ensures.on))))

pub returns-in_err-read-clause-on : goal.returns-in_err-read-clause-on
returns-in_err-read-clause-on c =
    goes_on_then c.in_ok-name.ensures.on (goes_on_then c.in_ok-settings.ensures.on (goes_on_then c.in_ok-retain.ensures.on (goes_on_then c.in_ok-tables.ensures.on (goes_on_then c.in_ok-tree.ensures.on (goes_on_then c.in_ok-calls.ensures.on c.in_err-read.ensures.on)))))

pub returns-clause-on : goal.returns-clause-on
returns-clause-on c =
    goes_on_then c.in_ok-name.ensures.on (goes_on_then c.in_ok-settings.ensures.on (goes_on_then c.in_ok-retain.ensures.on (goes_on_then c.in_ok-tables.ensures.on (goes_on_then c.in_ok-tree.ensures.on (goes_on_then c.in_ok-calls.ensures.on c.in_ok-read.ensures.on)))))
