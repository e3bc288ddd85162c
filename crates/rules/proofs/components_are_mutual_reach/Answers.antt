use Rattle.rules.proofs.Leading.{leads_told, component_told}
use Rattle.rules.proofs.components_are_mutual_reach.Goals as goal

pub returns : goal.returns
returns c = record { leads = leads_told; component = component_told }
