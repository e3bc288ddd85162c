use Rattle.edit.proofs.Titles.{emptied}
use Rattle.edit.proofs.kinds.empty.Goals as goal

pub returns : goal.returns
returns c = λ h ch rest at. emptied _ _ _ _ h ch rest c.set_first.ensures c.turn_into.ensures at
