use Rattle.edit.proofs.Moves.{child_by}
use Rattle.edit.proofs.Joins.{restated}
use Rattle.edit.proofs.kinds.restate.Goals as goal

pub returns : goal.returns
returns c = λ h ch rest at.
    restated _ _ _ _ _ h ch rest c.first_slot.ensures at (c.join.ensures ch (child_by _ _ h ch rest at _ c.first_slot.ensures)) c.turn_into.ensures
