use Rattle.std.proofs.Common.{refl}
use Rattle.rules.specs.Removal.{values}
use Rattle.edit.proofs.Joins.{join_one, join_several}
use Rattle.edit.proofs.kinds.join.Goals as goal

pub returns-then-next_of-ne0 : goal.returns-then-next_of-ne0
returns-then-next_of-ne0 c = λ ch at.
    (let r = c.gather.ensures ch at in
    join_several _ _ _ _ _ _ ch refl at r (c.next_of.ensures (values ch) r.holds) c.if-next_of-ne0.true c.wrap.ensures)

pub returns-else-next_of-ne0 : goal.returns-else-next_of-ne0
returns-else-next_of-ne0 c = λ ch at.
    (let r = c.gather.ensures ch at in
    join_one _ _ _ _ ch (c.next_of.ensures (values ch) r.holds) c.if-next_of-ne0.false r)
