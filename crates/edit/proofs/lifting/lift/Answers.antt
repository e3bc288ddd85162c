use Rattle.edit.proofs.Lifts.{lift_none, lift_some}
use Rattle.edit.proofs.lifting.lift.Goals as goal

pub returns-then-v-eq0 : goal.returns-then-v-eq0
returns-then-v-eq0 c = λ ch p l. lift_none _ _ _ _ ch p (c.next_of-rest.ensures ch l.at.holds) c.if-v-eq0.true l

pub returns-else-v-eq0 : goal.returns-else-v-eq0
returns-else-v-eq0 c = λ ch p l.
    lift_some _ _ _ _ _ _ ch p c.set_next.ensures c.next_slot.ensures (c.next_of-rest.ensures ch l.at.holds) c.if-v-eq0.false l
