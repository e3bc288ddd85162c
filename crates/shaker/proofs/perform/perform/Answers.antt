use Rattle.std.proofs.Common.{refl}
use Rattle.rules.specs.Tree.{after}
use Rattle.rules.specs.Tree.Chain.{end, link}
use Rattle.rules.specs.Kinds.{empty_statement, expression_statement}
use Rattle.rules.specs.Removal.{wrapped_object, become, joined}
use Rattle.shaker.proofs.Performs.{to_nothing, to_value, to_object, stays_at}
use Rattle.shaker.proofs.perform.perform.Goals as goal

pub lift-requires-in-Yields : goal.lift-requires-in-Yields
lift-requires-in-Yields c =
    let h = c.requires.0 in
    let ch = c.requires.1 in
    let rest = c.requires.2 in
    let at = c.requires.3 in
    (link h ch rest, after ch, to_value _ _ h ch rest at _ (c.next_of-value.ensures ch (c.first_of.ensures (link h ch rest) at.holds)))

pub lift-requires-in-Unwraps : goal.lift-requires-in-Unwraps
lift-requires-in-Unwraps c =
    let h = c.requires.0 in
    let ch = c.requires.1 in
    let rest = c.requires.2 in
    let at = c.requires.3 in
    (link h ch rest, wrapped_object ch, to_object _ _ h ch rest at _ (c.wrapped_object-object.ensures (link h ch rest) at.holds))

pub returns-in-Empties : goal.returns-in-Empties
returns-in-Empties c = λ h ch rest at.
    rw c.in-Empties.is (stays_at _ _ h ch rest at _ _ (become empty_statement h) end refl c.next_slot-in-Empties.ensures (c.empty.ensures h ch rest at))

pub returns-in-Unlinks : goal.returns-in-Unlinks
returns-in-Unlinks c = λ h ch rest at.
    rw c.in-Unlinks.is (c.lift.ensures (link h ch rest) end (to_nothing _ _ h ch rest at))

pub returns-in-Restates : goal.returns-in-Restates
returns-in-Restates c = λ h ch rest at.
    rw c.in-Restates.is
    (stays_at _ _ h ch rest at _ _ (become expression_statement h) (joined ch) refl c.next_slot-in-Restates.ensures (c.restate.ensures h ch rest at))

pub returns-in-Yields : goal.returns-in-Yields
returns-in-Yields c = λ h ch rest at.
    rw c.in-Yields.is
    (c.lift-in-Yields.ensures (link h ch rest) (after ch)
    (to_value _ _ h ch rest at _ (c.next_of-value.ensures ch (c.first_of.ensures (link h ch rest) at.holds))))

pub returns-in-Unwraps : goal.returns-in-Unwraps
returns-in-Unwraps c = λ h ch rest at.
    rw c.in-Unwraps.is
    (c.lift-in-Unwraps.ensures (link h ch rest) (wrapped_object ch)
    (to_object _ _ h ch rest at _ (c.wrapped_object-object.ensures (link h ch rest) at.holds)))
