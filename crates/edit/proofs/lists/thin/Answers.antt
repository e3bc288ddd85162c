use Rattle.edit.proofs.Moves.{ended}
use Rattle.edit.proofs.Turns.{may_lift, lifted, stayed}
use Rattle.edit.proofs.lists.thin.Goals as goal

pub lift-at-requires : goal.lift-at-requires
lift-at-requires g c = may_lift c.requires.thins c.requires.linked _ _ c.loop-words-test.true c.loop-words.invariant c.in-Some.ensures

pub loop-words-smaller-in-Some : goal.loop-words-smaller-in-Some
loop-words-smaller-in-Some g c =
    (lifted c.requires.thins c.requires.linked _ _ c.loop-words-test.true c.loop-words.invariant c.in-Some.ensures c.lift-at.ensures).1

pub loop-words-preserved-in-Some : goal.loop-words-preserved-in-Some
loop-words-preserved-in-Some g c =
    (lifted c.requires.thins c.requires.linked _ _ c.loop-words-test.true c.loop-words.invariant c.in-Some.ensures c.lift-at.ensures).0

pub loop-words-smaller : goal.loop-words-smaller
loop-words-smaller g c = (stayed c.requires.thins c.requires.linked _ _ c.loop-words-test.true c.loop-words.invariant c.in-None.ensures c.next_slot-at.ensures).1

pub loop-words-preserved : goal.loop-words-preserved
loop-words-preserved g c = (stayed c.requires.thins c.requires.linked _ _ c.loop-words-test.true c.loop-words.invariant c.in-None.ensures c.next_slot-at.ensures).0

pub returns : goal.returns
returns g c = λ left rule ch at. (let s = c.loop-words.invariant.1 left rule ch at in ended left rule.none _ _ ch _ _ c.loop-words-test.false s.0 s.1)
