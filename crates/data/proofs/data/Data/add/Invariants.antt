-- The holders still to come, from the tables as they are, are what all were from the first tables.
use Rattle.std.proofs.Common.{◌≡◌, drop}
use Rattle.data.specs.Events.{joined_all}
use Rattle.data.specs.Keeping.{words_of, Kept}
use Rattle.data.proofs.data.Data.add.Given as goal

abbrev pub invariant-loop-holder : goal.invariant-loop-holder
invariant-loop-holder l =
    (joined_all l.event.id l.event.by.usage l.event.by.assign l.event.at l.holders (words_of l.initial.self)
    ≡ joined_all l.event.id l.event.by.usage l.event.by.assign l.event.at (drop l.holder-index l.holders) (words_of l.self))
    × Kept l.initial.self l.self
