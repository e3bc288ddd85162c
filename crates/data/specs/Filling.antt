-- The events of a count, entered one after another into the words of names and edges. The contracts of what counts cite it.
--
--   id_of, ids_of                  names as keys
--   enter_words, fill_words        one event; all events, up to the first that is refused
use Rattle.std.specs.Prelude.{List, [], ◌∷◌}
use Rattle.rules.specs.Tree.{Name}
use Rattle.rules.specs.Refusals.{Outcome, and_then}
use Rattle.rules.specs.Refusals.Outcome.{fine}
use Rattle.rules.specs.Counting.{Event}
use Rattle.rules.specs.Tables.{reads, writes}
use Rattle.records.specs.declared.id.Id.{Id}
use Rattle.data.specs.Events.{Tables, entered}

-- a name as a key
abbrev pub id_of : Name → Id
id_of n = record { symbol = n.symbol; mark = n.mark }

-- names as keys
abbrev pub ids_of : List Name → List Id
ids_of [] = []
ids_of (n ∷ ns) = id_of n ∷ ids_of ns

-- one event
abbrev pub enter_words : Event → Tables → Outcome Tables
enter_words e t = entered (id_of e.name) (reads e) (writes e) e.entry e.at (ids_of e.holders) t

-- all events
abbrev pub fill_words : List Event → Tables → Outcome Tables
fill_words [] t = fine t
fill_words (e ∷ es) t = and_then (enter_words e t) (λ more. fill_words es more)
