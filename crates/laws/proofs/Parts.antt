-- The three parts of the law about runs, each for every list of calls on a shaker begun on any words, whatever its settings and retain list.
-- Only the first asks that the judge be lawful.
--
--   OrderLaw            the order of top-level items does not matter
--   ReferencesLaw       a reference left to a name whose declaration was taken stands inside its closed ring
--   RepeatsLaw          a completed repeat makes few passes and leaves no removable function unused
use Rattle.std.specs.Prelude.{List}
use Rattle.rules.specs.Judges.{Lawful}
use Rattle.rules.specs.Removal.{Config}
use Rattle.rules.specs.Calls.{Handed, Call}
use Rattle.laws.specs.Law.{OrderKept, ReferencesKept, RepeatsKept}

-- the order of top-level items
abbrev pub OrderLaw : Type 0
OrderLaw = (k : Config) → Lawful k.acts → (cs : List Call) (words : Handed) → OrderKept k cs words

-- references
abbrev pub ReferencesLaw : Type 0
ReferencesLaw = (k : Config) (cs : List Call) (words : Handed) → ReferencesKept k cs words

-- repeats
abbrev pub RepeatsLaw : Type 0
RepeatsLaw = (k : Config) (cs : List Call) (words : Handed) → RepeatsKept k cs words
