-- What the calls find and leave, in the code's words. The contracts of the calls cite it.
--
--   handed            the words of tree and tables
--   lengths_fit       what every call tests
--   config_by         the settings of a call
--   state_by, state   what a call finds, or leaves
--   told              a repeat's answer
use Rattle.std.specs.Prelude.{ℕ, Bool, ◌&&◌, List, length, nat_le, Ok, Err, Result}
use Rattle.rules.specs.Tree.{Chain}
use Rattle.rules.specs.Check.{tree_fits}
use Rattle.rules.specs.Removal.{Config}
use Rattle.rules.specs.Calls.{State, Handed, start, most_table_words}
use Rattle.rules.specs.Calls as book
use Rattle.rules.specs.Calls.Repeated.{repeated, stopped}
use Rattle.verdicts.specs.Grounds.{config_of}
use Rattle.dce.specs.declared.tree_shaker.TreeShaker.{TreeShaker}
use Rattle.dce.specs.declared.fault.RepeatFault.{RepeatFault}
use Rattle.dce.specs.declared.repeat.Repeated.{Repeated}
use Rattle.dce.specs.Faults.{number, place}

-- the words of tree and tables
abbrev pub handed : (tree declared names edges : List ℕ) → Handed
handed tree declared names edges = record { tree = tree; declared = declared; names = names; edges = edges }

-- the lengths of tree, tables and retain list are such as a call takes
abbrev pub lengths_fit : (tree declared names edges retain : List ℕ) → Bool
lengths_fit tree declared names edges retain =
    tree_fits (length tree)
    && (nat_le (length declared) most_table_words
    && (nat_le (length names) most_table_words
    && (nat_le (length edges) most_table_words
    && nat_le (length retain) most_table_words)))

-- the settings of a call: the shaker's, what its judge means, and the retain list
abbrev pub config_by : {J : Type 0} → (acts : J → Chain → Bool) → TreeShaker J → (retain : List ℕ) → Config
config_by acts s retain = config_of s.config (acts s.judge) retain

-- what a call finds, or leaves, in the caller's words, given whether something was changed
abbrev pub state_by : (tree declared names edges : List ℕ) → (changed : Bool) → State
state_by tree declared names edges changed = start (handed tree declared names edges) changed

-- and in the shaker
abbrev pub state : {J : Type 0} → (tree declared names edges : List ℕ) → TreeShaker J → State
state tree declared names edges s = start (handed tree declared names edges) s.changed

-- a repeat's answer, as the book has it
abbrev pub told : Result Repeated RepeatFault → book.Repeated
told (Ok done) = repeated done.passes done.reached
told (Err e) = stopped (number e.fault) (place e.fault) e.passes
