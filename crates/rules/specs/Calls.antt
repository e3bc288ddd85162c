-- The calls: what each answers, and what it leaves.
--
--   State, Handed, start        the tree and tables that a call finds; a caller's words as such
--   handed_fit                  what every call tests first
--   begun, cleared, filled_up   what begin, reset and a full table leave
--   Filled, Pass                the tables of a pass; a completed pass
--   pass_once                   a pass: check, fill, discount, remove
--   repeat_passes               passes until one changes nothing
--   Call, Answer, call, calls, final      the calls on a shaker that was begun, one by one and in a list
use Rattle.std.specs.Prelude.{ℕ, zero, suc, Bool, true, false, ◌&&◌, ◌||◌, List, [], ◌∷◌, ◌++◌, length, nat_le}
use Rattle.rules.specs.Tree.{Chain, Name, reached}
use Rattle.rules.specs.Refusals.{Outcome, and_then, bad_lengths}
use Rattle.rules.specs.Refusals.Outcome.{fine, refused}
use Rattle.rules.specs.Check.{tree_fits, check}
use Rattle.rules.specs.Names.{declared}
use Rattle.rules.specs.Counting.{events_of}
use Rattle.rules.specs.Tables.{Counts, Room, room, declare, fill, no_rows, table, declared_width, names_width, edges_width, declared_in_words, names_in_words, edges_in_words, read_declared}
use Rattle.rules.specs.Rings.{discount}
use Rattle.rules.specs.Removal.{Config, By, Left, going_by, treat, at_root}

-- what a call finds and leaves: the tree as the check reads it, how many words it has, the tables' words, and changed
pub record State : Type 0 where
  pub tree : Outcome Chain
  pub size : ℕ
  pub declared : List ℕ
  pub names : List ℕ
  pub edges : List ℕ
  pub changed : Bool

-- the words that a caller hands over
pub record Handed : Type 0 where
  pub tree : List ℕ
  pub declared : List ℕ
  pub names : List ℕ
  pub edges : List ℕ

-- what a call finds in them
abbrev pub start : Handed → (changed : Bool) → State
start words changed = record {
  tree = check words.tree;
  size = length words.tree;
  declared = words.declared;
  names = words.names;
  edges = words.edges;
  changed = changed;
}

-- the most words of a table or of the retain list
abbrev pub most_table_words : ℕ
most_table_words = 393216

-- what every call tests: the lengths of tree, tables and retain list
abbrev pub handed_fit : Config → State → Bool
handed_fit k s =
    tree_fits s.size
    && (nat_le (length s.declared) most_table_words
    && (nat_le (length s.names) most_table_words
    && (nat_le (length s.edges) most_table_words
    && nat_le (length k.retain) most_table_words)))

-- a table without rows
abbrev pub zeroed : (width : ℕ) → List ℕ → List ℕ
zeroed width words = table width [] words

-- begin clears changed and zeroes the tables
abbrev pub begun : State → State
begun s = record {
  tree = s.tree;
  size = s.size;
  declared = zeroed declared_width s.declared;
  names = zeroed names_width s.names;
  edges = zeroed edges_width s.edges;
  changed = false;
}

-- reset clears changed and zeroes names and edges
abbrev pub cleared : State → State
cleared s = record {
  tree = s.tree;
  size = s.size;
  declared = s.declared;
  names = zeroed names_width s.names;
  edges = zeroed edges_width s.edges;
  changed = false;
}

-- the words of declared, given the rows that they held: with such rows they stay, else they hold the new ones
abbrev pub declared_after : (held rows : List Name) → List ℕ → List ℕ
declared_after [] rows words = table declared_width (declared_in_words rows) words
declared_after (n ∷ ns) rows words = words

-- a full table zeroes names and edges, and a declared without rows
abbrev pub filled_up : State → State
filled_up s = record {
  tree = s.tree;
  size = s.size;
  declared = declared_after (read_declared s.declared) [] s.declared;
  names = zeroed names_width s.names;
  edges = zeroed edges_width s.edges;
  changed = s.changed;
}

-- the tables of a pass, before the rings are discounted
pub record Filled : Type 0 where
  pub declared : List Name
  pub counts : Counts

-- the declared names as they are held, or those of the tree if none is
abbrev pub fill_declared : Room → Chain → (held : List Name) → Outcome (List Name)
fill_declared space tree [] = declare space.declared (declared tree) []
fill_declared space tree (n ∷ ns) = fine (n ∷ ns)

-- declared, then names and edges
abbrev pub fill_tables : Room → Chain → (held : List Name) → Outcome Filled
fill_tables space tree held =
    and_then (fill_declared space tree held) (λ rows.
    and_then (fill space (events_of tree) no_rows) (λ counts.
    fine (record { declared = rows; counts = counts })))

-- a completed pass: the tree that it found and the tables that it filled
pub record Pass : Type 0 where
  pub found : Chain
  pub filled : Filled

-- what its removal goes by
abbrev pub pass_by : Config → Filled → By
pass_by k filled = let names = discount filled.counts in going_by k filled.declared names

-- what it leaves of the tree
abbrev pub remove : Config → Pass → Left
remove k p = treat (pass_by k p.filled) at_root p.found

-- an answer, what is left, and the passes that were completed
pub record After (A : Type 0) : Type 0 where
  pub answer : A
  pub state : State
  pub made : List Pass

-- what a completed pass leaves
abbrev pub passed : Config → State → Pass → State
passed k s p =
    let names = discount p.filled.counts in
    let left = remove k p in
    record {
      tree = fine left.chain;
      size = s.size;
      declared = declared_after (read_declared s.declared) p.filled.declared s.declared;
      names = table names_width (names_in_words names) s.names;
      edges = table edges_width (edges_in_words names p.filled.counts.edges) s.edges;
      changed = s.changed || left.changed;
    }

-- a pass whose tables are filled, or full
abbrev pub pass_filled : Config → State → Chain → Outcome Filled → After (Outcome Bool)
pass_filled k s tree (refused number at) = record { answer = refused number at; state = filled_up s; made = [] }
pass_filled k s tree (fine filled) =
    let p : Pass = record { found = tree; filled = filled } in
    let s' = passed k s p in
    record { answer = fine s'.changed; state = s'; made = p ∷ [] }

-- a pass whose tree is checked, or refused
abbrev pub pass_checked : Config → State → Outcome Chain → After (Outcome Bool)
pass_checked k s (refused number at) = record { answer = refused number at; state = s; made = [] }
pass_checked k s (fine tree) =
    pass_filled k s tree (fill_tables (room s.declared s.names s.edges) tree (read_declared s.declared))

-- a pass on words whose lengths fit: the answer is changed
abbrev pub pass_once : Config → State → After (Outcome Bool)
pass_once k s = pass_checked k s s.tree

-- passes until one changes nothing, resetting between; `left` is more than the passes that can be made,
-- so that its end, told as refusal 0, is never reached
abbrev pub passes_from : Config → (left : ℕ) → State → After (Outcome Bool)
passes_from k zero s = record { answer = refused 0 0; state = s; made = [] }
passes_from k (suc left) s =
    let one = pass_once k s in
    elim one.answer [
      | refused number at ↦ one
      | fine changed ↦ elim changed [
        | true ↦ (let more = passes_from k left (cleared one.state) in
            record { answer = more.answer; state = more.state; made = one.made ++ more.made })
        | false ↦ one
      ]
    ]

-- the records that a check reaches
abbrev pub reached_by : Outcome Chain → ℕ
reached_by (refused number at) = 0
reached_by (fine tree) = reached tree

-- a repeat's answer: the passes made and the records that its first check reached, or a refusal and the passes made
pub data Repeated : Type 0 where
  repeated : (passes first : ℕ) → Repeated
  stopped : (number at passes : ℕ) → Repeated

-- that answer, from how its passes ended
abbrev pub repeat_ended : Outcome Bool → (passes first : ℕ) → Repeated
repeat_ended (fine changed) passes first = repeated passes first
repeat_ended (refused number at) passes first = stopped number at passes

-- a repeat on words whose lengths fit: it resets, then passes
abbrev pub repeat_passes : Config → State → After Repeated
repeat_passes k s =
    let first = reached_by s.tree in
    let all = passes_from k (suc first) (cleared s) in
    record { answer = repeat_ended all.answer (length all.made) first; state = all.state; made = all.made }

-- the calls on a shaker that was begun
pub data Call : Type 0 where
  pass : Call
  reset : Call
  repeat : Call

-- their answers
pub data Answer : Type 0 where
  pass_answer : Outcome Bool → Answer
  reset_answer : Outcome Unit → Answer
  repeat_answer : Repeated → Answer

-- a call on words whose lengths fit
abbrev pub call_fitting : Config → Call → State → After Answer
call_fitting k pass s =
    let one = pass_once k s in record { answer = pass_answer one.answer; state = one.state; made = one.made }
call_fitting k reset s = record { answer = reset_answer (fine tt); state = cleared s; made = [] }
call_fitting k repeat s =
    let all = repeat_passes k s in record { answer = repeat_answer all.answer; state = all.state; made = all.made }

-- the answer where they do not fit
abbrev pub unfit_answer : Call → Answer
unfit_answer pass = pass_answer (refused bad_lengths 0)
unfit_answer reset = reset_answer (refused bad_lengths 0)
unfit_answer repeat = repeat_answer (stopped bad_lengths 0 0)

-- a call
abbrev pub call : Config → Call → State → After Answer
call k c s = elim (handed_fit k s) [
  | true ↦ call_fitting k c s
  | false ↦ record { answer = unfit_answer c; state = s; made = [] }
]

-- a list of calls, each on what the one before left: after each its answer, what is left and the passes made
abbrev pub calls : Config → List Call → State → List (After Answer)
calls k [] s = []
calls k (c ∷ cs) s = let one = call k c s in one ∷ calls k cs one.state

-- what a list of calls leaves
abbrev pub final : Config → List Call → State → State
final k [] s = s
final k (c ∷ cs) s = final k cs (call k c s).state

-- the passes that a list of calls completed
abbrev pub passes_made : List (After Answer) → List Pass
passes_made [] = []
passes_made (a ∷ rest) = a.made ++ passes_made rest
