-- The law about runs: what holds of every list of calls on a shaker that was begun, refused calls included.
--
--   Law                        the three parts: order, references, repeats
--   OrderKept                  the order of top-level items does not matter
--   ReferencesKept             a reference left to a name whose declaration was taken stands inside its closed ring
--   RepeatsKept                a completed repeat makes few passes, and leaves no removable function unused
use Rattle.std.specs.Prelude.{◌≡◌, ℕ, ◌≤◌, Bool, true, false, not, ◌&&◌, ◌||◌, ◌⊎◌, List, [], ◌∷◌, length, ◌==◌, if◌then◌else◌}
use Rattle.rules.specs.Tree.{Head, Chain, Name, ◌is◌, name_of, is_end, below, unnumbered}
use Rattle.rules.specs.Tree.Chain.{end, link}
use Rattle.rules.specs.Kinds.{fn_declaration, class_declaration, literal, asm_symbol}
use Rattle.rules.specs.Refusals.{Outcome}
use Rattle.rules.specs.Refusals.Outcome.{fine, refused}
use Rattle.rules.specs.Check.{check}
use Rattle.rules.specs.Held.{Numbers}
use Rattle.rules.specs.Counting.{Event, unheld, events_of}
use Rattle.rules.specs.Names.{among}
use Rattle.rules.specs.Rings.{component, closed}
use Rattle.rules.specs.Judges.{Lawful}
use Rattle.rules.specs.Removal.{Config, Place, at_root, place_inside, permitted, retained, entered, taken, gave}
use Rattle.rules.specs.Calls.{State, Handed, Pass, After, Call, Answer, start, begun, pass_by, calls, final, passes_made}
use Rattle.rules.specs.Calls.Answer.{pass_answer, reset_answer, repeat_answer}
use Rattle.rules.specs.Calls.Repeated.{repeated, stopped}

-- x stands in a list
abbrev pub In : {A : Type 0} → A → List A → Type 0
In x [] = ⊥
In x (y ∷ ys) = (x ≡ y) ⊎ In x ys

-- a shaker begun on a caller's words
abbrev pub begun_on : Handed → State
begun_on words = begun (start words false)

-- the tree of a state, where the check takes it
abbrev pub outcome_tree : Outcome Chain → Chain
outcome_tree (fine tree) = tree
outcome_tree (refused number at) = end

-- what a list of calls leaves of a caller's tree
abbrev pub left_by : Config → List Call → Handed → Chain
left_by k cs words = outcome_tree (final k cs (begun_on words)).tree

-- ORDER

-- the same items in another order
pub data Shuffled : Chain → Chain → Type 0 where
  none : Shuffled end end
  past : {h : Head} {children a b : Chain} → Shuffled a b → Shuffled (link h children a) (link h children b)
  swap : {h g : Head} {cs ds rest : Chain} → Shuffled (link h cs (link g ds rest)) (link g ds (link h cs rest))
  again : {a b c : Chain} → Shuffled a b → Shuffled b c → Shuffled a c

-- the kind of a tree's root
abbrev pub root_kind : Chain → ℕ
root_kind end = 0
root_kind (link h children rest) = h.kind

-- no string 'use asm' anywhere
abbrev pub WithoutAsm : Chain → Type 0
WithoutAsm end = Unit {0}
WithoutAsm (link h children rest) =
    ((h is literal && h.symbol == asm_symbol) ≡ false) × WithoutAsm children × WithoutAsm rest

-- trees that the check takes, without 'use asm', that differ only in the order of top-level items, record numbers apart
pub record Reordered (words others : List ℕ) (c d : Chain) : Type 0 where
  pub one : check words ≡ fine c
  pub other : check others ≡ fine d
  pub roots : root_kind c ≡ root_kind d
  pub items : Shuffled (unnumbered (below c)) (unnumbered (below d))
  pub without_asm : WithoutAsm c
  pub without_asm_too : WithoutAsm d

-- shakers begun alike: besides settings, judge and retain list, the lengths of tree and tables agree
pub record BegunAlike (words others : Handed) : Type 0 where
  pub tree : length words.tree ≡ length others.tree
  pub declared : length words.declared ≡ length others.declared
  pub names : length words.names ≡ length others.names
  pub edges : length words.edges ≡ length others.edges

-- what an answer tells when a refusal's number and record are left aside
pub data Told : Type 0 where
  done : Told
  changed : Bool → Told
  passes_and_reached : (passes first : ℕ) → Told
  not_completed : Told

-- what a call tells
abbrev pub told : Answer → Told
told (pass_answer (fine b)) = changed b
told (pass_answer (refused number at)) = not_completed
told (reset_answer (fine u)) = done
told (reset_answer (refused number at)) = not_completed
told (repeat_answer (repeated passes first)) = passes_and_reached passes first
told (repeat_answer (stopped number at passes)) = not_completed

-- what a call tells, and how many passes it completed
pub record Telling : Type 0 where
  pub answer : Told
  pub passes : ℕ

-- of each call of a list
abbrev pub tellings : List (After Answer) → List Telling
tellings [] = []
tellings (a ∷ rest) = record { answer = told a.answer; passes = length a.made } ∷ tellings rest

-- what stands under a record number among items, record numbers apart; nothing is `end`
abbrev pub item_at : ℕ → Chain → Chain
item_at n end = end
item_at n (link h children rest) =
    if n == h.number then unnumbered (link h children end) else item_at n rest

-- the same is lost: two items that were equal, record numbers apart, have equal remains
abbrev pub SameLost : (c d left_of_c left_of_d : Chain) → Type 0
SameLost c d c' d' =
    (a b : ℕ) → item_at a (below c) ≡ item_at b (below d) → item_at a (below c') ≡ item_at b (below d')

-- two shakers go alike through a list of calls: each call completes on both or on neither, after equally many passes,
-- with equal answers where completed; and both lose the same
pub record GoesAlike (k : Config) (cs : List Call) (words others : Handed) (c d : Chain) : Type 0 where
  pub answers : tellings (calls k cs (begun_on words)) ≡ tellings (calls k cs (begun_on others))
  pub lost : SameLost c d (left_by k cs words) (left_by k cs others)

-- the order of top-level items does not matter
abbrev pub OrderKept : Config → List Call → Handed → Type 0
OrderKept k cs words =
    (others : Handed) (c d : Chain) → BegunAlike words others → Reordered words.tree others.tree c d
    → GoesAlike k cs words others c d

-- REFERENCES

-- an event that is a reference, and not a mark
abbrev pub Reference : Event → Type 0
Reference e = e.entry ≡ unheld e.holders

-- record i stands below a Fn or Class declaration of the name n
abbrev pub Inside : Name → ℕ → Chain → Type 0
Inside n i end = ⊥
Inside n i (link h children rest) =
    (((h is fn_declaration || h is class_declaration) ≡ true) × (n ≡ name_of h) × Numbers i children)
    ⊎ (Inside n i children ⊎ Inside n i rest)

-- an event of the tree `left` stands inside a declaration left there of a name that shares a closed ring with its own name,
-- by the edges that a pass counted
pub record InsideRing (p : Pass) (left : Chain) (e : Event) : Type 0 where
  pub holder : Name
  pub inside : Inside holder e.at left
  pub ring : closed p.filled.counts e.name ≡ true
  pub shares : among holder (component p.filled.counts.edges e.name) ≡ true

-- every counted reference left to a name whose declaration a pass of the list took, and every counted reading left
-- of a name of which an Assignment gave way in it, stands inside that pass's closed ring
abbrev pub ReferencesKept : Config → List Call → Handed → Type 0
ReferencesKept k cs words =
    (p : Pass) → In p (passes_made (calls k cs (begun_on words)))
    → (e : Event) → In e (events_of (left_by k cs words)) → Reference e
    → In e.name (taken (pass_by k p.filled) at_root p.found)
    ⊎ (In e.name (gave (pass_by k p.filled) at_root p.found) × (e.writes ≡ false))
    → InsideRing p (left_by k cs words) e

-- REPEATS

-- a function declaration that is not exported, permitted, and not retained
abbrev pub removable : Config → Place → Head → Bool
removable k p h =
    h is fn_declaration && (not p.in_export && (permitted k p true && not (retained k (name_of h))))

-- the rules enter such a declaration of the name n
abbrev pub Removable : Config → Place → Name → Chain → Type 0
Removable k p n end = ⊥
Removable k p n (link h children rest) =
    ((entered p h children (is_end rest) ≡ true)
    × (((removable k p h ≡ true) × (n ≡ name_of h)) ⊎ Removable k (place_inside p h) n children))
    ⊎ Removable k p n rest

-- a name is counted: a reference to it or a mark of it is left
abbrev pub Counted : Name → List Event → Type 0
Counted n [] = ⊥
Counted n (e ∷ es) = (n ≡ e.name) ⊎ Counted n es

-- a repeat that was completed made at most as many passes as the records that it returns,
-- and no removable function that it left lacks both a counted reference and a mark
pub record RepeatKept (k : Config) (passes first : ℕ) (left : Chain) : Type 0 where
  pub bounded : passes ≤ first
  pub used : (n : Name) → Removable k at_root n left → Counted n (events_of left)

-- every completed repeat of the list is such
abbrev pub RepeatsKept : Config → List Call → Handed → Type 0
RepeatsKept k cs words =
    (a : After Answer) → In a (calls k cs (begun_on words))
    → (passes first : ℕ) → a.answer ≡ repeat_answer (repeated passes first)
    → RepeatKept k passes first (outcome_tree a.state.tree)

-- THE LAW

-- for every list of calls on a shaker begun on any words
pub record Law (k : Config) (cs : List Call) (words : Handed) : Type 0 where
  pub order : OrderKept k cs words
  pub references : ReferencesKept k cs words
  pub repeats : RepeatsKept k cs words

-- the law about runs: for every setting, retain list, judge that is lawful, list of calls, tree and tables
abbrev pub LawAboutRuns : Type 0
LawAboutRuns = (k : Config) → Lawful k.acts → (cs : List Call) (words : Handed) → Law k cs words
