-- A chain changed in place. The contracts of the writers cite it; it assumes nothing.
--
--   first_slot, next_slot, owner      the two linking words of a record; the record that a word belongs to
--   Linked                            a word, the slot, links to a chain
--   Part                              a chain of records of another, each once
--   Made                              the words, with a chain in the place of the one that a slot links to
--   LinksChain, LinksRecord           a slot links to a chain; to a record
--   Turns, TurnsRecord                what is made in the place of the chain or record, whichever the slot links to
--   onto, slot_after                  what follows, after one record or none; its slot
--   Lift, Step                        a record that gives way to one below it, or to none; what that comes to
--   Heir, Leaves, Thins               what is left of a chain whose records stay or give way
--   nothing                           what a list drops
--   wrapped                           a chain put under a plain expression
use Rattle.std.specs.Prelude.{◌≡◌, ℕ, ◌+◌, ◌-◌, ◌*◌, ◌/◌, ◌<◌, Bool, false, ◌&&◌, ◌||◌, Option, Some, None, List, length, ◌≢◌, slice_index, slice_set}
use Rattle.std.specs.Borrow.{Bor}
use Rattle.rules.specs.Tree.{Head, Chain, ◌is◌, is_end, below, after, alone, append}
use Rattle.rules.specs.Tree.Chain.{end, link}
use Rattle.rules.specs.Kinds.{empty_statement, block, plain_expression}
use Rattle.rules.specs.Words.{Holds}
use Rattle.rules.specs.Held.{Numbers, Apart}
use Rattle.records.specs.Writes.{with_word, turned}

-- the word of record n that links to its first child
abbrev pub first_slot : ℕ → ℕ
first_slot n = 6 * (n - 1) + 4

-- the word of record n that links to the next of its chain
abbrev pub next_slot : ℕ → ℕ
next_slot n = 6 * (n - 1) + 5

-- the record that a word belongs to
abbrev pub owner : ℕ → ℕ
owner i = i / 6 + 1

-- the word at the slot links to the chain, in which each record stands once and the word's own record not at all
pub record Linked (words : List ℕ) (slot : ℕ) (c : Chain) : Type 0 where
  pub room : slot < length words
  pub holds : Holds words (slice_index words slot) c
  pub apart : Apart c
  pub free : Numbers (owner slot) c → ⊥

-- d has records of c only, each once
pub record Part (d c : Chain) : Type 0 where
  pub apart : Apart d
  pub numbers : (x : ℕ) → Numbers x d → Numbers x c

-- as many words, with d in the place of the chain c that the slot links to; no word changed but the slot and those of records of c
pub record Made (words written : List ℕ) (slot : ℕ) (c d : Chain) : Type 0 where
  pub long : length written ≡ length words
  pub holds : Holds written (slice_index written slot) d
  pub part : Part d c
  pub others : (j : ℕ) → (j ≢ slot) → (Numbers (owner j) c → ⊥) → slice_index written j ≡ slice_index words j

-- the slot links to a chain
abbrev pub LinksChain : List ℕ → (slot : ℕ) → Type 0
LinksChain words slot = (c : Chain) × Linked words slot c

-- the slot links to a record
abbrev pub LinksRecord : List ℕ → (slot : ℕ) → Type 0
LinksRecord words slot = (h : Head) × (children : Chain) × (rest : Chain) × Linked words slot (link h children rest)

-- whichever chain the slot links to, `f` of it is in its place
abbrev pub Turns : (f : Chain → Chain) → (words written : List ℕ) → (slot : ℕ) → Type 0
Turns f words written slot = (c : Chain) → Linked words slot c → Made words written slot c (f c)

-- whichever record the slot links to, `f` of it is in its place
abbrev pub TurnsRecord : (f : Head → Chain → Chain → Chain) → (words written : List ℕ) → (slot : ℕ) → Type 0
TurnsRecord f words written slot =
    (h : Head) (children rest : Chain) → Linked words slot (link h children rest) → Made words written slot (link h children rest) (f h children rest)

-- what follows, after the first record of p, if it has one
abbrev pub onto : (p rest : Chain) → Chain
onto p rest = append (alone p) rest

-- the slot that links to what follows p, where p stands at a slot
abbrev pub slot_after : ℕ → Chain → ℕ
slot_after slot end = slot
slot_after slot (link h children rest) = next_slot h.number

-- the slot links to a record, and v to the chain p of records below it
pub record Lift (words : List ℕ) (slot v : ℕ) (c p : Chain) : Type 0 where
  pub at : Linked words slot c
  pub some : is_end c ≡ false
  pub holds : Holds words v p
  pub part : Part p (below c)

-- the first record of p stands in the place of the first record of c, and r is the slot that follows
pub record Step (words written : List ℕ) (slot : ℕ) (c p : Chain) (r : ℕ) : Type 0 where
  pub made : Made words written slot c (onto p (after c))
  pub next : r ≡ slot_after slot p

-- by the answer, the first record of c stays in what is left of c, or gives way to a record below it, or to none
abbrev pub Heir : (left : Chain → Chain) → (words : List ℕ) → (c : Chain) → Option ℕ → Type 0
Heir left words c None = left c ≡ onto c (left (after c))
Heir left words c (Some v) = (p : Chain) × Holds words v p × Part p (below c) × (left c ≡ onto p (left (after c)))

-- such is the answer about the record that the link n leads to
abbrev pub Leaves : (left : Chain → Chain) → (words : List ℕ) → (n : ℕ) → Option ℕ → Type 0
Leaves left words n r = (c : Chain) → Holds words n c → Apart c → is_end c ≡ false → Heir left words c r

-- by such answers `left` is what is left of a chain
pub record Thins (answers : Bor (List ℕ) → ℕ → Option ℕ → Type 0) (left : Chain → Chain) : Type 0 where
  pub none : left end ≡ end
  pub each : (words : Bor (List ℕ)) (n : ℕ) (r : Option ℕ) → answers words n r → Leaves left words.now n r

-- a list drops an Empty and a childless Block
abbrev pub nothing : Chain → Bool
nothing end = false
nothing (link h children rest) = h is empty_statement || (h is block && is_end children)

-- the words, with record d a plain expression over the chain that the slot links to, and the slot linking to d
abbrev pub wrapped : List ℕ → (slot d : ℕ) → List ℕ
wrapped words slot d = slice_set (turned (with_word (with_word words d 4 (slice_index words slot)) d 5 0) d plain_expression) slot d
