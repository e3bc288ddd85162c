-- What is asked of a record and of a chain before it is treated. The contracts of the tests and of the trait `Basis` cite it.
--
--   listed, listed_first           the kinds with a list; such is the first record of a chain
--   passed_by                      the rules pass by a record for where it stands
--   entered_by, entered_first      the rules enter a record; the first of a chain
--   place_below                    the place of the first record's children
--   choice                         what the rules do with the first record of a chain
--   Nested                         a slot links to a chain that nests at most so deep
use Rattle.std.specs.Prelude.{ℕ, ◌≤◌, Bool, false, not, ◌&&◌, ◌||◌, List, ◌==◌}
use Rattle.rules.specs.Tree.{Chain, is_end}
use Rattle.rules.specs.Tree.Chain.{end, link}
use Rattle.rules.specs.Kinds.{module_root, script_root, block, statement, pattern, export_default, var_declaration, for_statement, with_statement, delete_expression}
use Rattle.rules.specs.Opening.{depth}
use Rattle.rules.specs.Removal.{By, Place, entered, place_inside, verdict}
use Rattle.edit.specs.Slots.{Linked}
use Rattle.shaker.specs.Verdicts.{verdict_of}
use Rattle.shaker.specs.declared.perform.Verdict.{Verdict}
use Rattle.shaker.specs.declared.perform.Verdict.TheVariants.{Stays}

-- the children of such a record are a list of statements or items
abbrev pub listed : ℕ → Bool
listed kind = kind == module_root || (kind == script_root || kind == block)

-- the first record of a chain is one with a list
abbrev pub listed_first : Chain → Bool
listed_first end = false
listed_first (link h children rest) = listed h.kind

-- the rules pass by a record of such a kind: a With's statement, a Var at the head of a For, a pattern of an exported Var, a list that begins with 'use asm'
abbrev pub passed_by : Place → (kind : ℕ) → (asm last : Bool) → Bool
passed_by p kind asm last =
    (p.parent == with_statement && statement kind)
    || ((p.parent == for_statement && (kind == var_declaration && not last))
    || ((p.in_export && pattern kind)
    || (listed kind && asm)))

-- the rules enter such a record, given whether its children begin with 'use asm'
abbrev pub entered_by : Place → (kind : ℕ) → (asm last : Bool) → Bool
entered_by p kind asm last = not (kind == export_default || (kind == delete_expression || passed_by p kind asm last))

-- the rules enter the first record of a chain
abbrev pub entered_first : Place → Chain → Bool
entered_first p end = false
entered_first p (link h children rest) = entered p h children (is_end rest)

-- the place of the first record's children
abbrev pub place_below : Place → Chain → Place
place_below p end = p
place_below p (link h children rest) = place_inside p h

-- what the rules do with the first record of a chain, whose children are treated; `found` are its children as found
abbrev pub choice : By → Place → (found : Chain) → Chain → Verdict
choice by p found end = Stays
choice by p found (link h children rest) = verdict_of (verdict by p h found children)

-- the slot links to a chain that nests at most `left` deep
pub record Nested (words : List ℕ) (slot left : ℕ) (c : Chain) : Type 0 where
  pub at : Linked words slot c
  pub deep : depth c ≤ left
