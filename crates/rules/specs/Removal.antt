-- Removal: what a pass leaves of a tree, by the counts that it made.
--
--   Config, By              settings, judge and retain list; these with the tables
--   Place, place_inside     where a record stands
--   can_drop_binding, can_drop_assignment_to      a name's declaration can go; an Assignment to it can
--   entered                 the records that the rules enter
--   .. _goes, .. _emptied, .. _restates, .. _yields, .. _unwraps      the test of each rule, of a record after its children
--   Verdict, verdict, done  what a rule does with a record; which one; what is left
--   treat                   a chain, each record after its children
--   taken, gave             the names whose declaration a rule took; those of which an Assignment gave way
-- In a test h is the record, `found` its children as found, `children` as they are left.
use Rattle.std.specs.Prelude.{ℕ, Bool, true, false, not, ◌&&◌, ◌||◌, List, [], ◌∷◌, ◌++◌, ◌==◌, if◌then◌else◌}
use Rattle.rules.specs.Tree.{Head, Chain, Name, ◌is◌, flagged, name_of, is_end, below, after, first_is, first_flagged, first_symbol, first_name, alone, append}
use Rattle.rules.specs.Tree.Chain.{end, link}
use Rattle.rules.specs.Kinds.{member, statement, expression, pattern, module_root, script_root, import_item, specifier, export_declaration, export_default, empty_statement, block, expression_statement, plain_statement, fn_declaration, class_declaration, var_declaration, for_statement, with_statement, declarator, function, method, property, static_block, identifier, literal, function_expression, plain_expression, object, call_expression, delete_expression, assignment, name_pattern, asm_symbol}
use Rattle.rules.specs.Names.{among}
use Rattle.rules.specs.Tables.{NameRow, look}

-- settings, judge and retain list
pub record Config : Type 0 where
  pub top_level : Bool
  pub preserve_imports : Bool
  pub acts : Chain → Bool
  pub retain : List ℕ

-- what a removal goes by: these, each name's row, and the declared names
pub record By : Type 0 where
  pub config : Config
  pub row : Name → NameRow
  pub declares : Name → Bool

-- by the rows of two tables
abbrev pub going_by : Config → (declared : List Name) → (names : List NameRow) → By
going_by k declared names = record { config = k; row = λ n. look n names; declares = λ n. among n declared }

-- where a record stands: below a Function, below a Block, in a `var`, in an Export declaration; and its parent's kind
pub record Place : Type 0 where
  pub in_fn : Bool
  pub in_block_stmt : Bool
  pub in_var : Bool
  pub in_export : Bool
  pub parent : ℕ

-- the root's place
abbrev pub at_root : Place
at_root = record { in_fn = false; in_block_stmt = false; in_var = false; in_export = false; parent = 0 }

-- the place of h's children; an Export declaration ends at its function or class, or at the parts of its Declarators
abbrev pub place_inside : Place → Head → Place
place_inside p h = record {
  in_fn = p.in_fn || h is function;
  in_block_stmt = p.in_block_stmt || h is block;
  in_var = h is var_declaration && flagged h;
  in_export = h is export_declaration || (p.in_export && (h is var_declaration || h is declarator));
  parent = h.kind;
}

-- a name's declaration may go at a place: functions and `var` need a surrounding Function, the rest a surrounding Block
abbrev pub permitted : Config → Place → (is_var : Bool) → Bool
permitted k p is_var = k.top_level || (if is_var then p.in_fn else p.in_block_stmt)

-- a name's symbol is in the retain list
abbrev pub retained : Config → Name → Bool
retained k n = member n.symbol k.retain

-- a row that is missing, uncounted or with counts 0
abbrev pub unused : NameRow → Bool
unused r = not r.counted || (r.usage == 0 && r.assign == 0)

-- a row that is counted with usage 0 and, without `top_level`, no entry
abbrev pub never_read : Config → NameRow → Bool
never_read k r = r.counted && (r.usage == 0 && (k.top_level || not r.entry))

-- a name's declaration can go
abbrev pub can_drop_binding : By → Place → (is_var : Bool) → Name → Bool
can_drop_binding by p is_var n =
    permitted by.config p is_var && (not (retained by.config n) && unused (by.row n))

-- an Assignment to a name can go; whether it is a `var` is not looked at
abbrev pub can_drop_assignment_to : By → Place → Name → Bool
can_drop_assignment_to by p n =
    permitted by.config p false && (not (retained by.config n) && (by.declares n && never_read by.config (by.row n)))

-- the first record of a chain acts
abbrev pub first_acts : By → Chain → Bool
first_acts by end = false
first_acts by (link h children rest) = by.config.acts (link h children end)

-- the kinds whose children are a list of statements or items
abbrev pub has_list : Head → Bool
has_list h = h is module_root || (h is script_root || h is block)

-- a list that begins with the string statement 'use asm'
abbrev pub asm : Chain → Bool
asm list = first_is expression_statement list && (first_is literal (below list) && first_symbol (below list) == asm_symbol)

-- the records that the rules enter: no Export default, no Delete, no With's statement, no Var at the head of a For,
-- no pattern of an exported Var, no list that begins with 'use asm'
abbrev pub entered : Place → Head → Chain → (last : Bool) → Bool
entered p h children last =
    not (h is export_default
    || (h is delete_expression
    || ((p.parent == with_statement && statement h.kind)
    || ((p.parent == for_statement && (h is var_declaration && not last))
    || ((p.in_export && pattern h.kind)
    || (has_list h && asm children))))))

-- a list without Empty and childless Blocks
abbrev pub swept : Chain → Chain
swept end = end
swept (link h children rest) =
    if h is empty_statement || (h is block && is_end children) then swept rest else link h children (swept rest)

-- what keeps a class: a superclass or Property value that acts, a Static block, a computed key
abbrev pub keeps_class : By → Chain → Bool
keeps_class by end = false
keeps_class by (link h children rest) =
    (expression h.kind && first_acts by (link h children end))
    || (h is static_block
    || (((h is method || h is property) && flagged h)
    || ((h is property && first_acts by children)
    || keeps_class by rest)))

-- a Declarator's pattern is a name that can go
abbrev pub name_goes : By → Place → (is_var : Bool) → (parts : Chain) → Bool
name_goes by p is_var parts = first_is name_pattern parts && can_drop_binding by p is_var (first_name parts)

-- all Declarators are such
abbrev pub all_go : By → Place → (is_var : Bool) → Chain → Bool
all_go by p is_var end = true
all_go by p is_var (link d parts rest) = name_goes by p is_var parts && all_go by p is_var rest

-- no child but Identifiers
abbrev pub only_identifiers : Chain → Bool
only_identifiers end = true
only_identifiers (link h children rest) = h is identifier && only_identifiers rest

-- a Block's statements are one return of an Object of Identifiers
abbrev pub returns_object : Chain → Bool
returns_object statements =
    first_is plain_statement statements && (first_flagged statements && (is_end (after statements)
    && (first_is object (below statements) && only_identifiers (below (below statements)))))

-- a Call's children are an unnamed function expression alone, neither async nor generator, without parameters, whose Block is such
abbrev pub wraps_object : Chain → Bool
wraps_object callee =
    let fn = below callee in
    first_is function_expression callee && (first_symbol callee == 0 && (is_end (after callee)
    && (not (first_flagged fn) && (first_is block (below fn) && returns_object (below (below fn))))))

-- the Object of such a Call: below the callee, its Function, the Block and the return
abbrev pub wrapped_object : Chain → Chain
wrapped_object callee = below (below (below (below callee)))

-- a Fn declaration goes; an exported one never does
abbrev pub fn_goes : By → Place → Head → Bool
fn_goes by p h = h is fn_declaration && (not p.in_export && can_drop_binding by p true (name_of h))

-- a Class declaration goes; an exported one never does
abbrev pub class_goes : By → Place → Head → (children : Chain) → Bool
class_goes by p h children =
    h is class_declaration && (not p.in_export && (can_drop_binding by p false (name_of h) && not (keeps_class by (below children))))

-- a Declarator goes: its name can, and its value does not act
abbrev pub declarator_goes : By → Place → Head → (children : Chain) → Bool
declarator_goes by p h children =
    h is declarator && (not p.in_export && (name_goes by p p.in_var children && not (first_acts by (after children))))

-- a Specifier goes
abbrev pub specifier_goes : By → Place → Head → Bool
specifier_goes by p h = h is specifier && can_drop_binding by p false (name_of h)

-- an Import had Specifiers and lost them all; settings may preserve it
abbrev pub import_emptied : By → Head → (found children : Chain) → Bool
import_emptied by h found children =
    h is import_item && (not by.config.preserve_imports && (not (is_end found) && is_end children))

-- a Var lost its Declarators
abbrev pub var_emptied : Head → (children : Chain) → Bool
var_emptied h children = h is var_declaration && is_end children

-- the names of all Declarators that remain in a Var can go: their values act
abbrev pub var_restates : By → Place → Head → (children : Chain) → Bool
var_restates by p h children =
    h is var_declaration && (not p.in_export && (not (is_end children) && all_go by p (flagged h) children))

-- an Assignment gives way to its value: that does not act, and nobody reads the name
abbrev pub assignment_yields : By → Place → Head → (children : Chain) → Bool
assignment_yields by p h children =
    h is assignment && (first_is name_pattern children
    && (not (first_acts by (after children)) && can_drop_assignment_to by p (first_name children)))

-- a Call gives way to the Object that it wraps
abbrev pub call_unwraps : Head → (children : Chain) → Bool
call_unwraps h children = h is call_expression && wraps_object children

-- what a rule does with a record: it stays, its list is swept, it becomes Empty, it is unlinked, it becomes an Expression statement,
-- it gives way to its value or to its Object; with the names whose declaration goes, or whose Assignment gives way
pub data Verdict : Type 0 where
  stays : Verdict
  sweeps : Verdict
  empties : List Name → Verdict
  unlinks : Name → Verdict
  restates : Verdict
  yields : Name → Verdict
  unwraps : Verdict

-- what the rules do with a record
abbrev pub verdict : By → Place → Head → (found children : Chain) → Verdict
verdict by p h found children =
    if fn_goes by p h then empties (name_of h ∷ [])
    else if class_goes by p h children then empties (name_of h ∷ [])
    else if declarator_goes by p h children then unlinks (first_name children)
    else if specifier_goes by p h then unlinks (name_of h)
    else if import_emptied by h found children then empties []
    else if var_emptied h children then empties []
    else if var_restates by p h children then restates
    else if assignment_yields by p h children then yields (first_name children)
    else if call_unwraps h children then unwraps
    else if has_list h then sweeps
    else stays

-- a record becomes another kind
abbrev pub become : ℕ → Head → Head
become k h = record { number = h.number; kind = k; flags = 0; symbol = 0; mark = 0 }

-- the values of Declarators
abbrev pub values : Chain → Chain
values end = end
values (link d parts rest) = append (alone (after parts)) (values rest)

-- the values as one expression: several stand under a plain expression in the first Declarator's record
abbrev pub joined : Chain → Chain
joined end = end
joined (link d parts rest) =
    let all = values (link d parts rest) in
    if is_end (after all) then all else link (become plain_expression d) all end

-- what is left of a chain, and whether something was removed
pub record Left : Type 0 where
  pub chain : Chain
  pub changed : Bool

-- nothing was removed
abbrev pub unchanged : Chain → Left
unchanged c = record { chain = c; changed = false }

-- something was
abbrev pub removed : Chain → Left
removed c = record { chain = c; changed = true }

-- what is left of one part, then what is left of the next
abbrev pub both : Left → Left → Left
both a b = record { chain = append a.chain b.chain; changed = a.changed || b.changed }

-- what is left of a record: one record, or none
abbrev pub done : Verdict → Head → Left → Left
done stays h inner = record { chain = link h inner.chain end; changed = inner.changed }
done sweeps h inner = record { chain = link h (swept inner.chain) end; changed = inner.changed }
done (empties names) h inner = removed (link (become empty_statement h) end end)
done (unlinks name) h inner = removed end
done restates h inner = removed (link (become expression_statement h) (joined inner.chain) end)
done (yields name) h inner = removed (alone (after inner.chain))
done unwraps h inner = removed (alone (wrapped_object inner.chain))

-- what is left of a record whose children are treated, if the rules enter it
abbrev pub treated : (entered : Bool) → By → Place → Head → (found : Chain) → (inner : Left) → Left
treated true by p h found inner = done (verdict by p h found inner.chain) h inner
treated false by p h found inner = unchanged (link h found end)

-- a chain: each record after its children
abbrev pub treat : By → Place → Chain → Left
treat by p end = unchanged end
treat by p (link h children rest) =
    let inner = treat by (place_inside p h) children in
    let here = treated (entered p h children (is_end rest)) by p h children inner in
    let onward = treat by p rest in
    both here onward

-- the first names of Declarators
abbrev pub declarator_names : Chain → List Name
declarator_names end = []
declarator_names (link d parts rest) = first_name parts ∷ declarator_names rest

-- the names whose declaration a verdict takes
abbrev pub takes : Verdict → (children : Chain) → List Name
takes stays children = []
takes sweeps children = []
takes (empties names) children = names
takes (unlinks name) children = name ∷ []
takes restates children = declarator_names children
takes (yields name) children = []
takes unwraps children = []

-- the name whose Assignment gives way by a verdict
abbrev pub gives : Verdict → List Name
gives stays = []
gives sweeps = []
gives (empties names) = []
gives (unlinks name) = []
gives restates = []
gives (yields name) = name ∷ []
gives unwraps = []

-- the names whose declaration a rule took; those inside what then went as a whole are among them
abbrev pub taken : By → Place → Chain → List Name
taken by p end = []
taken by p (link h children rest) =
    let inner = (treat by (place_inside p h) children).chain in
    (if entered p h children (is_end rest)
    then takes (verdict by p h children inner) inner ++ taken by (place_inside p h) children
    else [])
    ++ taken by p rest

-- the names of which an Assignment gave way; those inside what then went as a whole are among them
abbrev pub gave : By → Place → Chain → List Name
gave by p end = []
gave by p (link h children rest) =
    let inner = (treat by (place_inside p h) children).chain in
    (if entered p h children (is_end rest)
    then gives (verdict by p h children inner) ++ gave by (place_inside p h) children
    else [])
    ++ gave by p rest
