-- The count as the code walks: by sorts of records, over the names that hold a reference at a place, with the tables' words
-- handed from record to record. The contracts of what counts cite it.
--
--   State, state, Went                        the tables' words and the innermost scope's notes; how a step ends
--   none_hold, referred, read_exports         a reference; a reading of each name that an Export declaration declares
--   assigned                                  a Name pattern by its role, a Property name
--   marked_below, marked_parameters           what `eval` and `arguments` mark where they were found
--   leaving, left_scope                       what leaving a scope marks; and what it notes outward
--   sort_of                                   which function of the code visits a kind
--   statement_by, .. , visited_by             a record of each sort, of any, given the walk of its children
--   walk                                      a chain
--   visited                                   a record, its children walked
use Rattle.std.specs.Prelude.{ℕ, Bool, true, false, ◌&&◌, ◌||◌, List, [], length, Result, ◌==◌, if◌then◌else◌}
use Rattle.rules.specs.Tree.{Head, Chain, ◌is◌, name_of, unnumbered_head}
use Rattle.rules.specs.Tree.Chain.{end, link}
use Rattle.rules.specs.Kinds.{export_declaration, export_name, function, class_body, identifier, arrow, call_expression, name_pattern, property_name, expression, pattern, class_member}
use Rattle.rules.specs.Names.{among, names_of, distinct, bound, declared_below, exported}
use Rattle.rules.specs.Counting.{marks, calls_eval}
use Rattle.rules.specs.Counting as book
use Rattle.rules.specs.Refusals.{Outcome, and_then, Says}
use Rattle.rules.specs.Refusals.Outcome.{fine}
use Rattle.names.specs.Sinks.{each}
use Rattle.records.specs.declared.id.Id.{Id}
use Rattle.data.specs.Events.{Tables, tables, entered}
use Rattle.data.specs.Filling.{fill_words}
use Rattle.analyzer.specs.declared.visit.Sort.{Sort}
use Rattle.analyzer.specs.declared.visit.Sort.TheVariants.{Statement, Function, Class, Expression, Pattern}
use Rattle.analyzer.specs.declared.fault.CountFault.{CountFault}
use Rattle.analyzer.specs.declared.notes.Notes.{Notes}
use Rattle.analyzer.specs.CountFaults.{number, place}
use Rattle.analyzer.specs.Scopes.{id_of_head, Here, here_inside, no_notes, with_arguments, with_eval, outward}

-- the tables' words, and what the innermost scope has noted
pub record State : Type 0 where
  pub tables : Tables
  pub notes : Notes

abbrev pub state : (names edges : List ℕ) → Notes → State
state names edges notes = record { tables = tables names edges; notes = notes }

-- a step of the code ends as it is said, with this state or this fault
abbrev pub Went : {A : Type 0} → Outcome State → Result A CountFault → State → Type 0
Went outcome result s = Says outcome (λ _. s) number place result

-- nobody holds a reference
abbrev pub none_hold : List Id → Bool
none_hold held = length held == 0

-- a reference to the name that h bears: not counted if it is the innermost function's or class's
unfoldable pub referred : Here → (writes : Bool) → Head → State → Outcome State
referred a writes h s =
    if among (name_of h) a.cur_fn || among (name_of h) a.cur_class
    then fine (record { tables = s.tables; notes = with_arguments h s.notes })
    else and_then (entered (id_of_head h) (if writes then 0 else 1) (if writes then 1 else 0) (none_hold a.held) h.number a.held s.tables) (λ t.
    fine (record { tables = t; notes = with_arguments h s.notes }))

-- a reading of each name that an Export declaration with these children declares
abbrev pub read_exports : Here → Chain → State → Outcome State
read_exports a children s = each (referred a false) (exported children) s

-- a Name pattern by its role
abbrev pub named : Here → book.Role → Head → State → Outcome State
named a book.declared_here h s = fine s
named a book.written h s = referred a true h s
named a book.read_and_written h s = and_then (referred a false h s) (λ t. referred a true h t)

-- what a pattern does itself
abbrev pub assigned : Here → Head → State → Outcome State
assigned a h s =
    if h is name_pattern then named a a.role h s
    else if h is property_name then referred a true h s
    else fine s

-- after a direct call of `eval`, each name declared below the scope that h opens is marked once
abbrev pub marked_below : Head → Chain → Notes → Tables → Outcome Tables
marked_below h children found t =
    if found.found_direct_eval then fill_words (marks h.number (distinct [] (names_of (declared_below h children)))) t else fine t

-- after a reference to `arguments`, each bound name of a Function's parameters is marked
abbrev pub marked_parameters : Head → Chain → Notes → Tables → Outcome Tables
marked_parameters h children found t =
    if found.found_arguments && h is function then fill_words (marks h.number (names_of (bound children))) t else fine t

-- what leaving the scope that h opens marks, by what it has noted
unfoldable pub leaving : Head → Chain → Notes → Tables → Outcome Tables
leaving h children found t = and_then (marked_below h children found t) (λ u. marked_parameters h children found u)

-- leaving that scope with a state, where the outer scope has its own notes
abbrev pub left_scope : Head → Chain → (outer : Notes) → State → Outcome State
left_scope h children outer s =
    and_then (leaving h children s.notes s.tables) (λ t. fine (record { tables = t; notes = outward h outer s.notes }))

-- which function of the code visits a record of this kind
unfoldable pub sort_of : ℕ → Sort
sort_of k =
    if k == function || k == arrow then Function
    else if k == class_body || class_member k then Class
    else if expression k then Expression
    else if pattern k || k == property_name then Pattern
    else Statement

-- a statement, an item or a part of one, given the walk of its children: the names of an Export declaration come first, the name of an Export name last
abbrev pub statement_by : (Here → State → Outcome State) → Here → Head → Chain → State → Outcome State
statement_by below a h children s =
    and_then (if h is export_declaration then read_exports a children s else fine s) (λ t.
    and_then (below (here_inside a (unnumbered_head h)) t) (λ u.
    if h is export_name then referred a false h u else fine u))

-- what opens a scope
abbrev pub function_by : (Here → State → Outcome State) → Here → Head → Chain → State → Outcome State
function_by below a h children s =
    and_then (below (here_inside a (unnumbered_head h)) (record { tables = s.tables; notes = no_notes })) (λ t.
    left_scope h children s.notes t)

-- a part of a class
abbrev pub class_by : (Here → State → Outcome State) → Here → Head → Chain → State → Outcome State
class_by below a h children s = below (here_inside a (unnumbered_head h)) s

-- an expression
abbrev pub expression_by : (Here → State → Outcome State) → Here → Head → Chain → State → Outcome State
expression_by below a h children s =
    and_then (below (here_inside a (unnumbered_head h)) s) (λ t.
    and_then (if h is identifier then referred a false h t else fine t) (λ u.
    fine (record { tables = u.tables; notes = with_eval (h is call_expression && calls_eval children) u.notes })))

-- a pattern
abbrev pub pattern_by : (Here → State → Outcome State) → Here → Head → Chain → State → Outcome State
pattern_by below a h children s =
    and_then (below (here_inside a (unnumbered_head h)) s) (λ t. assigned a h t)

-- a record of any sort
abbrev pub visited_by : Sort → (Here → State → Outcome State) → Here → Head → Chain → State → Outcome State
visited_by Statement below a h children s = statement_by below a h children s
visited_by Function below a h children s = function_by below a h children s
visited_by Class below a h children s = class_by below a h children s
visited_by Expression below a h children s = expression_by below a h children s
visited_by Pattern below a h children s = pattern_by below a h children s

-- a chain: each record in turn
unfoldable pub walk : Here → Chain → State → Outcome State
walk a end s = fine s
walk a (link h children rest) s =
    and_then (visited_by (sort_of h.kind) (λ b t. walk b children t) a h children s) (λ u. walk a rest u)

-- a record, its children walked
abbrev pub visited : Sort → Here → Head → Chain → State → Outcome State
visited sort a h children s = visited_by sort (λ b t. walk b children t) a h children s
