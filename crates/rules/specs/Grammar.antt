-- The table of kinds: which words a record of each kind may have, and which children, in which order.
--
--   name_fits, flags_fit, words_fit      a record's own four words are its kind's
--   Part, Way                            one child of a sort, at most one, or any number; what is still to come of a chain
--   children_of                          the ways in which the children of a record may go
--   step, may_end                        the ways on after a child; whether a chain may end where it is
use Rattle.std.specs.Prelude.{ℕ, Bool, true, false, not, ◌&&◌, ◌||◌, List, [], ◌∷◌, ◌++◌, ◌==◌, nat_eq, if◌then◌else◌}
use Rattle.rules.specs.Tree.{Head, ◌is◌, flagged}
use Rattle.rules.specs.Kinds.{member, within, known, module_root, script_root, import_item, specifier, export_declaration, export_list, export_name, export_default, block, expression_statement, plain_statement, try_statement, fn_declaration, class_declaration, var_declaration, for_statement, with_statement, catch_part, declarator, function, class_body, method, property, static_block, constructor, identifier, literal, function_expression, class_expression, arrow, plain_expression, object, call_expression, delete_expression, assignment, name_pattern, compound_pattern, default_pattern, property_name, expression_pattern, expression, statement, pattern, item, declaration, class_member, for_head, arrow_body, compound_part, definition_expression, only}

-- the kinds whose records bear a name
abbrev pub named : ℕ → Bool
named k = member k (specifier ∷ export_name ∷ fn_declaration ∷ class_declaration ∷ identifier ∷ name_pattern ∷ property_name ∷ [])

-- the kinds for which flag 1 has a sense
abbrev pub may_be_flagged : ℕ → Bool
may_be_flagged k = member k (plain_statement ∷ var_declaration ∷ function ∷ class_body ∷ method ∷ property ∷ plain_expression ∷ assignment ∷ [])

-- symbol and mark as the kind has them: a name, a string's text or nothing
abbrev pub name_fits : Head → Bool
name_fits h =
    let bare = h.symbol == 0 && nat_eq h.mark 0 in
    if named h.kind then not (h.symbol == 0)
    else if h is literal then (h.mark == 0)
    else if definition_expression h.kind then not (h.symbol == 0) || bare
    else bare

-- flags are 0, or 1 where that has a sense
abbrev pub flags_fit : Head → Bool
flags_fit h = h.flags == 0 || (flagged h && may_be_flagged h.kind)

-- a record's own four words fit
abbrev pub words_fit : Head → Bool
words_fit h = known h.kind && flags_fit h && name_fits h

-- a part of a chain: one child of a sort, at most one, or any number
pub data Part : Type 0 where
  one : (ℕ → Bool) → Part
  maybe : (ℕ → Bool) → Part
  many : (ℕ → Bool) → Part

-- a way for a chain to go on: its parts still to come
abbrev pub Way : Type 0
Way = List Part

-- a superclass or computed key: an expression that stands first under flag 1
abbrev pub under_flag : Head → Way → Way
under_flag h way = if flagged h then one expression ∷ way else way

-- what an Assignment assigns to: no Compound where it is compound, as `+=` is
abbrev pub assigned : Head → ℕ → Bool
assigned h = λ k. (k == name_pattern) || k == plain_expression || (k == compound_pattern && not (flagged h))

-- the children of a root or item
abbrev pub item_children : Head → Way
item_children h =
    if h is module_root then many item ∷ []
    else if h is script_root then many statement ∷ []
    else if h is import_item then many (only specifier) ∷ []
    else if h is export_declaration then one declaration ∷ []
    else if h is export_list then many (only export_name) ∷ []
    else if h is export_default then one definition_expression ∷ []
    else []

-- the children of a statement, a Try apart
abbrev pub statement_children : Head → Way
statement_children h =
    if h is block then many statement ∷ []
    else if h is expression_statement then one expression ∷ []
    else if h is plain_statement then (if flagged h then maybe expression ∷ [] else maybe expression ∷ maybe statement ∷ maybe statement ∷ [])
    else if h is fn_declaration then one (only function) ∷ []
    else if h is class_declaration then one (only class_body) ∷ []
    else if h is var_declaration then one (only declarator) ∷ many (only declarator) ∷ []
    else if h is for_statement then maybe for_head ∷ maybe expression ∷ maybe expression ∷ maybe expression ∷ one statement ∷ []
    else if h is with_statement then one expression ∷ one statement ∷ []
    else []

-- the children of a part
abbrev pub part_children : Head → Way
part_children h =
    if h is catch_part then maybe pattern ∷ one (only block) ∷ []
    else if h is declarator then one pattern ∷ maybe expression ∷ []
    else if h is function || h is constructor then many pattern ∷ one (only block) ∷ []
    else if h is class_body then under_flag h (many class_member ∷ [])
    else if h is method then under_flag h (one (only function) ∷ [])
    else if h is property then under_flag h (maybe expression ∷ [])
    else if h is static_block then one (only block) ∷ []
    else []

-- the children of an expression
abbrev pub expression_children : Head → Way
expression_children h =
    if h is function_expression then one (only function) ∷ []
    else if h is class_expression then one (only class_body) ∷ []
    else if h is arrow then many pattern ∷ one arrow_body ∷ []
    else if h is plain_expression || h is object then many expression ∷ []
    else if h is call_expression then one expression ∷ many expression ∷ []
    else if h is delete_expression then one expression ∷ []
    else if h is assignment then one (assigned h) ∷ one expression ∷ []
    else []

-- the children of a pattern
abbrev pub pattern_children : Head → Way
pattern_children h =
    if h is compound_pattern then many compound_part ∷ []
    else if h is default_pattern then one pattern ∷ one expression ∷ []
    else if h is property_name then maybe expression ∷ []
    else if h is expression_pattern then one expression ∷ []
    else []

-- the children of a Try: a Block, then a Catch, a Block or both
abbrev pub try_children : List Way
try_children =
    (one (only block) ∷ one (only catch_part) ∷ maybe (only block) ∷ [])
    ∷ (one (only block) ∷ one (only block) ∷ [])
    ∷ []

-- the ways in which the children of a record may go: two for a Try, else one
abbrev pub children_of : Head → List Way
children_of h =
    if h is try_statement then try_children
    else if statement h.kind then statement_children h ∷ []
    else if within catch_part constructor h.kind then part_children h ∷ []
    else if expression h.kind then expression_children h ∷ []
    else if within name_pattern expression_pattern h.kind then pattern_children h ∷ []
    else item_children h ∷ []

-- the ways to go on after a child of kind k
abbrev pub go_on : ℕ → Way → List Way
go_on k [] = []
go_on k (one sort ∷ way) = if sort k then way ∷ [] else []
go_on k (maybe sort ∷ way) = (if sort k then way ∷ [] else []) ++ go_on k way
go_on k (many sort ∷ way) = (if sort k then (many sort ∷ way) ∷ [] else []) ++ go_on k way

-- the same from several ways
abbrev pub step : ℕ → List Way → List Way
step k [] = []
step k (way ∷ ways) = go_on k way ++ step k ways

-- no way is left: the child is misplaced
abbrev pub misplaced : List Way → Bool
misplaced [] = true
misplaced (way ∷ ways) = false

-- a way may end where it is
abbrev pub ends : Way → Bool
ends [] = true
ends (one sort ∷ way) = false
ends (maybe sort ∷ way) = ends way
ends (many sort ∷ way) = ends way

-- some way may end where it is
abbrev pub may_end : List Way → Bool
may_end [] = false
may_end (way ∷ ways) = ends way || may_end ways

-- the root: a Module or a Script
abbrev pub root : List Way
root = (one (λ k. (k == module_root) || k == script_root) ∷ []) ∷ []
