-- Counting: the references and marks of a tree, in the order in which they are counted.
--
--   Event, refer, marked       one reference or mark
--   Found, ◌followed_by◌       what a part of the tree gives: events, and what its innermost scope notes
--   Role                       what a Name pattern does where it stands
--   Around, inside             what surrounds a place: the innermost function's and class's names, the scopes' paths
--   reference, own, leave      what a record does itself; what leaving a scope does
--   count, events_of           a chain; a tree
use Rattle.std.specs.Prelude.{ℕ, Bool, true, false, ◌&&◌, ◌||◌, List, [], ◌∷◌, ◌++◌, ◌==◌, if◌then◌else◌}
use Rattle.rules.specs.Tree.{Head, Chain, Name, ◌is◌, flagged, name_of}
use Rattle.rules.specs.Tree.Chain.{end, link}
use Rattle.rules.specs.Kinds.{export_declaration, export_name, fn_declaration, class_declaration, declarator, function, identifier, arrow, call_expression, assignment, name_pattern, property_name, arguments_symbol, eval_symbol}
use Rattle.rules.specs.Names.{among, names_of, distinct, nests, bound, declared_below, exported}

infixr 25 ◌followed_by◌
-- what is counted of a name: a reading, or a writing; its holders; whether it makes the name an entry; the record that a full table names
pub record Event : Type 0 where
  pub name : Name
  pub writes : Bool
  pub holders : List Name
  pub entry : Bool
  pub at : ℕ

-- nobody holds a reference
abbrev pub unheld : List Name → Bool
unheld [] = true
unheld (holder ∷ holders) = false

-- a reference: without holders it makes its name an entry
abbrev pub refer : Name → (writes : Bool) → (holders : List Name) → (at : ℕ) → Event
refer n writes holders at = record { name = n; writes = writes; holders = holders; entry = unheld holders; at = at }

-- a mark: one usage, without holder or entry
abbrev pub marked : Name → (at : ℕ) → Event
marked n at = record { name = n; writes = false; holders = []; entry = false; at = at }

-- what is found in a part of the tree: the events, and whether its innermost scope notes `arguments` and a direct eval
pub record Found : Type 0 where
  pub events : List Event
  pub found_arguments : Bool
  pub found_direct_eval : Bool

-- nothing is found
abbrev pub nothing : Found
nothing = record { events = []; found_arguments = false; found_direct_eval = false }

-- one part after another
abbrev pub ◌followed_by◌ : Found → Found → Found
a followed_by b = record {
  events = a.events ++ b.events;
  found_arguments = a.found_arguments || b.found_arguments;
  found_direct_eval = a.found_direct_eval || b.found_direct_eval;
}

-- what a Name pattern does where it stands: nothing in a Declarator's pattern; as the target of a compound Assignment it reads and writes
pub data Role : Type 0 where
  declared_here : Role
  written : Role
  read_and_written : Role

-- what surrounds a place: the name of the innermost Fn declaration and of the innermost Class declaration (none, or one),
-- the paths of the scopes from the innermost outward, the role of a Name pattern
pub record Around : Type 0 where
  pub cur_fn : List Name
  pub cur_class : List Name
  pub ast_paths : List (List Name)
  pub role : Role

-- at the root: the outermost scope, with an empty path
abbrev pub outermost : Around
outermost = record { cur_fn = []; cur_class = []; ast_paths = [] ∷ []; role = written }

-- the path of the nearest scope outward whose path is not empty
abbrev pub holders : List (List Name) → List Name
holders [] = []
holders ([] ∷ outer) = holders outer
holders ((n ∷ path) ∷ outer) = n ∷ path

-- a name put on the innermost scope's path
abbrev pub put : Name → List (List Name) → List (List Name)
put n [] = []
put n (path ∷ outer) = (path ++ (n ∷ [])) ∷ outer

-- a reference to the name that h bears: not counted if it is the innermost function's or class's
abbrev pub reference : Around → (writes : Bool) → Head → Found
reference a writes h = record {
  events =
      if among (name_of h) a.cur_fn || among (name_of h) a.cur_class then []
      else refer (name_of h) writes (holders a.ast_paths) h.number ∷ [];
  found_arguments = (h.symbol == arguments_symbol);
  found_direct_eval = false;
}

-- a reading of the name that h bears
abbrev pub reading : Around → Head → Found
reading a h = reference a false h

-- a writing of it
abbrev pub writing : Around → Head → Found
writing a h = reference a true h

-- a reading of each name
abbrev pub readings : Around → List Head → Found
readings a [] = nothing
readings a (h ∷ hs) = reading a h followed_by readings a hs

-- a mark of each name
abbrev pub marks : (at : ℕ) → List Name → List Event
marks at [] = []
marks at (n ∷ ns) = marked n at ∷ marks at ns

-- a Name pattern by its role
abbrev pub named_here : Around → Role → Head → Found
named_here a declared_here h = nothing
named_here a written h = writing a h
named_here a read_and_written h = reading a h followed_by writing a h

-- the callee is an Identifier `eval`
abbrev pub calls_eval : Chain → Bool
calls_eval end = false
calls_eval (link callee children arguments) = callee is identifier && callee.symbol == eval_symbol

-- what a record does itself, after its children
abbrev pub own : Around → Head → Chain → Found
own a h children =
    if h is identifier || h is export_name then reading a h
    else if h is property_name then writing a h
    else if h is name_pattern then named_here a a.role h
    else if h is call_expression then record { events = []; found_arguments = false; found_direct_eval = calls_eval children }
    else nothing

-- the kinds that open a scope
abbrev pub opens : Head → Bool
opens h = h is function || h is arrow

-- leaving the scope h: a direct eval marks each distinct name declared below it, and the outer scope notes it;
-- `arguments` marks each bound name of a Function's parameters, once an occurrence, and an Arrow passes the note outward
abbrev pub leave : Head → Chain → Found → Found
leave h children found = record {
  events =
      found.events
      ++ (if found.found_direct_eval then marks h.number (distinct [] (names_of (declared_below h children))) else [])
      ++ (if found.found_arguments && h is function then marks h.number (names_of (bound children)) else []);
  found_arguments = found.found_arguments && h is arrow;
  found_direct_eval = found.found_direct_eval;
}

-- the role of a Name pattern among h's children
abbrev pub role_in : Role → Head → Role
role_in role h =
    if h is declarator then declared_here
    else if h is assignment && flagged h then read_and_written
    else if nests h then role
    else written

-- what surrounds h's children
abbrev pub inside : Around → Head → Around
inside a h = record {
  cur_fn = if h is fn_declaration then name_of h ∷ [] else a.cur_fn;
  cur_class = if h is class_declaration then name_of h ∷ [] else a.cur_class;
  ast_paths =
      if h is fn_declaration || h is class_declaration then put (name_of h) a.ast_paths
      else if opens h then [] ∷ a.ast_paths
      else a.ast_paths;
  role = role_in a.role h;
}

-- what is found in a chain: of each record an Export declaration's names, the children, the record itself; then the rest
abbrev pub count : Around → Chain → Found
count a end = nothing
count a (link h children rest) =
    let before = if h is export_declaration then readings a (exported children) else nothing in
    let inner = count (inside a h) children in
    let left = if opens h then leave h children inner else inner in
    before followed_by left followed_by own a h children followed_by count a rest

-- the events of a tree; the outermost scope marks nothing
abbrev pub events_of : Chain → List Event
events_of tree = (count outermost tree).events
