-- The worked scripts: eight small scripts as records, and what the rules make of each.
--
--   ring .. own_name        the scripts, a record a line: kind, flags, symbol, mark, first child, next
--   repeated_on, passed_on  a repeat or a pass on a script, with room for so many rows
--   Shown                   passes made, records first reached, the tree left, and the counts of one pass
use Rattle.std.specs.Prelude.{◌≡◌, ℕ, ◌*◌, Bool, true, false, List, [], ◌∷◌, replicate}
use Rattle.rules.specs.Tree.{Head, Chain}
use Rattle.rules.specs.Tree.Chain.{end, link}
use Rattle.rules.specs.Kinds.{script_root, block, expression_statement, fn_declaration, class_declaration, var_declaration, declarator, function, class_body, static_block, constructor, identifier, literal, plain_expression, call_expression, assignment, name_pattern, asm_symbol}
use Rattle.rules.specs.Refusals.{Outcome}
use Rattle.rules.specs.Refusals.Outcome.{fine}
use Rattle.rules.specs.Check.{check}
use Rattle.rules.specs.Judges.{plain}
use Rattle.rules.specs.Removal.{Config}
use Rattle.rules.specs.Calls.{State, After, Repeated, repeat_passes, pass_once, begun, start}
use Rattle.rules.specs.Calls.Repeated.{repeated, stopped}

-- the symbols of the scripts' names
abbrev pub a : ℕ
a = 4

abbrev pub b : ℕ
b = 5

abbrev pub C : ℕ
C = 6

abbrev pub k : ℕ
k = 7

abbrev pub r : ℕ
r = 8

abbrev pub f : ℕ
f = 9

abbrev pub j : ℕ
j = 10

abbrev pub u : ℕ
u = 11

abbrev pub g : ℕ
g = 12

-- marks: of a script's own names, and of the unresolved ones
abbrev pub own : ℕ
own = 2

abbrev pub unresolved : ℕ
unresolved = 1

-- function a(){b()} function b(){a()}
abbrev pub ring : List ℕ
ring =
    script_root ∷ 0 ∷ 0 ∷ 0 ∷ 2 ∷ 0 ∷
    fn_declaration ∷ 0 ∷ a ∷ own ∷ 3 ∷ 8 ∷
    function ∷ 0 ∷ 0 ∷ 0 ∷ 4 ∷ 0 ∷
    block ∷ 0 ∷ 0 ∷ 0 ∷ 5 ∷ 0 ∷
    expression_statement ∷ 0 ∷ 0 ∷ 0 ∷ 6 ∷ 0 ∷
    call_expression ∷ 0 ∷ 0 ∷ 0 ∷ 7 ∷ 0 ∷
    identifier ∷ 0 ∷ b ∷ own ∷ 0 ∷ 0 ∷
    fn_declaration ∷ 0 ∷ b ∷ own ∷ 9 ∷ 0 ∷
    function ∷ 0 ∷ 0 ∷ 0 ∷ 10 ∷ 0 ∷
    block ∷ 0 ∷ 0 ∷ 0 ∷ 11 ∷ 0 ∷
    expression_statement ∷ 0 ∷ 0 ∷ 0 ∷ 12 ∷ 0 ∷
    call_expression ∷ 0 ∷ 0 ∷ 0 ∷ 13 ∷ 0 ∷
    identifier ∷ 0 ∷ a ∷ own ∷ 0 ∷ 0 ∷ []

-- function a(){b()} function b(){a()} a();
abbrev pub ring_called : List ℕ
ring_called =
    script_root ∷ 0 ∷ 0 ∷ 0 ∷ 2 ∷ 0 ∷
    fn_declaration ∷ 0 ∷ a ∷ own ∷ 3 ∷ 8 ∷
    function ∷ 0 ∷ 0 ∷ 0 ∷ 4 ∷ 0 ∷
    block ∷ 0 ∷ 0 ∷ 0 ∷ 5 ∷ 0 ∷
    expression_statement ∷ 0 ∷ 0 ∷ 0 ∷ 6 ∷ 0 ∷
    call_expression ∷ 0 ∷ 0 ∷ 0 ∷ 7 ∷ 0 ∷
    identifier ∷ 0 ∷ b ∷ own ∷ 0 ∷ 0 ∷
    fn_declaration ∷ 0 ∷ b ∷ own ∷ 9 ∷ 14 ∷
    function ∷ 0 ∷ 0 ∷ 0 ∷ 10 ∷ 0 ∷
    block ∷ 0 ∷ 0 ∷ 0 ∷ 11 ∷ 0 ∷
    expression_statement ∷ 0 ∷ 0 ∷ 0 ∷ 12 ∷ 0 ∷
    call_expression ∷ 0 ∷ 0 ∷ 0 ∷ 13 ∷ 0 ∷
    identifier ∷ 0 ∷ a ∷ own ∷ 0 ∷ 0 ∷
    expression_statement ∷ 0 ∷ 0 ∷ 0 ∷ 15 ∷ 0 ∷
    call_expression ∷ 0 ∷ 0 ∷ 0 ∷ 16 ∷ 0 ∷
    identifier ∷ 0 ∷ a ∷ own ∷ 0 ∷ 0 ∷ []

-- class C{static{r(k)}} function k(){new C}
abbrev pub static : List ℕ
static =
    script_root ∷ 0 ∷ 0 ∷ 0 ∷ 2 ∷ 0 ∷
    class_declaration ∷ 0 ∷ C ∷ own ∷ 3 ∷ 10 ∷
    class_body ∷ 0 ∷ 0 ∷ 0 ∷ 4 ∷ 0 ∷
    static_block ∷ 0 ∷ 0 ∷ 0 ∷ 5 ∷ 0 ∷
    block ∷ 0 ∷ 0 ∷ 0 ∷ 6 ∷ 0 ∷
    expression_statement ∷ 0 ∷ 0 ∷ 0 ∷ 7 ∷ 0 ∷
    call_expression ∷ 0 ∷ 0 ∷ 0 ∷ 8 ∷ 0 ∷
    identifier ∷ 0 ∷ r ∷ unresolved ∷ 0 ∷ 9 ∷
    identifier ∷ 0 ∷ k ∷ own ∷ 0 ∷ 0 ∷
    fn_declaration ∷ 0 ∷ k ∷ own ∷ 11 ∷ 0 ∷
    function ∷ 0 ∷ 0 ∷ 0 ∷ 12 ∷ 0 ∷
    block ∷ 0 ∷ 0 ∷ 0 ∷ 13 ∷ 0 ∷
    expression_statement ∷ 0 ∷ 0 ∷ 0 ∷ 14 ∷ 0 ∷
    plain_expression ∷ 1 ∷ 0 ∷ 0 ∷ 15 ∷ 0 ∷
    identifier ∷ 0 ∷ C ∷ own ∷ 0 ∷ 0 ∷ []

-- class C{constructor(){function f(){j()} f()}} function j(){C}
abbrev pub constructed : List ℕ
constructed =
    script_root ∷ 0 ∷ 0 ∷ 0 ∷ 2 ∷ 0 ∷
    class_declaration ∷ 0 ∷ C ∷ own ∷ 3 ∷ 15 ∷
    class_body ∷ 0 ∷ 0 ∷ 0 ∷ 4 ∷ 0 ∷
    constructor ∷ 0 ∷ 0 ∷ 0 ∷ 5 ∷ 0 ∷
    block ∷ 0 ∷ 0 ∷ 0 ∷ 6 ∷ 0 ∷
    fn_declaration ∷ 0 ∷ f ∷ own ∷ 7 ∷ 12 ∷
    function ∷ 0 ∷ 0 ∷ 0 ∷ 8 ∷ 0 ∷
    block ∷ 0 ∷ 0 ∷ 0 ∷ 9 ∷ 0 ∷
    expression_statement ∷ 0 ∷ 0 ∷ 0 ∷ 10 ∷ 0 ∷
    call_expression ∷ 0 ∷ 0 ∷ 0 ∷ 11 ∷ 0 ∷
    identifier ∷ 0 ∷ j ∷ own ∷ 0 ∷ 0 ∷
    expression_statement ∷ 0 ∷ 0 ∷ 0 ∷ 13 ∷ 0 ∷
    call_expression ∷ 0 ∷ 0 ∷ 0 ∷ 14 ∷ 0 ∷
    identifier ∷ 0 ∷ f ∷ own ∷ 0 ∷ 0 ∷
    fn_declaration ∷ 0 ∷ j ∷ own ∷ 16 ∷ 0 ∷
    function ∷ 0 ∷ 0 ∷ 0 ∷ 17 ∷ 0 ∷
    block ∷ 0 ∷ 0 ∷ 0 ∷ 18 ∷ 0 ∷
    expression_statement ∷ 0 ∷ 0 ∷ 0 ∷ 19 ∷ 0 ∷
    identifier ∷ 0 ∷ C ∷ own ∷ 0 ∷ 0 ∷ []

-- function a(){} "use asm";
abbrev pub asm_last : List ℕ
asm_last =
    script_root ∷ 0 ∷ 0 ∷ 0 ∷ 2 ∷ 0 ∷
    fn_declaration ∷ 0 ∷ a ∷ own ∷ 3 ∷ 5 ∷
    function ∷ 0 ∷ 0 ∷ 0 ∷ 4 ∷ 0 ∷
    block ∷ 0 ∷ 0 ∷ 0 ∷ 0 ∷ 0 ∷
    expression_statement ∷ 0 ∷ 0 ∷ 0 ∷ 6 ∷ 0 ∷
    literal ∷ 0 ∷ asm_symbol ∷ 0 ∷ 0 ∷ 0 ∷ []

-- "use asm"; function a(){}
abbrev pub asm_first : List ℕ
asm_first =
    script_root ∷ 0 ∷ 0 ∷ 0 ∷ 2 ∷ 0 ∷
    expression_statement ∷ 0 ∷ 0 ∷ 0 ∷ 3 ∷ 4 ∷
    literal ∷ 0 ∷ asm_symbol ∷ 0 ∷ 0 ∷ 0 ∷
    fn_declaration ∷ 0 ∷ a ∷ own ∷ 5 ∷ 0 ∷
    function ∷ 0 ∷ 0 ∷ 0 ∷ 6 ∷ 0 ∷
    block ∷ 0 ∷ 0 ∷ 0 ∷ 0 ∷ 0 ∷ []

-- let u = 1; u = 2;
abbrev pub assigned : List ℕ
assigned =
    script_root ∷ 0 ∷ 0 ∷ 0 ∷ 2 ∷ 0 ∷
    var_declaration ∷ 0 ∷ 0 ∷ 0 ∷ 3 ∷ 6 ∷
    declarator ∷ 0 ∷ 0 ∷ 0 ∷ 4 ∷ 0 ∷
    name_pattern ∷ 0 ∷ u ∷ own ∷ 0 ∷ 5 ∷
    literal ∷ 0 ∷ 0 ∷ 0 ∷ 0 ∷ 0 ∷
    expression_statement ∷ 0 ∷ 0 ∷ 0 ∷ 7 ∷ 0 ∷
    assignment ∷ 0 ∷ 0 ∷ 0 ∷ 8 ∷ 0 ∷
    name_pattern ∷ 0 ∷ u ∷ own ∷ 0 ∷ 9 ∷
    literal ∷ 0 ∷ 0 ∷ 0 ∷ 0 ∷ 0 ∷ []

-- function f(){g(); f = 1}
abbrev pub own_name : List ℕ
own_name =
    script_root ∷ 0 ∷ 0 ∷ 0 ∷ 2 ∷ 0 ∷
    fn_declaration ∷ 0 ∷ f ∷ own ∷ 3 ∷ 0 ∷
    function ∷ 0 ∷ 0 ∷ 0 ∷ 4 ∷ 0 ∷
    block ∷ 0 ∷ 0 ∷ 0 ∷ 5 ∷ 0 ∷
    expression_statement ∷ 0 ∷ 0 ∷ 0 ∷ 6 ∷ 8 ∷
    call_expression ∷ 0 ∷ 0 ∷ 0 ∷ 7 ∷ 0 ∷
    identifier ∷ 0 ∷ g ∷ unresolved ∷ 0 ∷ 0 ∷
    expression_statement ∷ 0 ∷ 0 ∷ 0 ∷ 9 ∷ 0 ∷
    assignment ∷ 0 ∷ 0 ∷ 0 ∷ 10 ∷ 0 ∷
    name_pattern ∷ 0 ∷ f ∷ own ∷ 0 ∷ 11 ∷
    literal ∷ 0 ∷ 0 ∷ 0 ∷ 0 ∷ 0 ∷ []

-- how many rows the three tables have room for
pub record Rows : Type 0 where
  pub declared : ℕ
  pub names : ℕ
  pub edges : ℕ

-- room enough for every script
abbrev pub enough : Rows
enough = record { declared = 9; names = 9; edges = 9 }

-- so many rows
abbrev pub rows : (declared names edges : ℕ) → Rows
rows d n e = record { declared = d; names = n; edges = e }

-- the plain judge and an empty retain list
abbrev pub config : (top_level : Bool) → Config
config top_level = record { top_level = top_level; preserve_imports = false; acts = plain unresolved; retain = [] }

-- a shaker begun on a script
abbrev pub shaker : Rows → List ℕ → State
shaker space words = begun (start (record {
  tree = words;
  declared = replicate (2 * space.declared) 0;
  names = replicate (6 * space.names) 0;
  edges = replicate (4 * space.edges) 0;
}) false)

-- a repeat with `top_level`
abbrev pub repeated_on : Rows → List ℕ → After Repeated
repeated_on space words = repeat_passes (config true) (shaker space words)

-- a repeat without it
abbrev pub repeated_inside : Rows → List ℕ → After Repeated
repeated_inside space words = repeat_passes (config false) (shaker space words)

-- a pass with `top_level`
abbrev pub passed_on : Rows → List ℕ → After (Outcome Bool)
passed_on space words = pass_once (config true) (shaker space words)

-- a record without flag and name
abbrev pub bare : (number kind : ℕ) → Head
bare n k = record { number = n; kind = k; flags = 0; symbol = 0; mark = 0 }

-- a record with a name or a text
abbrev pub named : (number kind symbol mark : ℕ) → Head
named n k s m = record { number = n; kind = k; flags = 0; symbol = s; mark = m }

-- the root over some statements
abbrev pub under_root : Chain → Outcome Chain
under_root statements = fine (link (bare 1 script_root) statements end)

-- class C{static{r(k)}}
abbrev pub static_left : Chain
static_left =
    link (named 2 class_declaration C own) (
    link (bare 3 class_body) (
    link (bare 4 static_block) (
    link (bare 5 block) (
    link (bare 6 expression_statement) (
    link (bare 7 call_expression) (
    link (named 8 identifier r unresolved) end (
    link (named 9 identifier k own) end end)) end) end) end) end) end) end

-- function j(){C}
abbrev pub constructed_left : Chain
constructed_left =
    link (named 15 fn_declaration j own) (
    link (bare 16 function) (
    link (bare 17 block) (
    link (bare 18 expression_statement) (
    link (named 19 identifier C own) end end) end) end) end) end

-- the names that its first pass counts, discounted: C, j with a count that wrapped, f
abbrev pub constructed_names : List ℕ
constructed_names =
    C ∷ own ∷ 0 ∷ 0 ∷ 0 ∷ 1 ∷
    j ∷ own ∷ 4294967295 ∷ 0 ∷ 0 ∷ 1 ∷
    f ∷ own ∷ 0 ∷ 0 ∷ 0 ∷ 1 ∷ []

-- the edges that it counts, by the rows of names: C to j, f to j, C to f, j to C
abbrev pub constructed_edges : List ℕ
constructed_edges =
    1 ∷ 2 ∷ 1 ∷ 0 ∷
    3 ∷ 2 ∷ 1 ∷ 0 ∷
    1 ∷ 3 ∷ 1 ∷ 0 ∷
    2 ∷ 1 ∷ 1 ∷ 0 ∷ []

-- "use asm";
abbrev pub asm_left : Chain
asm_left =
    link (bare 5 expression_statement) (
    link (named 6 literal asm_symbol 0) end end) end

-- 2;
abbrev pub assigned_left : Chain
assigned_left =
    link (bare 6 expression_statement) (
    link (bare 9 literal) end end) end

-- what the rules make of the scripts
pub record Shown : Type 0 where
  pub ring_passes : (repeated_on enough ring).answer ≡ repeated 2 13
  pub ring_goes : (repeated_on enough ring).state.tree ≡ under_root end
  pub ring_one_declared_row : (repeated_on (rows 1 2 2) ring).answer ≡ stopped 5 8 0
  pub ring_one_name_row : (repeated_on (rows 2 1 2) ring).answer ≡ stopped 6 7 0
  pub ring_one_edge_row : (repeated_on (rows 2 2 1) ring).answer ≡ stopped 7 13 0
  pub ring_two_rows : (repeated_on (rows 2 2 2) ring).answer ≡ repeated 2 13
  pub called_passes : (repeated_on enough ring_called).answer ≡ repeated 1 16
  pub called_stays : (repeated_on enough ring_called).state.tree ≡ check ring_called
  pub static_passes : (repeated_on enough static).answer ≡ repeated 2 15
  pub class_stays : (repeated_on enough static).state.tree ≡ under_root static_left
  pub constructed_passes : (repeated_on enough constructed).answer ≡ repeated 3 19
  pub constructed_goes : (repeated_on enough constructed).state.tree ≡ under_root end
  pub once_changed : (passed_on (rows 3 3 4) constructed).answer ≡ fine true
  pub once_left : (passed_on (rows 3 3 4) constructed).state.tree ≡ under_root constructed_left
  pub once_names : (passed_on (rows 3 3 4) constructed).state.names ≡ constructed_names
  pub once_edges : (passed_on (rows 3 3 4) constructed).state.edges ≡ constructed_edges
  pub asm_last_passes : (repeated_on enough asm_last).answer ≡ repeated 2 6
  pub string_stays : (repeated_on enough asm_last).state.tree ≡ under_root asm_left
  pub asm_first_passes : (repeated_on enough asm_first).answer ≡ repeated 1 6
  pub asm_first_stays : (repeated_on enough asm_first).state.tree ≡ check asm_first
  pub assigned_passes : (repeated_on enough assigned).answer ≡ repeated 3 9
  pub value_stays : (repeated_on enough assigned).state.tree ≡ under_root assigned_left
  pub own_name_passes : (repeated_inside enough own_name).answer ≡ repeated 1 11
  pub own_name_stays : (repeated_inside enough own_name).state.tree ≡ check own_name
