-- The kinds of records by name, the symbols with a meaning, and the sorts of kinds.
--
--   module_root .. expression_pattern      the 41 kinds
--   arguments_symbol, eval_symbol, asm_symbol
--   known                                  there are no other kinds
--   expression, statement, pattern, item   the sorts that the table of kinds speaks of
--   declaration, class_member, for_head, arrow_body, compound_part, only      sorts of one place each
use Rattle.std.specs.Prelude.{ℕ, Bool, false, ◌&&◌, ◌||◌, List, [], ◌∷◌, ◌==◌, nat_le}

-- roots and items
abbrev pub module_root : ℕ
module_root = 1

abbrev pub script_root : ℕ
script_root = 2

abbrev pub import_item : ℕ
import_item = 3

abbrev pub specifier : ℕ
specifier = 4

abbrev pub export_declaration : ℕ
export_declaration = 5

abbrev pub export_list : ℕ
export_list = 6

abbrev pub export_name : ℕ
export_name = 7

abbrev pub export_default : ℕ
export_default = 8

-- statements
abbrev pub empty_statement : ℕ
empty_statement = 9

abbrev pub block : ℕ
block = 10

abbrev pub expression_statement : ℕ
expression_statement = 11

abbrev pub plain_statement : ℕ
plain_statement = 12

abbrev pub try_statement : ℕ
try_statement = 13

abbrev pub fn_declaration : ℕ
fn_declaration = 14

abbrev pub class_declaration : ℕ
class_declaration = 15

abbrev pub var_declaration : ℕ
var_declaration = 16

abbrev pub for_statement : ℕ
for_statement = 17

abbrev pub with_statement : ℕ
with_statement = 18

-- parts
abbrev pub catch_part : ℕ
catch_part = 19

abbrev pub declarator : ℕ
declarator = 20

abbrev pub function : ℕ
function = 21

abbrev pub class_body : ℕ
class_body = 22

abbrev pub method : ℕ
method = 23

abbrev pub property : ℕ
property = 24

abbrev pub static_block : ℕ
static_block = 25

abbrev pub constructor : ℕ
constructor = 26

-- expressions
abbrev pub identifier : ℕ
identifier = 27

abbrev pub literal : ℕ
literal = 28

abbrev pub function_expression : ℕ
function_expression = 29

abbrev pub class_expression : ℕ
class_expression = 30

abbrev pub arrow : ℕ
arrow = 31

abbrev pub plain_expression : ℕ
plain_expression = 32

abbrev pub object : ℕ
object = 33

abbrev pub call_expression : ℕ
call_expression = 34

abbrev pub delete_expression : ℕ
delete_expression = 35

abbrev pub assignment : ℕ
assignment = 36

-- patterns
abbrev pub name_pattern : ℕ
name_pattern = 37

abbrev pub compound_pattern : ℕ
compound_pattern = 38

abbrev pub default_pattern : ℕ
default_pattern = 39

abbrev pub property_name : ℕ
property_name = 40

abbrev pub expression_pattern : ℕ
expression_pattern = 41

-- symbols with a meaning: `arguments`, `eval` and the text 'use asm'
abbrev pub arguments_symbol : ℕ
arguments_symbol = 1

abbrev pub eval_symbol : ℕ
eval_symbol = 2

abbrev pub asm_symbol : ℕ
asm_symbol = 3

-- a number stands in a list
abbrev pub member : ℕ → List ℕ → Bool
member n [] = false
member n (m ∷ ms) = n == m || member n ms

-- lo to hi
abbrev pub within : ℕ → ℕ → ℕ → Bool
within lo hi n = nat_le lo n && nat_le n hi

-- one of the kinds
abbrev pub known : ℕ → Bool
known k = within module_root expression_pattern k

-- expressions
abbrev pub expression : ℕ → Bool
expression k = within identifier assignment k

-- statements
abbrev pub statement : ℕ → Bool
statement k = within empty_statement with_statement k

-- patterns: a Property name is none by itself
abbrev pub pattern : ℕ → Bool
pattern k = within name_pattern default_pattern k || k == expression_pattern

-- what stands in a Module
abbrev pub item : ℕ → Bool
item k = statement k || member k (import_item ∷ export_declaration ∷ export_list ∷ export_default ∷ [])

-- the child of an Export declaration
abbrev pub declaration : ℕ → Bool
declaration k = within fn_declaration var_declaration k

-- what may stand in a Class
abbrev pub class_member : ℕ → Bool
class_member k = within method constructor k

-- what may stand first in a For
abbrev pub for_head : ℕ → Bool
for_head k = k == var_declaration || pattern k

-- the body of an Arrow
abbrev pub arrow_body : ℕ → Bool
arrow_body k = k == block || expression k

-- what may stand in a Compound
abbrev pub compound_part : ℕ → Bool
compound_part k = pattern k || k == property_name

-- a function or class expression
abbrev pub definition_expression : ℕ → Bool
definition_expression k = k == function_expression || k == class_expression

-- one kind alone
abbrev pub only : ℕ → ℕ → Bool
only k = λ n. (n == k)
