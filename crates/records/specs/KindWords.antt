-- The kinds of the code by the book's numbers. The contracts of kinds and records cite it.
--
--   kind_word      the first word of a record of a kind
--   Decodes        what a first word stands for
use Rattle.std.specs.Prelude.{◌≡◌, ℕ, false, Result, MatchResult}
use Rattle.rules.specs.Kinds.{known}
use Rattle.rules.specs.Kinds as book
use Rattle.records.specs.declared.kind.Kind.{Kind}
use Rattle.records.specs.declared.kind.UnknownKind.{UnknownKind}
use Rattle.records.specs.declared.kind.Kind.TheVariants.{Module, Script, Import, Specifier, ExportDeclaration, ExportList, ExportName, ExportDefault, Empty, Block, ExpressionStatement, PlainStatement, Try, FnDeclaration, ClassDeclaration, VarDeclaration, For, With, Catch, Declarator, Function, Class, Method, Property, StaticBlock, Constructor, Identifier, Literal, FunctionExpression, ClassExpression, Arrow, PlainExpression, Object, Call, Delete, Assignment, NamePattern, CompoundPattern, DefaultPattern, PropertyName, ExpressionPattern}

-- the first word of a record of this kind
abbrev pub kind_word : Kind → ℕ
kind_word Module = book.module_root
kind_word Script = book.script_root
kind_word Import = book.import_item
kind_word Specifier = book.specifier
kind_word ExportDeclaration = book.export_declaration
kind_word ExportList = book.export_list
kind_word ExportName = book.export_name
kind_word ExportDefault = book.export_default
kind_word Empty = book.empty_statement
kind_word Block = book.block
kind_word ExpressionStatement = book.expression_statement
kind_word PlainStatement = book.plain_statement
kind_word Try = book.try_statement
kind_word FnDeclaration = book.fn_declaration
kind_word ClassDeclaration = book.class_declaration
kind_word VarDeclaration = book.var_declaration
kind_word For = book.for_statement
kind_word With = book.with_statement
kind_word Catch = book.catch_part
kind_word Declarator = book.declarator
kind_word Function = book.function
kind_word Class = book.class_body
kind_word Method = book.method
kind_word Property = book.property
kind_word StaticBlock = book.static_block
kind_word Constructor = book.constructor
kind_word Identifier = book.identifier
kind_word Literal = book.literal
kind_word FunctionExpression = book.function_expression
kind_word ClassExpression = book.class_expression
kind_word Arrow = book.arrow
kind_word PlainExpression = book.plain_expression
kind_word Object = book.object
kind_word Call = book.call_expression
kind_word Delete = book.delete_expression
kind_word Assignment = book.assignment
kind_word NamePattern = book.name_pattern
kind_word CompoundPattern = book.compound_pattern
kind_word DefaultPattern = book.default_pattern
kind_word PropertyName = book.property_name
kind_word ExpressionPattern = book.expression_pattern

-- the kind whose first word it is; a word that is no kind's is handed back
abbrev pub Decodes : ℕ → Result Kind UnknownKind → Type 0
Decodes w result = MatchResult result (λ k. kind_word k ≡ w) (λ e. (known w ≡ false) × (e.0 ≡ w))
