-- What may follow in a chain of children, as the book has it: the ways for the chain to go on.
-- The contracts of `Expected` cite it.
--
--   for_tail        a For after its head
--   ways            what is expected, as ways
--   ways_after      the same after a child; none where the child is misplaced
use Rattle.std.specs.Prelude.{ℕ, Bool, true, false, not, ◌&&◌, ◌||◌, List, [], ◌∷◌, Some, None, Option, ◌==◌}
use Rattle.rules.specs.Kinds.{only, specifier, export_name, block, catch_part, declarator, function, class_body, name_pattern, compound_pattern, plain_expression, expression, statement, pattern, item, declaration, class_member, for_head, arrow_body, compound_part, definition_expression}
use Rattle.rules.specs.Grammar.{Way, try_children, root}
use Rattle.rules.specs.Grammar.Part.{one, maybe, many}
use Rattle.checker.specs.declared.expected.Expected.{Expected}
use Rattle.checker.specs.declared.expected.Expected.TheVariants.{Root, Nothing, Items, Statements, Specifiers, OneDeclaration, ExportNames, OneDefinition, OneExpression, MaybeExpression, Expressions, OneStatement, PlainParts, PlainStatements, PlainLast, TryBlock, TryHandler, MaybeBlock, OneBlock, OneFunction, OneClass, Declarators, MoreDeclarators, ForHead, ForAfterVar, ForAfterPattern, ForSecond, ForThird, ForDone, WithObject, CatchPattern, DeclaratorPattern, Parameters, Superclass, Members, MethodKey, PropertyKey, ArrowParameters, Callee, AssignmentTarget, UpdateTarget, PatternParts, DefaultedPattern}

-- what an Assignment assigns to, by whether it is compound
abbrev pub assigns : Bool → ℕ → Bool
assigns flag = λ k. (k == name_pattern) || k == plain_expression || (k == compound_pattern && not flag)

-- a For after its head
abbrev pub for_tail : Way
for_tail = maybe expression ∷ maybe expression ∷ maybe expression ∷ one statement ∷ []

-- what is expected, as the ways for a chain to go on
abbrev pub ways : Expected → List Way
ways Root = root
ways Nothing = [] ∷ []
ways Items = (many item ∷ []) ∷ []
ways Statements = (many statement ∷ []) ∷ []
ways Specifiers = (many (only specifier) ∷ []) ∷ []
ways OneDeclaration = (one declaration ∷ []) ∷ []
ways ExportNames = (many (only export_name) ∷ []) ∷ []
ways OneDefinition = (one definition_expression ∷ []) ∷ []
ways OneExpression = (one expression ∷ []) ∷ []
ways MaybeExpression = (maybe expression ∷ []) ∷ []
ways Expressions = (many expression ∷ []) ∷ []
ways OneStatement = (one statement ∷ []) ∷ []
ways PlainParts = (maybe expression ∷ maybe statement ∷ maybe statement ∷ []) ∷ []
ways PlainStatements = (maybe statement ∷ maybe statement ∷ []) ∷ []
ways PlainLast = (maybe statement ∷ []) ∷ [] ∷ []
ways TryBlock = try_children
ways TryHandler = (one (only catch_part) ∷ maybe (only block) ∷ []) ∷ (one (only block) ∷ []) ∷ []
ways MaybeBlock = (maybe (only block) ∷ []) ∷ []
ways OneBlock = (one (only block) ∷ []) ∷ []
ways OneFunction = (one (only function) ∷ []) ∷ []
ways OneClass = (one (only class_body) ∷ []) ∷ []
ways Declarators = (one (only declarator) ∷ many (only declarator) ∷ []) ∷ []
ways MoreDeclarators = (many (only declarator) ∷ []) ∷ []
ways ForHead = (maybe for_head ∷ for_tail) ∷ []
ways ForAfterVar = for_tail ∷ [] ∷ []
ways ForAfterPattern = for_tail ∷ []
ways ForSecond = (maybe expression ∷ maybe expression ∷ one statement ∷ []) ∷ (maybe expression ∷ one statement ∷ []) ∷ (one statement ∷ []) ∷ []
ways ForThird = (maybe expression ∷ one statement ∷ []) ∷ (one statement ∷ []) ∷ (one statement ∷ []) ∷ []
ways ForDone = [] ∷ [] ∷ [] ∷ []
ways WithObject = (one expression ∷ one statement ∷ []) ∷ []
ways CatchPattern = (maybe pattern ∷ one (only block) ∷ []) ∷ []
ways DeclaratorPattern = (one pattern ∷ maybe expression ∷ []) ∷ []
ways Parameters = (many pattern ∷ one (only block) ∷ []) ∷ []
ways Superclass = (one expression ∷ many class_member ∷ []) ∷ []
ways Members = (many class_member ∷ []) ∷ []
ways MethodKey = (one expression ∷ one (only function) ∷ []) ∷ []
ways PropertyKey = (one expression ∷ maybe expression ∷ []) ∷ []
ways ArrowParameters = (many pattern ∷ one arrow_body ∷ []) ∷ []
ways Callee = (one expression ∷ many expression ∷ []) ∷ []
ways AssignmentTarget = (one (assigns false) ∷ one expression ∷ []) ∷ []
ways UpdateTarget = (one (assigns true) ∷ one expression ∷ []) ∷ []
ways PatternParts = (many compound_part ∷ []) ∷ []
ways DefaultedPattern = (one pattern ∷ one expression ∷ []) ∷ []

-- the ways after a child; none where the child is misplaced
abbrev pub ways_after : Option Expected → List Way
ways_after None = []
ways_after (Some e) = ways e
