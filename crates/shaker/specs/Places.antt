-- Places of the code as the book has them. The contracts of the tests cite it.
--
--   parent_word, place_of          a parent's kind; a place
--   var_decl_kind_of, by_var       the kind of a Var; it is `var`
use Rattle.std.specs.Prelude.{ℕ, Bool, true, false, Some, None, Option, if◌then◌else◌}
use Rattle.rules.specs.Tree.{Head, ◌is◌, flagged}
use Rattle.rules.specs.Kinds.{var_declaration}
use Rattle.rules.specs.Removal as book
use Rattle.records.specs.KindWords.{kind_word}
use Rattle.records.specs.declared.kind.Kind.{Kind}
use Rattle.shaker.specs.declared.place.Place.{Place}
use Rattle.shaker.specs.declared.place.VarDeclKind.{VarDeclKind}
use Rattle.shaker.specs.declared.place.VarDeclKind.TheVariants.{Var, Lexical}

-- a parent's kind; 0 for none
abbrev pub parent_word : Option Kind → ℕ
parent_word None = 0
parent_word (Some k) = kind_word k

-- the kind of a Var: `var`, or `let` and `const`; no other record has one
abbrev pub var_decl_kind_of : Head → Option VarDeclKind
var_decl_kind_of h = if h is var_declaration then Some (if flagged h then Var else Lexical) else None

-- the kind, if there is one, is `var`: all that the rules ask of it
abbrev pub by_var : Option VarDeclKind → Bool
by_var None = false
by_var (Some Var) = true
by_var (Some Lexical) = false

-- a place
abbrev pub place_of : Place → book.Place
place_of p = record {
  in_fn = p.in_fn;
  in_block_stmt = p.in_block_stmt;
  in_var = by_var p.var_decl_kind;
  in_export = p.in_export;
  parent = parent_word p.parent;
}
