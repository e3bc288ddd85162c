-- Keywords: how they are written.
--
--   spelling      a keyword's bytes
--   keywords      all of them
--   known         bytes that are some keyword's
use Rattle.std.specs.Prelude.{ℕ, Bool, List, [], ◌∷◌, codes}
use Rattle.std.specs.List.{list_any}
use Rattle.std.specs.Str.{bytes_eq}
use Rattle.text.specs.declared.fault.Keyword.{Keyword}
use Rattle.text.specs.declared.fault.Keyword.TheVariants.{Case, Set, Retain, Tables, Tree, Calls, End}

-- a keyword's bytes
abbrev pub spelling : Keyword → List ℕ
spelling Case = codes "case"
spelling Set = codes "set"
spelling Retain = codes "retain"
spelling Tables = codes "tables"
spelling Tree = codes "tree"
spelling Calls = codes "calls"
spelling End = codes "end"

-- all keywords, in the order of a case's lines
abbrev pub keywords : List Keyword
keywords = Case ∷ Set ∷ Retain ∷ Tables ∷ Tree ∷ Calls ∷ End ∷ []

-- bytes that are some keyword's
abbrev pub known : List ℕ → Bool
known word = list_any (λ keyword. bytes_eq word (spelling keyword)) keywords
