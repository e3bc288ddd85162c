-- What a call left, as text: the rows of a table, and the reached records. The contracts of the writers cite it.
--
--   words_text, row_text, rows_text           words behind a colon each; a row; the rows of a table
--   head_text, chain_text                     a record without its links; the records of a chain, each with those below it
--   tree_text                                 a tree, or a dash where the check refuses it
use Rattle.std.specs.Prelude.{ℕ, List, [], ◌∷◌, ◌++◌, codes, decimal}
use Rattle.rules.specs.Tree.{Head, Chain}
use Rattle.rules.specs.Tree.Chain.{end, link}
use Rattle.rules.specs.Refusals.{Outcome}
use Rattle.rules.specs.Refusals.Outcome.{fine, refused}

-- words, each behind a colon
abbrev pub words_text : List ℕ → List ℕ
words_text [] = []
words_text (w ∷ ws) = (codes ":" ++ decimal w) ++ words_text ws

-- a row: a space, and its words apart by colons
abbrev pub row_text : List ℕ → List ℕ
row_text [] = []
row_text (w ∷ ws) = (codes " " ++ decimal w) ++ words_text ws

-- the rows of a table
abbrev pub rows_text : List (List ℕ) → List ℕ
rows_text [] = []
rows_text (r ∷ rs) = row_text r ++ rows_text rs

-- a record without its links: its parenthesis is left open
abbrev pub head_text : Head → List ℕ
head_text h =
    codes " (" ++ (decimal h.number ++ (codes " " ++ (decimal h.kind ++ (codes " " ++ (decimal h.flags
    ++ (codes " " ++ (decimal h.symbol ++ (codes " " ++ decimal h.mark))))))))

-- the records of a chain, each with those below it
abbrev pub chain_text : Chain → List ℕ
chain_text end = []
chain_text (link h children rest) = ((head_text h ++ chain_text children) ++ codes ")") ++ chain_text rest

-- a tree, or a dash where the check refuses it
abbrev pub tree_text : Outcome Chain → List ℕ
tree_text (fine tree) = chain_text tree
tree_text (refused number at) = codes " -"
