-- A call as text: what it returned, and what it left. The contract of its writer cites it.
--
--   line              a line
--   call_text         a call
use Rattle.std.specs.Prelude.{ℕ, List, [], ◌∷◌, ◌++◌, codes, decimal}
use Rattle.std.specs.Int.{from_bool}
use Rattle.rules.specs.Check.{check}
use Rattle.rules.specs.Tables.{declared_width, names_width, edges_width}
use Rattle.tables.specs.Living.{rows}
use Rattle.answers.specs.Lines.{rows_text, tree_text}
use Rattle.answers.specs.Returned.{answer_text}
use Rattle.answers.specs.declared.call.CallText.{CallText}

-- a line, with its end
abbrev pub line : List ℕ → List ℕ
line text = text ++ 10 ∷ []

-- a line for what it returned, and one for each that it left
abbrev pub call_text : CallText → List ℕ
call_text c =
    line (answer_text c.answer)
    ++ (line (codes "declared" ++ rows_text (rows declared_width c.declared.now))
    ++ (line (codes "names" ++ rows_text (rows names_width c.names.now))
    ++ (line (codes "edges" ++ rows_text (rows edges_width c.edges.now))
    ++ (line (codes "changed " ++ decimal (from_bool c.changed))
    ++ line (codes "tree" ++ tree_text (check c.tree.now))))))
