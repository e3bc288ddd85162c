-- A text of cases, read line by line: the next case, or the first problem and its line.
--
--   Left, left                what is still to be read
--   GoesOn                    the lines that the reader has passed, each counted
--   skipped, pass_over        lines that say nothing: comments, and between cases empty lines
--   rest_of, due_line         what stands behind the keyword that is due
--   read_line                 the value of the next line
--   Said, said                a case as the text says it, from its seven lines
--   next_said                 the next case, if there is one
use Rattle.std.specs.Prelude.{◌≡◌, ℕ, ◌+◌, Bool, true, false, cond, List, [], ◌∷◌, ◌++◌, length, Some, None, Ok, Err, Option, Result, ◌==◌}
use Rattle.std.specs.Str.{bytes_eq}
use Rattle.text.specs.declared.fault.Keyword.{Keyword}
use Rattle.text.specs.declared.fault.Keyword.TheVariants.{Case, Set, Retain, Tables, Tree, Calls, End}
use Rattle.text.specs.declared.fault.Problem.{Problem}
use Rattle.text.specs.declared.fault.Problem.TheVariants.{UnknownLine, Expected, EndMissing}
use Rattle.text.specs.declared.fault.TextFault.{TextFault}
use Rattle.text.specs.declared.case.Settings.{Settings}
use Rattle.text.specs.declared.case.TableLengths.{TableLengths}
use Rattle.text.specs.declared.case.Call.{Call}
use Rattle.text.specs.Split.{before, behind, split, and_then}
use Rattle.text.specs.Numbers.{numbers}
use Rattle.text.specs.Keywords.{spelling, known}
use Rattle.text.specs.Lines.{name_of, settings_of, lengths_of, calls_of, nothing_of}

-- the lines still to be read, and how many were read
pub record Left : Type 0 where
  pub lines : List (List ℕ)
  pub number : ℕ

-- the lines of bytes, after so many others
abbrev pub left : List ℕ → ℕ → Left
left bytes number = record { lines = split 10 bytes; number = number }

-- the lines that the reader has passed, each counted; the others are left
pub record GoesOn (before after : Left) : Type 0 where
  pub passed : List (List ℕ)
  pub lines : before.lines ≡ passed ++ after.lines
  pub number : after.number ≡ before.number + length passed

-- a line that says nothing: a comment, and between cases an empty line
abbrev pub skipped : (between : Bool) → List ℕ → Bool
skipped between [] = between
skipped between (b ∷ bs) = b == 35

-- such lines at the front are passed over
abbrev pub pass_over : (between : Bool) → List (List ℕ) → ℕ → Left
pass_over between [] number = record { lines = []; number = number }
pass_over between (line ∷ lines) number =
    cond (skipped between line) (pass_over between lines (number + 1)) (record { lines = line ∷ lines; number = number })

-- the same from where the reader is
abbrev pub pass_over_from : (between : Bool) → Left → Left
pass_over_from between here = pass_over between here.lines here.number

-- what stands behind the keyword that is due
abbrev pub rest_of : Keyword → List ℕ → Result (List ℕ) Problem
rest_of due line =
    cond (bytes_eq (before 32 line) (spelling due)) (Ok (behind 32 line))
    (cond (known (before 32 line)) (Err (Expected due)) (Err UnknownLine))

-- a value of line `number`, or the problem with that line
abbrev pub numbered : {A : Type 0} → (number : ℕ) → Result A Problem → Result A TextFault
numbered number (Ok value) = Ok value
numbered number (Err problem) = Err (record { line = number; problem = problem })

-- a value of the last line that was read, with what is left then
abbrev pub at : {A : Type 0} → Left → Result A Problem → Result (A × Left) TextFault
at after r = and_then (numbered after.number r) (λ value. Ok (value, after))

-- the first of these lines, behind the keyword that is due
abbrev pub first_line : Keyword → List (List ℕ) → ℕ → Result (List ℕ × Left) TextFault
first_line due [] number = Err (record { line = number; problem = EndMissing })
first_line due (line ∷ lines) number = at (record { lines = lines; number = number + 1 }) (rest_of due line)

-- the next line that is no comment, behind the keyword that is due
abbrev pub due_line : Keyword → Left → Result (List ℕ × Left) TextFault
due_line due here = let from = pass_over_from false here in first_line due from.lines from.number

-- the value of the next line
unfoldable pub read_line : {A : Type 0} → Keyword → (List ℕ → Result A Problem) → Left → Result (A × Left) TextFault
read_line due read here = and_then (due_line due here) (λ line. at line.1 (read line.0))

-- a case as the text says it
pub record Said : Type 0 where
  pub name : List ℕ
  pub settings : Settings
  pub retain : List ℕ
  pub tables : TableLengths
  pub tree : List ℕ
  pub calls : List Call

-- a case from its seven lines
abbrev pub said : Left → Result (Said × Left) TextFault
said here =
    and_then (read_line Case name_of here) (λ name.
    and_then (read_line Set settings_of name.1) (λ settings.
    and_then (read_line Retain numbers settings.1) (λ retain.
    and_then (read_line Tables lengths_of retain.1) (λ tables.
    and_then (read_line Tree numbers tables.1) (λ tree.
    and_then (read_line Calls calls_of tree.1) (λ calls.
    and_then (read_line End nothing_of calls.1) (λ finish.
    Ok (
      record {
        name = name.0;
        settings = settings.0;
        retain = retain.0;
        tables = tables.0;
        tree = tree.0;
        calls = calls.0;
      },
      finish.1,
    ))))))))

-- the case that begins at the first of these lines, if there is one
abbrev pub said_from : List (List ℕ) → ℕ → Result (Option (Said × Left)) TextFault
said_from [] number = Ok None
said_from (line ∷ lines) number = and_then (said (record { lines = line ∷ lines; number = number })) (λ found. Ok (Some found))

-- the next case, if there is one
abbrev pub next_said : Left → Result (Option (Said × Left)) TextFault
next_said here = let from = pass_over_from true here in said_from from.lines from.number
