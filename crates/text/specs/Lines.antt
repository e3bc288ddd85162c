-- What stands behind a line's keyword, as a value or the problem with it.
--
--   name_of              a name: one word of ASCII
--   bit, settings_of     settings: two bits, the judge's bit, the mark
--   lengths_of           the lengths of the three tables
--   call, calls_of       calls by their names
--   nothing_of           nothing
use Rattle.std.specs.Prelude.{ℕ, Bool, true, false, cond, not, ◌&&◌, List, [], ◌∷◌, length, Ok, Err, codes, Result, ◌==◌}
use Rattle.std.specs.Char.{is_ascii}
use Rattle.std.specs.List.{list_all, list_any}
use Rattle.std.specs.Str.{bytes_eq}
use Rattle.text.specs.declared.fault.Problem.{Problem}
use Rattle.text.specs.declared.fault.Problem.TheVariants.{WrongCount, NotASetting, UnknownCall, NotText}
use Rattle.text.specs.declared.case.Judge.TheVariants.{Plain, Cautious}
use Rattle.text.specs.declared.case.Settings.{Settings}
use Rattle.text.specs.declared.case.TableLengths.{TableLengths}
use Rattle.text.specs.declared.case.Call.{Call}
use Rattle.text.specs.declared.case.Call.TheVariants.{Begin, Pass, Reset, Repeat}
use Rattle.text.specs.Split.{words, and_then, each}
use Rattle.text.specs.Numbers.{numbers}

-- all bytes are ASCII
abbrev pub ascii : List ℕ → Bool
ascii bytes = list_all is_ascii bytes

-- bytes that are one word, with no space around it
abbrev pub one_word : List ℕ → Bool
one_word bytes = not (length bytes == 0) && not (list_any (λ b. b == 32) bytes)

-- a name: one word of ASCII
abbrev pub name_of : List ℕ → Result (List ℕ) Problem
name_of rest = cond (one_word rest) (cond (ascii rest) (Ok rest) (Err NotText)) (Err WrongCount)

-- a setting that is on or off
abbrev pub bit : ℕ → Result Bool Problem
bit n = cond (n == 0) (Ok false) (cond (n == 1) (Ok true) (Err NotASetting))

-- four numbers: top level, preserve imports, whether the judge is the cautious one, and the mark of the plain judge
abbrev pub settings_from : List ℕ → Result Settings Problem
settings_from [] = Err WrongCount
settings_from (a ∷ []) = Err WrongCount
settings_from (a ∷ b ∷ []) = Err WrongCount
settings_from (a ∷ b ∷ c ∷ []) = Err WrongCount
settings_from (a ∷ b ∷ c ∷ m ∷ []) =
    and_then (bit a) (λ top_level.
    and_then (bit b) (λ preserve_imports.
    and_then (bit c) (λ cautious.
    Ok (record { top_level = top_level; preserve_imports = preserve_imports; judge = cond cautious Cautious (Plain m) }))))
settings_from (a ∷ b ∷ c ∷ m ∷ n ∷ ns) = Err WrongCount

-- the settings that a line has
abbrev pub settings_of : List ℕ → Result Settings Problem
settings_of rest = and_then (numbers rest) settings_from

-- three numbers: the lengths of declared, names and edges
abbrev pub lengths_from : List ℕ → Result TableLengths Problem
lengths_from [] = Err WrongCount
lengths_from (a ∷ []) = Err WrongCount
lengths_from (a ∷ b ∷ []) = Err WrongCount
lengths_from (a ∷ b ∷ c ∷ []) = Ok (record { declared = a; names = b; edges = c })
lengths_from (a ∷ b ∷ c ∷ n ∷ ns) = Err WrongCount

-- the lengths that a line has
abbrev pub lengths_of : List ℕ → Result TableLengths Problem
lengths_of rest = and_then (numbers rest) lengths_from

-- a call by its name
abbrev pub call : List ℕ → Result Call Problem
call word =
    cond (bytes_eq word (codes "begin")) (Ok Begin)
    (cond (bytes_eq word (codes "pass")) (Ok Pass)
    (cond (bytes_eq word (codes "reset")) (Ok Reset)
    (cond (bytes_eq word (codes "repeat")) (Ok Repeat)
    (Err UnknownCall))))

-- the calls that a line has
abbrev pub calls_of : List ℕ → Result (List Call) Problem
calls_of rest = each call (words rest)

-- nothing may stand behind the keyword
abbrev pub nothing_of : List ℕ → Result (Unit {0}) Problem
nothing_of [] = Ok tt
nothing_of (b ∷ bs) = Err WrongCount
