-- Going on from line to line: passing over, a line that is read, and one after the other.
use Rattle.std.proofs.Common.{◌≡◌, ℕ, ◌+◌, Bool, true, false, cond, List, [], ◌∷◌, ◌++◌, refl, sym, ap, ◌∙◌, arith, length-append, append_assoc}
use Rattle.text.specs.Split.{split}
use Rattle.text.specs.Reader.{Left, left, GoesOn, skipped, pass_over, pass_over_from}

-- one after the other
pub goes_on_then : {a b c : Left} → GoesOn a b → GoesOn b c → GoesOn a c
goes_on_then {a} {b} {c} first second = record {
  passed = first.passed ++ second.passed;
  lines = first.lines ∙ ap (λ ls. first.passed ++ ls) second.lines ∙ sym (append_assoc first.passed second.passed c.lines);
  number = omega (arith, first.number, second.number, length-append first.passed second.passed);
}

-- nothing is passed
stays_there : (a : Left) → GoesOn a a
stays_there a = record { passed = []; lines = refl; number = omega arith }

-- lines that say nothing are passed
passed_lines : (between : Bool) (lines : List (List ℕ)) (number : ℕ) → GoesOn (record { lines = lines; number = number }) (pass_over between lines number)
passed_lines between [] number = stays_there (record { lines = []; number = number })
passed_lines between (line ∷ lines) number =
    elim (skipped between line) as (λ t.
    GoesOn (record { lines = line ∷ lines; number = number }) (cond t (pass_over between lines (number + 1)) (record { lines = line ∷ lines; number = number }))) [
      | true ↦ let more = passed_lines between lines (number + 1) in record { passed = line ∷ more.passed; lines = ap (λ ls. line ∷ ls) more.lines; number = omega (arith, more.number) }
      | false ↦ stays_there (record { lines = line ∷ lines; number = number })
    ]

pub passed_on : (between : Bool) (here passed : Left) → passed ≡ pass_over_from between here → GoesOn here passed
passed_on between here passed is = rw is (passed_lines between here.lines here.number)

-- a line is passed
pub line_on : (bytes line after : List ℕ) (number : ℕ) → split 10 bytes ≡ line ∷ split 10 after → GoesOn (left bytes number) (left after (number + 1))
line_on bytes line after number cut = record { passed = line ∷ []; lines = cut; number = omega arith }
