-- Passing from line to line: a line and what is read of it, and the case that begins where the reader is.
use Rattle.std.proofs.Common.{◌≡◌, ℕ, ◌<◌, true, List, length, Some, Ok, Err, Result, sym, ap, ◌∙◌, inl, inr, arith}
use Rattle.text.specs.declared.fault.Keyword.{Keyword}
use Rattle.text.specs.declared.fault.Problem.{Problem}
use Rattle.text.specs.declared.fault.TextFault.{TextFault}
use Rattle.text.specs.Gives.{Gives, Finds}
use Rattle.text.specs.Split.{split, and_then}
use Rattle.text.specs.Reader.{Left, left, pass_over_from, due_line, read_line, numbered, Said, said, said_from, next_said}
use Rattle.text.proofs.Cuts.{split_at_first}

-- the line that is due is not there
pub line_missing : {A : Type 0} (due : Keyword) (read : List ℕ → Result A Problem) (here : Left) (fault : TextFault)
    → due_line due here ≡ Err fault → read_line due read here ≡ Err fault
unfolding read_line
line_missing due read here fault is = grind (arith, is)

-- the line is there, and what stands behind its keyword is read
pub line_read : {A V : Type 0} (due : Keyword) (read : List ℕ → Result A Problem) (view : V → A) (here after : Left) (rest : List ℕ) (r : Result V Problem)
    → due_line due here ≡ Ok (rest, after) → Gives (read rest) view r
    → Finds (read_line due read here) (λ v. (view v, after)) (numbered after.number r)
unfolding read_line
line_read due read view here after rest (Ok value) is gives = grind (arith, is, gives)
line_read due read view here after rest (Err problem) is (inl memory) = inl memory
line_read due read view here after rest (Err problem) is (inr gives) = inr (grind (arith, is, gives))

-- a case is left, and r is what is said there
pub case_there : (here passed : Left) (bytes : List ℕ) (number : ℕ) (r : Result (Said × Left) TextFault) → passed ≡ pass_over_from true here
    → left bytes number ≡ passed → 0 < length bytes → said passed ≡ r → next_said here ≡ and_then r (λ found. Ok (Some found))
case_there here passed bytes number r is view some found =
    let opened : said_from (split 10 bytes) number ≡ and_then (said (left bytes number)) (λ found. Ok (Some found)) =
    rw (split_at_first 10 bytes some) in
    ap (λ from. said_from from.lines from.number) (sym (view ∙ is))
    ∙ opened
    ∙ ap (λ p. and_then (said p) (λ found. Ok (Some found))) view
    ∙ ap (λ q. and_then q (λ found. Ok (Some found))) found
