-- Reading a case uses up lines: passing over adds none, each line that is read is gone, and a case has some.
use Rattle.std.proofs.Common.{◌≡◌, ℕ, suc, ◌+◌, ◌<◌, ◌≤◌, Bool, true, false, cond, List, [], ◌∷◌, length, IfOk, Ok, Err, Result, subst, arith}
use Rattle.std.proofs.lemmas.Result.{IfOk-weaker}
use Rattle.text.specs.declared.fault.Keyword.{Keyword}
use Rattle.text.specs.declared.fault.Problem.{Problem}
use Rattle.text.specs.declared.fault.TextFault.{TextFault}
use Rattle.text.specs.Split.{and_then}
use Rattle.text.specs.Reader.{Left, Said, skipped, pass_over, pass_over_from, at, rest_of, first_line, due_line, read_line, said}

-- fewer than k lines are left
abbrev Below : {A : Type 0} → ℕ → Result (A × Left) TextFault → Type 0
Below k r = IfOk r (λ value. length value.1.lines < k)

below_more : {A : Type 0} (j k : ℕ) (r : Result (A × Left) TextFault) → j ≤ k → Below j r → Below k r
below_more {A} j k r more = IfOk-weaker r (λ value. length value.1.lines < j) (λ value. length value.1.lines < k) (λ value below. omega arith)

-- one after another
below_then : {A B : Type 0} (k : ℕ) (m : Result (A × Left) TextFault) (f : A × Left → Result (B × Left) TextFault)
    → Below k m → ((value : A × Left) → Below (suc (length value.1.lines)) (f value)) → Below k (and_then m f)
below_then k (Ok value) f below more = below_more (suc (length value.1.lines)) k (f value) below (more value)
below_then k (Err fault) f below more = tt

passed_fewer : (between : Bool) (lines : List (List ℕ)) (number : ℕ) → length (pass_over between lines number).lines ≤ length lines
passed_fewer between [] number = omega arith
passed_fewer between (line ∷ lines) number =
    elim (skipped between line) as (λ t.
    length (cond t (pass_over between lines (number + 1)) (record { lines = line ∷ lines; number = number })).lines ≤ suc (length lines)) [
      | true ↦ omega (arith, passed_fewer between lines (number + 1))
      | false ↦ omega arith
    ]

-- what is left behind a line is left behind what is read of it
at_below : {A : Type 0} (after : Left) (r : Result A Problem) → Below (suc (length after.lines)) (at after r)
at_below after (Ok value) = omega arith
at_below after (Err problem) = tt

-- the line that is read is gone
first_below : (due : Keyword) (lines : List (List ℕ)) (number : ℕ) → Below (length lines) (first_line due lines number)
first_below due [] number = tt
first_below due (line ∷ lines) number = at_below (record { lines = lines; number = number + 1 }) (rest_of due line)

line_below : {A : Type 0} (k : ℕ) (due : Keyword) (read : List ℕ → Result A Problem) (here : Left) → length here.lines ≤ k → Below k (read_line due read here)
unfolding read_line
line_below k due read here more =
    let from = pass_over_from false here in
    below_more (length from.lines) k (read_line due read here) (omega (arith, passed_fewer false here.lines here.number))
    (below_then (length from.lines) (due_line due here) (λ line. at line.1 (read line.0))
    (first_below due from.lines from.number) (λ line. at_below line.1 (read line.0)))

said_below : (here : Left) → Below (length here.lines) (said here)
said_below here =
    below_then _ _ _ (line_below _ _ _ here (omega arith)) (λ name.
    below_then _ _ _ (line_below _ _ _ name.1 (omega arith)) (λ settings.
    below_then _ _ _ (line_below _ _ _ settings.1 (omega arith)) (λ retain.
    below_then _ _ _ (line_below _ _ _ retain.1 (omega arith)) (λ tables.
    below_then _ _ _ (line_below _ _ _ tables.1 (omega arith)) (λ tree.
    below_then _ _ _ (line_below _ _ _ tree.1 (omega arith)) (λ calls.
    below_then _ _ _ (line_below _ _ _ calls.1 (omega arith)) (λ finish. omega arith)))))))

-- fewer lines are left behind a case
pub case_shorter : (here passed after : Left) (found : Said) → passed ≡ pass_over_from true here → said passed ≡ Ok (found, after)
    → length after.lines < length here.lines
case_shorter here passed after found is read =
    let below : length after.lines < length passed.lines = subst (Below (length passed.lines)) read (said_below passed) in
    let fewer : length passed.lines ≤ length here.lines = rw is (passed_fewer true here.lines here.number) in
    omega arith
