-- What a call returned, as text. The contract of its writer cites it.
--
--   told              a refusal
--   refusal_text      a refused call
--   answer_text       any call
use Rattle.std.specs.Prelude.{ℕ, true, false, List, ◌++◌, codes, decimal, Ok, Err}
use Rattle.answers.specs.declared.answer.Answer.{Answer}
use Rattle.answers.specs.declared.answer.Answer.TheVariants.{Begin, Reset, Pass, Repeat}
use Rattle.answers.specs.declared.answer.Refusal.{Refusal}

-- a refusal
abbrev pub told : Refusal → List ℕ
told r = codes "refused " ++ (decimal r.number ++ (codes " " ++ decimal r.«record»))

-- a call that was refused
abbrev pub refusal_text : (call : List ℕ) → Refusal → List ℕ
refusal_text call r = call ++ (codes " refused " ++ (decimal r.number ++ (codes " " ++ decimal r.«record»)))

-- what a call returned
abbrev pub answer_text : Answer → List ℕ
answer_text (Begin (Ok _)) = codes "begin ok"
answer_text (Begin (Err r)) = refusal_text (codes "begin") r
answer_text (Reset (Ok _)) = codes "reset ok"
answer_text (Reset (Err r)) = refusal_text (codes "reset") r
answer_text (Pass (Ok false)) = codes "pass ok 0"
answer_text (Pass (Ok true)) = codes "pass ok 1"
answer_text (Pass (Err r)) = refusal_text (codes "pass") r
answer_text (Repeat passes (Ok reached)) = codes "repeat ok " ++ (decimal passes ++ (codes " " ++ decimal reached))
answer_text (Repeat passes (Err r)) = refusal_text (codes "repeat") r ++ (codes " " ++ decimal passes)
