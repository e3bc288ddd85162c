-- A list of calls. The contracts of a call and of a run cite it.
--
--   call_of         a call, as the book has it
--   answer_of       what a call answered
use Rattle.std.specs.Prelude.{Ok, Err}
use Rattle.rules.specs.Refusals.{bad_lengths}
use Rattle.rules.specs.Refusals.Outcome.{fine, refused}
use Rattle.rules.specs.Calls as book
use Rattle.rules.specs.Calls.Call.{pass, reset, repeat}
use Rattle.rules.specs.Calls.Answer.{pass_answer, reset_answer, repeat_answer}
use Rattle.dce.specs.declared.runs.Call.{Call}
use Rattle.dce.specs.declared.runs.Call.TheVariants.{Pass as call_pass, Reset as call_reset, Repeat as call_repeat}
use Rattle.dce.specs.declared.runs.Answer.{Answer}
use Rattle.dce.specs.declared.runs.Answer.TheVariants.{Pass, Reset, Repeat}
use Rattle.dce.specs.Faults.{number, place}
use Rattle.dce.specs.Calls.{told}

-- a call
abbrev pub call_of : Call → book.Call
call_of call_pass = pass
call_of call_reset = reset
call_of call_repeat = repeat

-- an answer
abbrev pub answer_of : Answer → book.Answer
answer_of (Pass (Ok changed)) = pass_answer (fine changed)
answer_of (Pass (Err fault)) = pass_answer (refused (number fault) (place fault))
answer_of (Reset (Ok done)) = reset_answer (fine done)
answer_of (Reset (Err fault)) = reset_answer (refused bad_lengths 0)
answer_of (Repeat result) = repeat_answer (told result)
