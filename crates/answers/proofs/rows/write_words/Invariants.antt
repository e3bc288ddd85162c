-- Whatever writes the words that are left has written them all.
use Rattle.std.proofs.Common.{drop}
use Rattle.std.specs.Fmt.{HasWritten, IsPlainFormatter}
use Rattle.answers.specs.Lines.{words_text}
use Rattle.answers.proofs.rows.write_words.Given as goal

abbrev pub invariant-loop-word : goal.invariant-loop-word
invariant-loop-word g l =
    IsPlainFormatter l.initial.f → IsPlainFormatter l.f
    × ((end : _) → HasWritten g.W.Write.write_str_gives l.f (words_text (drop l.word-index l.words)) end
    → HasWritten g.W.Write.write_str_gives l.initial.f (words_text l.words) end)
