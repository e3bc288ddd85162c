use Rattle.std.proofs.Common.{◌≡◌, drop}
use Rattle.text.specs.Numbers.{number, number_from}
use Rattle.text.proofs.words.U32FromWord.from_word.Given as goal

abbrev pub invariant-loop-byte : goal.invariant-loop-byte
invariant-loop-byte l = number l.word ≡ number_from l.n (drop l.byte-index l.word)
