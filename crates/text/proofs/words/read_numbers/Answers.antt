use Rattle.text.proofs.ReadBack.{read_back}
use Rattle.text.proofs.words.read_numbers.Goals as goal

pub returns : goal.returns
returns c = record { gives = c.from_line.ensures; back = read_back }
