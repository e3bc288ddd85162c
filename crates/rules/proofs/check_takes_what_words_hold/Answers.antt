use Rattle.rules.proofs.Sounds.{check_sound, check_complete, check_most}
use Rattle.rules.proofs.Reading.{read_back, tree_is_read}
use Rattle.rules.proofs.check_takes_what_words_hold.Goals as goal

pub returns : goal.returns
returns c = record { sound = check_sound; complete = check_complete; most = check_most; back = read_back; read = tree_is_read }
