-- A run of one repeat has one answer, and that is a repeat's.
--
--   alone      the answers of such a run
use Rattle.std.proofs.Common.{◌≡◌, Bool, true, false, [], ◌∷◌, map, refl, ap}
use Rattle.rules.specs.Refusals.{bad_lengths}
use Rattle.rules.specs.Removal.{Config}
use Rattle.rules.specs.Calls.{State, Repeated, handed_fit, repeat_passes, call, calls}
use Rattle.rules.specs.Calls.Call.{repeat}
use Rattle.rules.specs.Calls.Answer.{repeat_answer}
use Rattle.rules.specs.Calls.Repeated.{stopped}

by_fit : (k : Config) (s : State) (fits : Bool) → handed_fit k s ≡ fits → (x : Repeated) × ((call k repeat s).answer ≡ repeat_answer x)
by_fit k s true e = ((repeat_passes k s).answer, cc)
by_fit k s false e = (stopped bad_lengths 0 0, cc)

pub alone : (k : Config) (s : State) → (x : Repeated) × (map (λ a. a.answer) (calls k (repeat ∷ []) s) ≡ repeat_answer x ∷ [])
alone k s =
    let one = by_fit k s (handed_fit k s) refl in
    (one.0, ap (λ a. a ∷ []) one.1)
