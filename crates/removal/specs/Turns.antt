-- A record treated in its chain. The contract of a turn of the loop along a chain cites it.
--
--   here          what the book leaves of a record that stands before `rest`
--   Treats        the words, with that in the place of the record
use Rattle.std.specs.Prelude.{◌≡◌, ℕ, Bool, List}
use Rattle.rules.specs.Tree.{Head, Chain, is_end}
use Rattle.rules.specs.Tree.Chain.{link}
use Rattle.rules.specs.Removal.{By, Place, Left, entered, place_inside, treated, treat}
use Rattle.edit.specs.Slots.{Step}

-- what is left of the record h with these children, which stands before `rest`
abbrev pub here : By → Place → (h : Head) → (children rest : Chain) → Left
here by p h children rest = treated (entered p h children (is_end rest)) by p h children (treat by (place_inside p h) children)

-- that stands in the record's place, `next` is the slot that follows, and `changed` tells whether something was removed
pub record Treats (by : By) (p : Place) (words written : List ℕ) (slot : ℕ) (h : Head) (children rest : Chain) (next : ℕ) (changed : Bool) : Type 0 where
  pub step : Step words written slot (link h children rest) (here by p h children rest).chain next
  pub flag : changed ≡ (here by p h children rest).changed
