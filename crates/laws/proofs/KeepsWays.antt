-- More ways form more chains. Where the ways on after one kind are among the ways on after another, a record of the second kind
-- may stand for one of the first, and what follows is still formed.
--
--   Within                                    some of the ways, in their order
--   within_same .. within_step                ways added, and the ways on
--   within_ends, within_placed, formed_within      more ways form more chains
--   formed_filled                             a chain that may not end where it begins has a record
use Rattle.std.proofs.Common.{◌≡◌, ℕ, true, false, List, [], ◌∷◌, ◌++◌, refl, arith}
use Rattle.std.proofs.lemmas.Bool.{both_ways}
use Rattle.rules.specs.Tree.{Chain, is_end}
use Rattle.rules.specs.Tree.Chain.{end, link}
use Rattle.rules.specs.Grammar.{Way, go_on, step, misplaced, may_end}
use Rattle.rules.specs.Held.{Formed}

-- some of the ways, in their order
pub data Within : List Way → List Way → Type 0 where
  none : Within [] []
  both : {way : Way} {a b : List Way} → Within a b → Within (way ∷ a) (way ∷ b)
  more : {way : Way} {a b : List Way} → Within a b → Within a (way ∷ b)

within_same : (a : List Way) → Within a a
within_same [] = none
within_same (way ∷ a) = both (within_same a)

pub within_none : (a : List Way) → Within [] a
within_none [] = none
within_none (way ∷ a) = more (within_none a)

within_front : (c : List Way) {a b : List Way} → Within a b → Within a (c ++ b)
within_front [] w = w
within_front (way ∷ c) w = more (within_front c w)

pub within_append : {c d : List Way} {a b : List Way} → Within a b → Within c d → Within (a ++ c) (b ++ d)
within_append none v = v
within_append (both w) v = both (within_append w v)
within_append (more w) v = more (within_append w v)

within_step : (k : ℕ) {a b : List Way} → Within a b → Within (step k a) (step k b)
within_step k none = none
within_step k (both {way} w) = within_append (within_same (go_on k way)) (within_step k w)
within_step k (more {way} w) = within_front (go_on k way) (within_step k w)

within_ends : {a b : List Way} → Within a b → may_end a ≡ true → may_end b ≡ true
within_ends none e = e
within_ends (both w) e = grind (arith, within_ends w)
within_ends (more w) e = grind (arith, within_ends w)

pub within_placed : {a b : List Way} → Within a b → misplaced a ≡ false → misplaced b ≡ false
within_placed none e = e
within_placed (both w) e = refl
within_placed (more w) e = refl

pub formed_within : (c : Chain) {a b : List Way} → Within a b → Formed a c → Formed b c
formed_within end w f = within_ends w f
formed_within (link h children rest) w f =
    let onward = within_step h.kind w in
    (f.0, within_placed onward f.1, f.2, formed_within rest onward f.3)

pub formed_filled : (ways : List Way) (c : Chain) → may_end ways ≡ false → Formed ways c → is_end c ≡ false
formed_filled ways end e f = absurd (both_ways (may_end ways) e f)
formed_filled ways (link h children rest) e f = refl
