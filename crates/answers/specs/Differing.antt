-- Where two texts differ first. The contract of their comparison cites it.
--
--   is_line_feed, line_around      the end of a line; the line that a place of a text is in
--   shared                         how many bytes two texts begin with alike
--   Differs                        the first line that differs
use Rattle.std.specs.Prelude.{◌≡◌, ℕ, Bool, List, ◌++◌, take, drop, count_by, ◌≢◌, ◌==◌, slice_get}
use Rattle.std.specs.List.{after_last, before_first, prefix_len, zip}
use Rattle.answers.specs.declared.compare.Difference.{Difference}

-- a byte that ends a line
abbrev pub is_line_feed : ℕ → Bool
is_line_feed b = b == 10

-- the line that a place of a text is in, without its end
abbrev pub line_around : List ℕ → (place : ℕ) → List ℕ
line_around text place = after_last is_line_feed (take place text) ++ before_first is_line_feed (drop place text)

-- how many bytes two texts begin with alike
abbrev pub shared : List ℕ → List ℕ → ℕ
shared a b = prefix_len (λ p. p.0 == p.1) (zip a b)

-- the texts are alike up to a place and differ there, or the stored one ends there: the line that it is in, in both, and how many lines are before
pub record Differs (stored found : List ℕ) (d : Difference) : Type 0 where
  pub place : ℕ
  pub alike : take place stored ≡ take place found
  pub apart : slice_get stored place ≢ slice_get found place
  pub before : d.before ≡ count_by is_line_feed (take place found)
  pub lines : (d.stored.now ≡ line_around stored place) × (d.found.now ≡ line_around found place)
