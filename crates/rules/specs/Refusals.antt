-- Refusals: a number and a record in the place of a result.
--
--   Outcome, and_then      a result or a refusal; going on with a result
--   Says                   what the code answers is what an outcome says
--   bad_lengths .. edges_full      the numbers
use Rattle.std.specs.Prelude.{◌≡◌, ℕ, Result, MatchResult}

-- a result, or the refusal's number and record
pub data Outcome (A : Type 0) : Type 0 where
  fine : A → Outcome A
  refused : (number at : ℕ) → Outcome A

-- go on with a result, or stay refused
abbrev pub and_then : {A B : Type 0} → Outcome A → (A → Outcome B) → Outcome B
and_then (fine a) f = f a
and_then (refused number at) f = refused number at

-- the code answers what the outcome says: what its value comes to, or the refusal by its number and record
abbrev pub Says : {A V E : Type 0} → Outcome A → (value : V → A) → (number at : E → ℕ) → Result V E → Type 0
Says outcome value number at result =
    MatchResult result (λ v. outcome ≡ fine (value v)) (λ e. outcome ≡ refused (number e) (at e))

-- too few, too many or odd words are handed over; the record is 0
abbrev pub bad_lengths : ℕ
bad_lengths = 1

-- a link leads past the tree or to a record reached before; the record is the link
abbrev pub bad_link : ℕ
bad_link = 2

-- a record is nested too deep
abbrev pub too_deep : ℕ
too_deep = 3

-- a record is against the table of kinds, or its chain of children ends too early
abbrev pub bad_record : ℕ
bad_record = 4

-- a table needs a row and none is free
abbrev pub declared_full : ℕ
declared_full = 5

abbrev pub names_full : ℕ
names_full = 6

abbrev pub edges_full : ℕ
edges_full = 7
