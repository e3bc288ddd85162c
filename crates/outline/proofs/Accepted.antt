-- What is known of words that the check accepts: reading from the root comes to an end, not too deep, and reaches no more
-- records than there are.
use Rattle.std.proofs.Common.{◌≡◌, ℕ, ◌≤◌, true, List, refl}
use borrow.Author.Tests.{clash}
use Rattle.rules.specs.Tree.{Chain, reached}
use Rattle.rules.specs.Refusals.{Outcome}
use Rattle.rules.specs.Refusals.Outcome.{fine, refused}
use Rattle.rules.specs.Words.{records, tree_of, Whole}
use Rattle.rules.specs.Check.{check, most_nesting}
use Rattle.rules.specs.Opening.{depth}
use Rattle.rules.proofs.Sounds.{check_sound, check_most}
use Rattle.rules.proofs.Reading.{tree_is_read, tree_depth}
use Rattle.outline.specs.Accepts.{is_fine, accepts}

-- the chain that the check gives
given : (o : Outcome Chain) → is_fine o ≡ true → (c : Chain) × (o ≡ fine c)
given (fine c) is = (c, refl)
given (refused number at) is = absurd (clash is)

pub accepted_whole : (words : List ℕ) → accepts words ≡ true → Whole words 1
accepted_whole words is = let c = given (check words) is in (tree_is_read words c.0 c.1).1

pub accepted_deep : (words : List ℕ) → accepts words ≡ true → depth (tree_of words 1) ≤ most_nesting
accepted_deep words is =
    let c = given (check words) is in
    rw (tree_is_read words c.0 c.1).0 (tree_depth words c.0 (check_sound words c.0 c.1))

pub accepted_most : (words : List ℕ) → accepts words ≡ true → reached (tree_of words 1) ≤ records words
accepted_most words is =
    let c = given (check words) is in
    rw (tree_is_read words c.0 c.1).0 (check_most words c.0 c.1)
