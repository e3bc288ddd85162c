-- From the walk of the root to the check: what was walked is what the check gives, and so what `tree_of` reads.
--
--   accepted, denied      the walk was fine; it was refused
use Rattle.std.proofs.Common.{◌≡◌, ℕ, Bool, true, eqb, List, [], length, sym, ap, ◌∙◌}
use Rattle.rules.specs.Tree.{Chain, reached}
use Rattle.rules.specs.Grammar.{root}
use Rattle.rules.specs.Refusals.Outcome.{fine, refused}
use Rattle.rules.specs.Words.{next, tree_of}
use Rattle.rules.specs.Check.{check, tree_fits}
use Rattle.rules.specs.Walks.{full}
use Rattle.rules.proofs.Sounds.{check_sound}
use Rattle.rules.proofs.Reading.{tree_is_read, tree_depth}
use Rattle.checker.specs.Walking.{Walked}
use Rattle.checker.specs.Accepting.{Accepted}

pub accepted : {words : List ℕ} {seen : List Bool} {count : ℕ} → tree_fits (length words) ≡ true → eqb (next words 1) 0 ≡ true →
    Walked words 1 1 root 0 [] seen count → Accepted words count
unfolding full
accepted {words} {seen} {count} fits alone w =
    let walked = w.is in
    let e : check words ≡ fine w.read.chain = rw (fits, alone, walked) in
    let read = tree_is_read words w.read.chain e in
    let is : check words ≡ fine (tree_of words 1) = e ∙ ap (λ (c : Chain). fine c) (sym read.0) in
    let tree = check_sound words (tree_of words 1) is in
    record { is = is; tree = tree; whole = read.1; counts = w.counts ∙ ap reached (sym read.0); deep = tree_depth words (tree_of words 1) tree }

pub denied : (words : List ℕ) {number place : ℕ} → tree_fits (length words) ≡ true → eqb (next words 1) 0 ≡ true →
    full words 1 1 root 0 [] ≡ refused number place → check words ≡ refused number place
unfolding full
denied words fits alone w = rw (fits, alone, w)
