-- Reading by `tree_of`. A chain that the words hold, with each record once, has no more records than they have room for,
-- and no way through it is longer than its records are many: so the fuel of `tree_of` reads all of it. Where a chain was
-- read whole, more fuel reads the same, and so the chain at a record is made of the chains at its two links.
--
--   read_back, tree_is_read                        what the words hold is what `tree_of` reads
--   tree_end, whole_end                            the link 0
--   opens, stands_opens                            the link to a record
--   level_depth, tree_depth                        how deep a checked tree is
use Rattle.std.proofs.Common.{◌≡◌, ℕ, zero, suc, ◌+◌, ◌≤◌, max, true, List, sym, refl, ap, ◌∙◌, ap₂, ⊎_elim, arith}
use Rattle.std.proofs.lemmas.Bool.{cases_eq, eq-eqb, ne_eqb}
use Rattle.rules.specs.Tree.{Chain, reached}
use Rattle.rules.specs.Tree.Chain.{end, link}
use Rattle.rules.specs.Words.{records, head_at, stands, first_child, next, Holds, chain_of, tree_of, Whole}
use Rattle.rules.specs.Check.{most_nesting}
use Rattle.rules.specs.Held.{Level, Tree}
use Rattle.rules.specs.Opening.{depth, siblings, Opens}
use Rattle.rules.specs.Facts.{ReadBack, TreeIsRead}
use Rattle.rules.proofs.Sizes.{stands_positive, size_most}
use Rattle.rules.proofs.Sounds.{check_sound}

-- one link read
chain_link : (words : List ℕ) (left n : ℕ) → 1 ≤ n →
    chain_of words (suc left) n ≡ link (head_at words n) (chain_of words left (first_child words n)) (chain_of words left (next words n))
unfolding chain_of
chain_link words left n l = let e = ne_eqb n 0 (λ q. omega arith) in rw e

chain_end : (words : List ℕ) (left n : ℕ) → n ≡ 0 → chain_of words left n ≡ end
unfolding chain_of
chain_end words zero n z = refl
chain_end words (suc left) n z = let e = eq-eqb n 0 z in rw e

-- fuel for each record reads the chain
chain_read : (c : Chain) (words : List ℕ) (left n : ℕ) → Holds words n c → reached c ≤ left → chain_of words left n ≡ c
chain_read end words left n holds most = chain_end words left n holds
chain_read (link h children rest) words zero n holds most = absurd (omega arith)
chain_read (link h children rest) words (suc left) n holds most =
    let a = chain_link words left n (stands_positive words n holds.0) in
    let b = chain_read children words left (first_child words n) holds.2 (omega arith) in
    let c = chain_read rest words left (next words n) holds.3 (omega arith) in
    let h = holds.1 in
    cc

pub read_back : ReadBack
unfolding tree_of Whole
read_back words n c holds apart =
    let e : tree_of words n ≡ c = chain_read c words (records words) n holds (size_most words n c holds apart) in
    (e, rw e holds)

pub tree_is_read : TreeIsRead
tree_is_read words c e = let t = check_sound words c e in read_back words 1 c t.holds t.apart

pub tree_end : (words : List ℕ) (n : ℕ) → n ≡ 0 → tree_of words n ≡ end
unfolding tree_of
tree_end words n z = chain_end words (records words) n z

pub whole_end : (words : List ℕ) (n : ℕ) → n ≡ 0 → Whole words n
unfolding Whole
whole_end words n z = rw (tree_end words n z) z

-- the two links of a chain that was read
linked : (words : List ℕ) (left n : ℕ) → 1 ≤ n → Holds words n (chain_of words (suc left) n) →
    (stands words n ≡ true) × Holds words (first_child words n) (chain_of words left (first_child words n))
    × Holds words (next words n) (chain_of words left (next words n))
linked words left n l holds =
    let h = rw (chain_link words left n l) at holds in (h.0, h.2, h.3)

-- more fuel reads the same where the words hold what was read
chain_more : (words : List ℕ) (left n : ℕ) → Holds words n (chain_of words left n) → chain_of words (suc left) n ≡ chain_of words left n
unfolding chain_of
chain_more words zero n holds = chain_end words 1 n holds
chain_more words (suc left) n holds =
    ⊎_elim
    (λ (z : n ≡ 0). chain_end words (suc (suc left)) n z ∙ sym (chain_end words (suc left) n z))
    (λ (z : n ≡ 0 → ⊥).
    let l : 1 ≤ n = omega arith in
    let h = linked words left n l holds in
    cc (chain_link words (suc left) n l, chain_link words left n l, chain_more words left (first_child words n) h.1, chain_more words left (next words n) h.2))
    (cases_eq n 0)

-- the chain at a record, with this fuel
opens_with : (words : List ℕ) (left n : ℕ) → records words ≡ left → 1 ≤ n → Holds words n (chain_of words left n) → Opens words n
unfolding chain_of tree_of Whole
opens_with words zero n e l holds = absurd (omega arith)
opens_with words (suc left) n e l holds =
    let h = linked words left n l holds in
    let same : (m : ℕ) → Holds words m (chain_of words left m) → tree_of words m ≡ chain_of words left m
    = λ m held. ap (λ (fuel : ℕ). chain_of words fuel m) e ∙ chain_more words left m held in
    let a : tree_of words (first_child words n) ≡ chain_of words left (first_child words n) = same (first_child words n) h.1 in
    let b : tree_of words (next words n) ≡ chain_of words left (next words n) = same (next words n) h.2 in
    let is : tree_of words n ≡ link (head_at words n) (tree_of words (first_child words n)) (tree_of words (next words n))
    = ap (λ (fuel : ℕ). chain_of words fuel n) e ∙ chain_link words left n l
    ∙ ap₂ (λ (children rest : Chain). link (head_at words n) children rest) (sym a) (sym b) in
    let down : depth (tree_of words n) ≡ max (1 + depth (tree_of words (first_child words n))) (depth (tree_of words (next words n))) = ap depth is in
    let along : siblings (tree_of words n) ≡ 1 + siblings (tree_of words (next words n)) = ap siblings is in
    record {
      standing = h.0;
      is = is;
      children = rw a h.1;
      rest = rw b h.2;
      deeper = omega arith;
      level = omega arith;
      shorter = omega arith;
    }

pub opens : (words : List ℕ) (n : ℕ) → 1 ≤ n → Whole words n → Opens words n
unfolding tree_of Whole
opens words n l whole = opens_with words (records words) n refl l whole

pub stands_opens : (words : List ℕ) (n : ℕ) → stands words n ≡ true → Whole words n → Opens words n
stands_opens words n s whole = opens words n (stands_positive words n s) whole

-- a chain at a nesting that is allowed nests no deeper than what is left
pub level_depth : (c : Chain) (nesting : ℕ) → nesting ≤ suc most_nesting → Level nesting c → nesting + depth c ≤ suc most_nesting
level_depth end nesting l level = omega arith
level_depth (link h children rest) nesting l level =
    let here = level.0 in
    omega (arith, level_depth children (suc nesting) (omega arith) level.1, level_depth rest nesting l level.2)

pub tree_depth : (words : List ℕ) (c : Chain) → Tree words c → depth c ≤ most_nesting
tree_depth words c t = omega (arith, level_depth c 1 (omega arith) t.level)
