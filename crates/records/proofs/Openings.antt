-- The record that a link leads to. A link that does not stand is 0 where the chain from it ends; one that stands opens
-- into its record and the chains of that record's links, which the record read there names.
use Rattle.std.proofs.Common.{◌≡◌, ◌≤◌, ◌/◌, ℕ, zero, suc, length, false, List, Some, None, Option, ⊎_elim, arith, MatchOption}
use Rattle.std.proofs.lemmas.Bool.{cases_eq, both_ways}
use Rattle.rules.specs.Tree.Chain.{end}
use Rattle.rules.specs.Opening.{depth}
use Rattle.rules.specs.Words.{first_child, next, records, stands, chain_of, tree_of, Whole}
use Rattle.rules.proofs.Reading.{tree_end, opens}
use Rattle.rules.proofs.Sizes.{stands_positive}
use Rattle.records.specs.Reads.{Reads}
use Rattle.records.specs.Cursor.{Opened}
use Rattle.records.specs.declared.record.Record.{Record}

-- no record stands where a chain that ends has ended
pub none_ends : (words : List ℕ) (n : ℕ) → Whole words n → stands words n ≡ false → tree_of words n ≡ end
none_ends words n whole s =
    ⊎_elim
    (λ (z : n ≡ 0). tree_end words n z)
    (λ (z : n ≡ 0 → ⊥). absurd (both_ways (stands words n) s (opens words n (omega arith) whole).standing))
    (cases_eq n 0)

pub reads_opens : (words : List ℕ) (n : ℕ) (r : Record) → Whole words n → Reads words n r → Opened words n r
reads_opens words n r whole reads =
    let low = stands_positive words n reads.there in
    let o = opens words n low whole in
    let a = reads.first in
    let b = reads.next in
    let h = reads.head in
    let is = o.is in
    record {
      positive = low;
      reads = reads;
      is = cc;
      children = rw a o.children;
      rest = rw b o.rest;
      deeper = rw a o.deeper;
      level = rw b o.level;
      shorter = rw b o.shorter;
    }

pub at_opens : (words : List ℕ) (n : ℕ) (o : Option Record) → MatchOption o (stands words n ≡ false) (Reads words n) →
    Whole words n → MatchOption o (tree_of words n ≡ end) (Opened words n)
at_opens words n None s whole = none_ends words n whole s
at_opens words n (Some r) reads whole = reads_opens words n r whole reads

depth-chain_of : (words : List ℕ) (left n : ℕ) → depth (chain_of words left n) ≤ left
unfolding chain_of
depth-chain_of words zero n = omega arith
depth-chain_of words (suc left) n =
    Prim.grind (arith, depth-chain_of words left (first_child words n), depth-chain_of words left (next words n))

-- a chain nests no deeper than the words have room for records
pub depth-tree_of : (words : List ℕ) (n : ℕ) → depth (tree_of words n) ≤ length words / 6
unfolding tree_of
depth-tree_of words n = depth-chain_of words (records words) n
