-- Turns of the walk along a chain, over plain variables. The loop keeps this: what finishes the rest of the chain
-- finishes the whole, and the records before the rest are counted.
--
--   Going                        the loop's invariant
--   begin, go                    it holds at the first link, and after each record
--   go_untaken, go_below         a record, or what is under it, is refused: so is the whole
--   go_ended, go_short           the chain ends
--   one_less                     each record taken sets a mark
use Rattle.std.proofs.Common.{◌≡◌, ℕ, suc, ◌+◌, ◌-◌, ◌<◌, ◌≤◌, Bool, true, false, eqb, List, ◌∷◌, length, get_or, set, sym, ap, ◌∙◌, arith}
use Rattle.std.proofs.lemmas.Bool.{eq-eqb, ne_eqb}
use Rattle.rules.specs.Tree.{Chain, reached}
use Rattle.rules.specs.Tree.Chain.{end, link}
use Rattle.rules.specs.Kinds.{member}
use Rattle.rules.specs.Grammar.{Way, children_of, may_end}
use Rattle.rules.specs.Refusals.{bad_record}
use Rattle.rules.specs.Refusals.Outcome.{fine, refused}
use Rattle.rules.specs.Words.{records, head_at, first_child, next}
use Rattle.rules.specs.Check.{Read, take}
use Rattle.rules.specs.Walks.{full}
use Rattle.rules.proofs.Fuel.{opened, closed}
use Rattle.records.specs.Reads.{Reads, head_of}
use Rattle.records.specs.declared.record.Record.{Record}
use Rattle.checker.specs.Walking.{Marks, unmarked, Taken, Walked}
use Rattle.checker.proofs.Marking.{mark_of, marks_set, unmarked_set}

-- the walk from `first` on has come to the link `at`
pub record Going (words : List ℕ) (nesting parent first : ℕ) (start : List Way) (before : List ℕ)
    (at : ℕ) (ways : List Way) (seen : List Bool) (count : ℕ) : Type 0 where
  pub so_far : List ℕ
  pub marks : Marks seen so_far
  pub fails : (number place : ℕ) → full words at nesting ways parent so_far ≡ refused number place →
      full words first nesting start parent before ≡ refused number place
  pub done : (rest : Read) → full words at nesting ways parent so_far ≡ fine rest →
      (c : Chain) × (full words first nesting start parent before ≡ fine (record { chain = c; reached = rest.reached }))
      × (reached c ≡ count + reached rest.chain)

pub begin : (words : List ℕ) (nesting parent first : ℕ) (start : List Way) (before : List ℕ) (seen : List Bool) → Marks seen before →
    Going words nesting parent first start before first start seen 0
begin words nesting parent first start before seen m =
    record { so_far = before; marks = m; fails = λ number place e. e; done = λ rest e. (rest.chain, e, omega arith) }

-- the walk under record n as the code makes it
under : (words : List ℕ) (n nesting parent : ℕ) (kids : List Way) (r : Record) (before : List ℕ) → Reads words n r → kids ≡ children_of (head_of n r) →
    full words r.first (nesting + 1) kids n before ≡ full words (first_child words n) (suc nesting) (children_of (head_at words n)) n before
under words n nesting parent kids r before reads k =
    let a : nesting + 1 ≡ suc nesting = omega arith in
    let d : kids ≡ children_of (head_at words n) = k ∙ ap children_of reads.head in
    let f = reads.first in
    cc

pub go : {words : List ℕ} {nesting parent first : ℕ} {start : List Way} {before : List ℕ} {at : ℕ} {ways : List Way} {seen : List Bool} {count : ℕ}
    {r : Record} {onward kids : List Way} {after : List Bool} {k : ℕ} → 0 < at → records words ≤ length seen →
    Going words nesting parent first start before at ways seen count →
    Taken words at nesting ways seen r onward →
    kids ≡ children_of (head_of at r) →
    ((b : List ℕ) → Marks (set seen (at - 1) true) b → Walked words r.first (nesting + 1) kids at b after k) →
    Going words nesting parent first start before r.next onward after (count + (1 + k))
go {words} {nesting} {parent} {first} {start} {before} {at} {ways} {seen} {count} {r} {onward} {kids} {after} {k} l room g t kid walks =
    let z : eqb at 0 ≡ false = ne_eqb at 0 (λ q. omega arith) in
    let w = walks (at ∷ g.so_far) (marks_set seen g.so_far at (omega arith) (omega (arith, t.within)) g.marks) in
    let below : full words (first_child words at) (suc nesting) (children_of (head_at words at)) at (at ∷ g.so_far) ≡ fine w.read
    = sym (under words at nesting 0 kids r (at ∷ g.so_far) t.reads kid) ∙ w.is in
    let taking : take words at nesting ways g.so_far ≡ fine onward = t.is g.so_far (mark_of seen g.so_far at (omega arith) g.marks ∙ t.free) in
    let turn = opened words at nesting ways parent g.so_far z in
    let rest : full words r.next nesting onward parent w.read.reached ≡ full words (next words at) nesting onward parent w.read.reached
    = ap (λ (n : ℕ). full words n nesting onward parent w.read.reached) t.reads.next in
    record {
      so_far = w.read.reached;
      marks = w.marks;
      fails = λ number place e. g.fails number place (let q = sym rest ∙ e in turn ∙ rw (taking, below, q));
      done = λ read e.
          let d = g.done (record { chain = link (head_at words at) w.read.chain read.chain; reached = read.reached })
          (let q = sym rest ∙ e in turn ∙ rw (taking, below, q)) in
          (d.0, d.1, omega (arith, d.2, w.counts));
    }

pub go_untaken : {words : List ℕ} {nesting parent first : ℕ} {start : List Way} {before : List ℕ} {at : ℕ} {ways : List Way} {seen : List Bool} {count number place : ℕ} →
    0 < at → Going words nesting parent first start before at ways seen count →
    ((b : List ℕ) → member at b ≡ get_or seen (at - 1) false → take words at nesting ways b ≡ refused number place) →
    full words first nesting start parent before ≡ refused number place
go_untaken {words} {nesting} {parent} {first} {start} {before} {at} {ways} {seen} {count} {number} {place} l g t =
    let e = t g.so_far (mark_of seen g.so_far at (omega arith) g.marks) in
    g.fails number place (opened words at nesting ways parent g.so_far (ne_eqb at 0 (λ q. omega arith)) ∙ rw e)

pub go_below : {words : List ℕ} {nesting parent first : ℕ} {start : List Way} {before : List ℕ} {at : ℕ} {ways : List Way} {seen : List Bool} {count : ℕ}
    {r : Record} {onward kids : List Way} {number place : ℕ} → 0 < at → records words ≤ length seen →
    Going words nesting parent first start before at ways seen count →
    Taken words at nesting ways seen r onward →
    kids ≡ children_of (head_of at r) →
    ((b : List ℕ) → Marks (set seen (at - 1) true) b → full words r.first (nesting + 1) kids at b ≡ refused number place) →
    full words first nesting start parent before ≡ refused number place
go_below {words} {nesting} {parent} {first} {start} {before} {at} {ways} {seen} {count} {r} {onward} {kids} {number} {place} l room g t kid walks =
    let w = sym (under words at nesting 0 kids r (at ∷ g.so_far) t.reads kid)
    ∙ walks (at ∷ g.so_far) (marks_set seen g.so_far at (omega arith) (omega (arith, t.within)) g.marks) in
    let taking : take words at nesting ways g.so_far ≡ fine onward = t.is g.so_far (mark_of seen g.so_far at (omega arith) g.marks ∙ t.free) in
    g.fails number place (opened words at nesting ways parent g.so_far (ne_eqb at 0 (λ q. omega arith)) ∙ rw (taking, w))

pub go_ended : {words : List ℕ} {nesting parent first : ℕ} {start : List Way} {before : List ℕ} {at : ℕ} {ways : List Way} {seen : List Bool} {count : ℕ} →
    at ≡ 0 → may_end ways ≡ true → Going words nesting parent first start before at ways seen count →
    Walked words first nesting start parent before seen count
go_ended {words} {nesting} {parent} {first} {start} {before} {at} {ways} {seen} {count} z e g =
    let d = g.done (record { chain = end; reached = g.so_far }) (closed words at nesting ways parent g.so_far (eq-eqb at 0 z) ∙ rw e) in
    record { read = record { chain = d.0; reached = g.so_far }; is = d.1; marks = g.marks; counts = omega (arith, d.2) }

pub go_short : {words : List ℕ} {nesting parent first : ℕ} {start : List Way} {before : List ℕ} {at : ℕ} {ways : List Way} {seen : List Bool} {count : ℕ} →
    at ≡ 0 → may_end ways ≡ false → Going words nesting parent first start before at ways seen count →
    full words first nesting start parent before ≡ refused bad_record parent
go_short {words} {nesting} {parent} {first} {start} {before} {at} {ways} {seen} {count} z e g =
    g.fails bad_record parent (closed words at nesting ways parent g.so_far (eq-eqb at 0 z) ∙ rw e)

pub one_less : {words : List ℕ} {n nesting : ℕ} {ways : List Way} {seen : List Bool} {r : Record} {onward : List Way} → 0 < n → records words ≤ length seen →
    Taken words n nesting ways seen r onward → suc (unmarked (set seen (n - 1) true)) ≡ unmarked seen
one_less {n = n} {seen = seen} l room t = unmarked_set seen (n - 1) (omega (arith, t.within)) t.free
