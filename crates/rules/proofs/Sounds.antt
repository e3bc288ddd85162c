-- The check takes exactly the trees that the words hold. Sound, by induction over walks: what a walk reads is held,
-- level, formed, apart, and fresh to the records reached before. Complete, by induction over the chain: a walk from
-- the link of such a chain reads that chain.
--
--   Good, walk_good                                   what a walk reads
--   chain_walked                                      what the words hold is read
--   check_sound, check_complete, check_most           the theorems
use Rattle.std.specs.Prelude.{if◌then◌else◌}
use Rattle.std.proofs.Common.{◌≡◌, ℕ, suc, ◌≤◌, Bool, true, false, eqb, List, [], ◌∷◌, length, sym, refl, ap, ◌∙◌, subst, inl, inr, arith}
use Rattle.std.proofs.lemmas.Bool.{false_from_ne_true, both_ways, eq-eqb, ne_eqb, eqb-true, or_right, or_parts}
use Rattle.std.proofs.lemmas.Bool.Decides.{nat_tests}
use Rattle.rules.specs.Tree.{Head, Chain}
use Rattle.rules.specs.Tree.Chain.{end, link}
use Rattle.rules.specs.Kinds.{member}
use Rattle.rules.specs.Grammar.{Way, children_of, step, root}
use Rattle.rules.specs.Refusals.{Outcome, and_then, bad_lengths, bad_record}
use Rattle.rules.specs.Refusals.Outcome.{fine, refused}
use Rattle.rules.specs.Words.{records, head_at, stands, first_child, next, Holds}
use Rattle.rules.specs.Check.{Read, walk, tree_fits}
use Rattle.rules.specs.Held.{Numbers, Apart, Level, Formed}
use Rattle.rules.specs.Walks.{full}
use Rattle.rules.specs.Facts.{CheckSound, CheckComplete, CheckMost}
use Rattle.rules.proofs.Sizes.{first_reached, visited, visited_keeps, visited_has, Fresh, fresh_children, fresh_rest, stands_within, stands_positive, size_most}
use Rattle.rules.proofs.Fuel.{then_fine, Placed, placed_taken, AtEnd, AtRecord, Walks, walk_induction, opened, closed}

-- what a walk reads
pub record Good (words : List ℕ) (n nesting : ℕ) (ways : List Way) (before : List ℕ) (r : Read) : Type 0 where
  pub holds : Holds words n r.chain
  pub level : Level nesting r.chain
  pub formed : Formed ways r.chain
  pub apart : Apart r.chain
  pub fresh : Fresh r.chain before
  pub visits : r.reached ≡ visited r.chain before

good_end : (words : List ℕ) → AtEnd (Good words)
good_end words n nesting ways before z e =
    record { holds = z; level = tt; formed = e; apart = tt; fresh = λ x i. absurd i; visits = refl }

placed_stands : (words : List ℕ) (n nesting : ℕ) (ways : List Way) (before : List ℕ) → 1 ≤ n → Placed words n nesting ways before → stands words n ≡ true
placed_stands words n nesting ways before l p = grind (arith, nat_tests, p.within, p.fit)

good_record : (words : List ℕ) → AtRecord words (Good words)
good_record words n nesting ways before below rest l p g h =
    let self = first_reached n n before refl in
    let kept : (x : ℕ) → member x (n ∷ before) ≡ true → member x below.reached ≡ true
    = λ x m. rw g.visits (visited_keeps below.chain (n ∷ before) x m) in
    let has : (x : ℕ) → Numbers x below.chain → member x below.reached ≡ true
    = λ x i. rw g.visits (visited_has below.chain (n ∷ before) x i) in
    record {
      holds = (placed_stands words n nesting ways before l p, refl, g.holds, h.holds);
      level = (p.level, g.level, h.level);
      formed = (p.fit, p.placed, g.formed, h.formed);
      apart = (
        (λ i. both_ways (member n (n ∷ before)) (g.fresh n i) self),
        (λ i. both_ways (member n below.reached) (h.fresh n i) (kept n self)),
        (λ x i j. both_ways (member x below.reached) (h.fresh x j) (has x i)),
        g.apart,
        h.apart,
      );
      fresh = λ x s. elim s [
        | inl e ↦ rw e p.new
        | inr t ↦ elim t [
          | inl i ↦ (or_parts (eqb x n) (member x before) (g.fresh x i)).1
          | inr j ↦ false_from_ne_true (member x before)
              (λ e. both_ways (member x below.reached) (h.fresh x j) (kept x (or_right (eqb x n) (member x before) e)))
        ]
      ];
      visits = h.visits ∙ ap (visited rest.chain) g.visits;
    }

pub walk_good : (words : List ℕ) (left : ℕ) → Walks words (Good words) left
walk_good words = walk_induction words (Good words) (good_end words) (good_record words)

-- a check that was fine has passed its three tests
checks : (a b : Bool) (o : Outcome Read) (c : Chain) →
    (if a then (if b then and_then o (λ t. fine t.chain) else refused bad_record 1) else refused bad_lengths 0) ≡ fine c →
    (a ≡ true) × (b ≡ true) × ((r : Read) × (o ≡ fine r) × (r.chain ≡ c))
checks true true o c e = let p = then_fine o _ c e in (refl, refl, (p.0, p.1, cc p.2))
checks true false o c e = cc
checks false b o c e = cc

pub check_sound : CheckSound
check_sound words c e =
    let k = checks (tree_fits (length words)) (eqb (next words 1) 0) (walk words (records words) 1 1 root 0 []) c e in
    let g = walk_good words (records words) 1 1 root 0 [] k.2.0 k.2.1 in
    rw (← k.2.2)
    (record { fits = k.0; holds = g.holds; alone = eqb-true (next words 1) 0 k.1; apart = g.apart; level = g.level; formed = g.formed })

pub check_most : CheckMost
check_most words c e = let t = check_sound words c e in size_most words 1 c t.holds t.apart

-- a walk from the link n reads the chain
abbrev Walked : List ℕ → (n nesting : ℕ) → List Way → (parent : ℕ) → (before : List ℕ) → Chain → Type 0
Walked words n nesting ways parent before c = full words n nesting ways parent before ≡ fine (record { chain = c; reached = visited c before })

-- one turn, by what its record and its two links give
turned : (words : List ℕ) (n nesting : ℕ) (ways : List Way) (parent : ℕ) (before : List ℕ) (children rest : Chain) → 1 ≤ n → Placed words n nesting ways before →
    Walked words (first_child words n) (suc nesting) (children_of (head_at words n)) n (n ∷ before) children →
    Walked words (next words n) nesting (step (head_at words n).kind ways) parent (visited children (n ∷ before)) rest →
    Walked words n nesting ways parent before (link (head_at words n) children rest)
turned words n nesting ways parent before children rest l p a b =
    let t = placed_taken words n nesting ways before p in
    opened words n nesting ways parent before (ne_eqb n 0 (λ q. omega arith)) ∙ rw (t, a, b)

pub chain_walked : (c : Chain) (words : List ℕ) (n nesting : ℕ) (ways : List Way) (parent : ℕ) (before : List ℕ) →
    Holds words n c → Level nesting c → Apart c → Formed ways c → Fresh c before → Walked words n nesting ways parent before c
chain_walked end words n nesting ways parent before holds level apart formed fresh = closed words n nesting ways parent before (eq-eqb n 0 holds) ∙ rw formed
chain_walked (link h children rest) words n nesting ways parent before holds level apart formed fresh =
    let at : Head → Chain = λ g. link g children rest in
    subst (λ (g : Head). Apart (at g) → Formed ways (at g) → Fresh (at g) before → Walked words n nesting ways parent before (at g)) (sym holds.1)
    (λ a f new.
    let g = head_at words n in
    turned words n nesting ways parent before children rest (stands_positive words n holds.0)
    (record { within = stands_within words n holds.0; new = new n (inl refl); level = level.0; placed = f.1; fit = f.0 })
    (chain_walked children words (first_child words n) (suc nesting) (children_of g) n (n ∷ before)
    holds.2 level.1 a.3 f.2 (fresh_children g children rest before a new))
    (chain_walked rest words (next words n) nesting (step g.kind ways) parent (visited children (n ∷ before))
    holds.3 level.2 a.4 f.3 (fresh_rest g children rest before a new)))
    apart formed fresh

pub check_complete : CheckComplete
unfolding full
check_complete words c t =
    let w : walk words (records words) 1 1 root 0 [] ≡ fine (record { chain = c; reached = visited c [] })
    = chain_walked c words 1 1 root 0 [] t.holds t.level t.apart t.formed (λ x i. refl) in
    let z : eqb (next words 1) 0 ≡ true = eq-eqb (next words 1) 0 t.alone in
    let f = t.fits in
    rw (f, z, w)
