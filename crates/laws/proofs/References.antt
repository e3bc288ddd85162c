-- The references part of the law about runs. A reference that is left at the end was counted in the tree that the pass found, since
-- references never grow; its name being free, it has holders, all of the name's closed ring, and it stands inside the first of them.
--
--   later_refers                       references through removals one after another
--   ring_inside, made_references       one pass, and the tree left by it and by removals after it
--   references_law                     the theorem
use Rattle.std.proofs.Common.{◌≡◌, true, false, ◌⊎◌, List, [], ◌∷◌, sym, refl, subst, inl, ⊎_elim}
use Rattle.std.proofs.lemmas.Bool.{both_ways}
use Rattle.rules.specs.Tree.{Chain, Name}
use Rattle.rules.specs.Grammar.{root}
use Rattle.rules.specs.Held.{Formed}
use Rattle.rules.specs.Counting.{Event, outermost, events_of}
use Rattle.rules.specs.Tables.{Counts}
use Rattle.rules.specs.Removal.{Config, at_root, taken, gave}
use Rattle.rules.specs.Calls.{Pass, pass_by, final}
use Rattle.laws.specs.Law.{In, begun_on, outcome_tree, Reference, InsideRing}
use Rattle.laws.proofs.Parts.{ReferencesLaw}
use Rattle.laws.proofs.KeepsFormed.{keeps_formed}
use Rattle.laws.proofs.Runs.{Later, begun_ready, Made, calls_follow}
use Rattle.laws.proofs.Runs.Later.{here, onward}
use Rattle.laws.proofs.Refers.{Refers}
use Rattle.laws.proofs.RefersKept.{treat_refers}
use Rattle.laws.proofs.RefersCounted.{count_refers, refers_count}
use Rattle.laws.proofs.RefersInside.{holder_inside}
use Rattle.laws.proofs.Freed.{HeldInRing, unused_within, unread_within, taken_unused, gave_unread}

later_refers : (e : Event) {c d : Chain} → Later c d → Formed root c → Refers outermost d e → Refers outermost c e
later_refers e here s x = x
later_refers e (onward by c l) s x = treat_refers e by at_root root c s outermost (later_refers e l (keeps_formed by c s) x)

-- a reference with holders of a closed ring stands inside the first
ring_inside : (p : Pass) (left : Chain) (e : Event) → Reference e → In e (events_of left) → (hs : List Name) → e.holders ≡ hs → HeldInRing p.filled.counts e → InsideRing p left e
ring_inside p left e r x [] q w = absurd (both_ways true (rw q at w.held) refl)
ring_inside p left e r x (m ∷ hs) q w =
    let first : In m e.holders = rw q (inl refl) in
    record { holder = m; inside = holder_inside e left r x m first; ring = w.ring; shares = w.shares m first }

made_references : (k : Config) (p : Pass) (left : Chain) → Made k p left → (e : Event) → In e (events_of left) → Reference e
    → In e.name (taken (pass_by k p.filled) at_root p.found) ⊎ (In e.name (gave (pass_by k p.filled) at_root p.found) × (e.writes ≡ false))
    → InsideRing p left e
made_references k p left m e x r y =
    let by = pass_by k p.filled in
    let es = events_of p.found in
    let z = refers_count e p.found outermost (later_refers e (onward by p.found m.later) m.formed (count_refers e r left outermost x)) in
    ring_inside p left e r x e.holders refl (subst (λ (c : Counts). HeldInRing c e) (sym m.full) (⊎_elim
    (λ t. unused_within es e r z (rw m.full at (taken_unused by e.name p.found at_root t)))
    (λ t. unread_within es e r z k t.1 (rw m.full at (gave_unread by e.name p.found at_root t.0))) y))

pub references_law : ReferencesLaw
references_law k cs words p x =
    let s = begun_on words in
    made_references k p (outcome_tree (final k cs s).tree) ((calls_follow k cs s (begun_ready words)).after p x)
