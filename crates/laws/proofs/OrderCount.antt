-- What is counted in trees whose items stand in another order: the items of a root are counted one after another, each in the same
-- surroundings, so their events are exchanged, the same names are declared, and equally many records are reached.
--
--   root_of, Turned                            roots over the same items in another order
--   shuffled_same                              what adds up record by record
--   counts_turned                              the tables without bound
--   names_declared, names_turned               the names declared
--   reached_turned                             the records reached
use Rattle.std.specs.Prelude.{if◌then◌else◌}
use Rattle.std.proofs.Common.{◌≡◌, ℕ, ◌+◌, Bool, true, false, ◌||◌, List, [], ◌++◌, sym, refl, ap, ◌∙◌, ap₂, subst₂, append_assoc, append-nil, arith}
use Rattle.std.specs.List.{fold}
use Rattle.std.proofs.lemmas.List.{map-append}
use Rattle.std.proofs.lemmas.List.Folds.{list_any-append}
use Rattle.std.proofs.lemmas.List.Sums.{fold-append}
use Rattle.rules.specs.Tree.{Head, Chain, Name, name_of, reached, unnumbered}
use Rattle.rules.specs.Tree.Chain.{end, link}
use Rattle.rules.specs.Kinds.{module_root, script_root}
use Rattle.rules.specs.Names.{same, among, names_of, keep, under_nothing, under, declares, declaring, declared}
use Rattle.rules.specs.Counting.{Event, Found, outermost, events_of}
use Rattle.rules.specs.Tables.{no_rows}
use Rattle.laws.specs.Law.{Shuffled}
use Rattle.laws.specs.Law.Shuffled.{none, past, swap, again}
use Rattle.laws.proofs.Basics.{or_swap, Commutes, fold_swap}
use Rattle.laws.proofs.TablesFilled.{filled}
use Rattle.laws.proofs.TablesPass.{counts}
use Rattle.laws.proofs.AlikeTables.{Alike, Exchanged, alike}
use Rattle.laws.proofs.UnnumberedCount.{filled_unnumbered, names_unnumbered, declaring_unnumbered, count_unnumbered}

-- a root's record: a Module's or a Script's
abbrev pub root_of : (module_tree : Bool) → Head → Head
root_of m h = record { number = h.number; kind = if m then module_root else script_root; flags = h.flags; symbol = h.symbol; mark = h.mark }

-- roots of one kind over the same items in another order, record numbers apart
pub data Turned : Chain → Chain → Type 0 where
  roots : (m : Bool) (h g : Head) {cs ds : Chain} → Shuffled (unnumbered cs) (unnumbered ds) → Turned (link (root_of m h) cs end) (link (root_of m g) ds end)

-- what adds up record by record, whichever comes first
pub shuffled_same : {A R : Type 0} (see : Chain → R) (one : Head → Chain → A) (on : R → A → R) → Commutes on
    → ((h : Head) (cs rest : Chain) → see (link h cs rest) ≡ on (see rest) (one h cs)) → {c d : Chain} → Shuffled c d → see c ≡ see d
shuffled_same see one on k split none = refl
shuffled_same {A} {R} see one on k split (past {h = h} {children = cs} {a = a} {b = b} s) =
    split h cs a ∙ (ap (λ (r : R). on r (one h cs)) (shuffled_same see one on k split s) ∙ sym (split h cs b))
shuffled_same {A} {R} see one on k split (swap {h = h} {g = g} {cs = cs} {ds = ds} {rest = rest}) =
    split h cs (link g ds rest) ∙ (ap (λ (r : R). on r (one h cs)) (split g ds rest) ∙ (k (one h cs) (one g ds) (see rest)
    ∙ sym (split g ds (link h cs rest) ∙ ap (λ (r : R). on r (one g ds)) (split h cs rest))))
shuffled_same see one on k split (again s t) = shuffled_same see one on k split s ∙ shuffled_same see one on k split t

-- EVENTS

events_split : (h : Head) (cs rest : Chain) → events_of (link h cs rest) ≡ events_of (link h cs end) ++ events_of rest
events_split h cs rest = simp append_assoc

exchanged : {c d : Chain} → Shuffled c d → Exchanged (events_of c) (events_of d)
exchanged s R f k r =
    let two : (h : Head) (cs rest : Chain) (r : R) → fold f r (events_of (link h cs rest)) ≡ fold f (fold f r (events_of (link h cs end))) (events_of rest)
    = λ h cs rest r. ap (fold f r) (events_split h cs rest) ∙ fold-append f r (events_of (link h cs end)) (events_of rest) in
    ap (λ (g : R → R). g r) (shuffled_same (λ (c : Chain) (r : R). fold f r (events_of c)) (λ (h : Head) (cs : Chain). events_of (link h cs end))
    (λ (g : R → R) (es : List Event) (r : R). g (fold f r es)) (λ xs ys g i r. g (fold_swap f k ys xs r i)) (λ h cs rest i r. two h cs rest r i) s)

root_events : (m : Bool) (h : Head) (cs : Chain) → events_of (link (root_of m h) cs end) ≡ events_of cs ++ []
root_events true h cs = refl
root_events false h cs = refl

counts_root : (m : Bool) (h : Head) (cs : Chain) → counts (link (root_of m h) cs end) ≡ counts (unnumbered cs)
counts_root m h cs =
    ap (λ (es : List Event). filled es no_rows) (root_events m h cs ∙ append-nil (events_of cs))
    ∙ (sym (filled_unnumbered (events_of cs) no_rows) ∙ ap (λ (f : Found). filled f.events no_rows) (count_unnumbered outermost cs))

pub counts_turned : {c d : Chain} → Turned c d → Alike (counts c) (counts d)
counts_turned (roots m h g {cs} {ds} s) = subst₂ Alike (sym (counts_root m h cs)) (sym (counts_root m g ds)) (alike (events_of (unnumbered cs)) (events_of (unnumbered ds)) (exchanged s) no_rows)

-- DECLARED NAMES

-- the names declared in a chain
abbrev pub names_declared : Chain → List Name
names_declared c = names_of (declared c)

keep_split : (b : Bool) (h : Head) (xs ys : List Head) → keep b h (xs ++ ys) ≡ keep b h (xs ++ []) ++ ys
keep_split true h xs ys = simp append_assoc
keep_split false h xs ys = simp append_assoc

names_link : (n : Name) (h : Head) (cs rest : Chain) → among n (names_declared (link h cs rest)) ≡ (among n (names_declared (link h cs end)) || among n (names_declared rest))
names_link n h cs rest =
    ap (λ (hs : List Head). among n (names_of hs)) (keep_split (declares under_nothing h) h (declaring (under under_nothing h) cs) (declared rest))
    ∙ (ap (among n) (map-append name_of (declared (link h cs end)) (declared rest)) ∙ list_any-append (same n) (names_declared (link h cs end)) (names_declared rest))

names_shuffled : (n : Name) {c d : Chain} → Shuffled c d → among n (names_declared c) ≡ among n (names_declared d)
names_shuffled n =
    shuffled_same (λ (c : Chain). among n (names_declared c)) (λ (h : Head) (cs : Chain). among n (names_declared (link h cs end)))
    (λ (r b : Bool). b || r) (λ x y r. or_swap x y r) (names_link n)

declared_root : (m : Bool) (h : Head) (cs : Chain) → declared (link (root_of m h) cs end) ≡ declared cs ++ []
declared_root true h cs = refl
declared_root false h cs = refl

names_root : (n : Name) (m : Bool) (h : Head) (cs : Chain) → among n (names_declared (link (root_of m h) cs end)) ≡ among n (names_declared (unnumbered cs))
names_root n m h cs =
    ap (λ (hs : List Head). among n (names_of hs)) (declared_root m h cs ∙ append-nil (declared cs))
    ∙ ap (among n) (sym (ap names_of (declaring_unnumbered under_nothing cs) ∙ names_unnumbered (declared cs)))

pub names_turned : (n : Name) {c d : Chain} → Turned c d → among n (names_declared c) ≡ among n (names_declared d)
names_turned n (roots m h g {cs} {ds} s) = names_root n m h cs ∙ (names_shuffled n s ∙ sym (names_root n m g ds))

-- RECORDS REACHED

reached_unnumbered : (c : Chain) → reached (unnumbered c) ≡ reached c
reached_unnumbered end = refl
reached_unnumbered (link h cs rest) = ap₂ (λ (x y : ℕ). 1 + x + y) (reached_unnumbered cs) (reached_unnumbered rest)

reached_shuffled : {c d : Chain} → Shuffled c d → reached c ≡ reached d
reached_shuffled = shuffled_same reached (λ (h : Head) (cs : Chain). reached cs) (λ (r n : ℕ). 1 + n + r) (λ x y r. omega arith) (λ h cs rest. refl)

pub reached_turned : {c d : Chain} → Turned c d → reached c ≡ reached d
reached_turned (roots m h g {cs} {ds} s) = ap (λ (x : ℕ). 1 + x + 0) (sym (reached_unnumbered cs) ∙ (reached_shuffled s ∙ reached_unnumbered ds))
