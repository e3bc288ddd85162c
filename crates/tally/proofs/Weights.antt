-- How much the events of a tree can add to a count. A record adds the names that it exports, its own references and the marks of its scope,
-- of which the first and the last are no more than the records below it; and each reference has fewer holders than there are levels above it.
-- So with at most 128 levels each record of a chain pays for those above it, and 16,384 records stay far below 2^32.
--
--   Shorter, shorter_holders        paths shorter than a number
--   weight-++, weight_marks         the weight of one list after another, and of marks
--   count_weight, counts_fit        the weight of a chain, and of a tree
use Rattle.std.specs.Prelude.{if◌then◌else◌}
use Rattle.std.proofs.Common.{◌≡◌, ℕ, zero, suc, ◌+◌, ◌*◌, ◌<◌, ◌≤◌, Bool, true, false, ◌&&◌, ◌||◌, leb, List, [], ◌∷◌, ◌++◌, length, refl, ap, add-mul, mul-add, arith}
use Rattle.std.proofs.lemmas.List.{length-append}
use Rattle.std.proofs.lemmas.Bool.{cond_both, and_parts, leb-true}
use Rattle.rules.specs.Tree.{Head, Chain, Name, ◌is◌, name_of, reached}
use Rattle.rules.specs.Tree.Chain.{end, link}
use Rattle.rules.specs.Kinds.{export_declaration, fn_declaration, class_declaration, identifier, export_name, property_name, name_pattern, call_expression, var_declaration, declarator, function, within}
use Rattle.rules.specs.Names.{among, names_of, distinct, binds, nests, bound, under, under_nothing, declared_below, exported}
use Rattle.rules.specs.Counting.{Event, Found, nothing, Role, Around, outermost, holders, put, reference, reading, writing, readings, marks, named_here, own, opens, leave, inside, count}
use Rattle.rules.specs.Counting.Role.{declared_here, written, read_and_written}
use Rattle.rules.specs.Check.{most_tree_words}
use Rattle.rules.specs.Held.{Level}
use Rattle.rules.proofs.Declared.{keep_length, few_declared}
use Rattle.rules.proofs.Sizes.{size_most}
use Rattle.tally.specs.Tallies.{weight, CountsFit}

-- LISTS

if_length : (b : Bool) (hs : List Head) → length (if b then hs else []) ≤ length hs
if_length true hs = omega arith
if_length false hs = omega arith

bound_length : (c : Chain) → length (bound c) ≤ reached c
bound_length end = omega arith
bound_length (link h children rest) =
    let inner = if nests h then bound children else [] in
    omega (arith, keep_length (binds h) h (inner ++ bound rest), length-append inner (bound rest), if_length (nests h) (bound children), bound_length children, bound_length rest)

exported_length : (c : Chain) → length (exported c) ≤ reached c
exported_length end = omega arith
exported_length (link h children rest) =
    let inside = h is var_declaration || h is declarator || nests h in
    let inner = if inside then exported children else [] in
    omega (
      arith,
      keep_length (h is fn_declaration || h is class_declaration || binds h) h (inner ++ exported rest),
      length-append inner (exported rest),
      if_length inside (exported children),
      exported_length children,
      exported_length rest,
    )

names_length : (hs : List Head) → length (names_of hs) ≡ length hs
names_length [] = refl
names_length (h ∷ hs) = ap suc (names_length hs)

distinct_length : (seen names : List Name) → length (distinct seen names) ≤ length names
distinct_length seen [] = omega arith
distinct_length seen (n ∷ ns) =
    let p = distinct_length seen ns in
    let q = distinct_length (n ∷ seen) ns in
    cond_both (among n seen) (distinct seen ns) (n ∷ distinct (n ∷ seen) ns) (λ l. length l ≤ suc (length ns)) (λ _. omega arith) (λ _. omega arith)

-- HOLDERS

-- each path is shorter than n
abbrev pub Shorter : ℕ → List (List Name) → Type 0
Shorter n [] = Unit {0}
Shorter n (path ∷ paths) = (length path < n) × Shorter n paths

shorter_holders : (n : ℕ) (paths : List (List Name)) → 0 < n → Shorter n paths → length (holders paths) < n
shorter_holders n [] p s = omega arith
shorter_holders n ([] ∷ paths) p s = shorter_holders n paths p s.1
shorter_holders n ((x ∷ path) ∷ paths) p s = s.0

shorter_more : (n : ℕ) (paths : List (List Name)) → Shorter n paths → Shorter (suc n) paths
shorter_more n [] s = tt
shorter_more n (path ∷ paths) s = (let q = s.0 in omega arith, shorter_more n paths s.1)

shorter_put : (n : ℕ) (x : Name) (paths : List (List Name)) → Shorter n paths → Shorter (suc n) (put x paths)
shorter_put n x [] s = tt
shorter_put n x (path ∷ paths) s = (let q = s.0 in omega (arith, length-append path (x ∷ [])), shorter_more n paths s.1)

shorter_inside : (n : ℕ) (a : Around) (h : Head) → Shorter n a.ast_paths → Shorter (suc n) (inside a h).ast_paths
shorter_inside n a h s =
    cond_both (h is fn_declaration || h is class_declaration) (put (name_of h) a.ast_paths) (if opens h then [] ∷ a.ast_paths else a.ast_paths) (Shorter (suc n))
    (λ _. shorter_put n (name_of h) a.ast_paths s)
    (λ _. cond_both (opens h) ([] ∷ a.ast_paths) a.ast_paths (Shorter (suc n)) (λ _. (omega arith, shorter_more n a.ast_paths s)) (λ _. shorter_more n a.ast_paths s))

-- WEIGHTS

pub weight-++ : (xs ys : List Event) → weight (xs ++ ys) ≡ weight xs + weight ys
weight-++ [] ys = omega arith
weight-++ (x ∷ xs) ys = let q = weight-++ xs ys in omega arith

pub weight_marks : (at : ℕ) (ns : List Name) → weight (marks at ns) ≡ length ns
weight_marks at [] = refl
weight_marks at (n ∷ ns) = let q = weight_marks at ns in omega arith

-- a reference weighs one, and one more for each holder
reference_weight : (a : Around) (writes : Bool) (h : Head) → length (holders a.ast_paths) < 128 → weight (reference a writes h).events ≤ 128
reference_weight a writes h l =
    cond_both (among (name_of h) a.cur_fn || among (name_of h) a.cur_class) [] _ (λ es. weight es ≤ 128) (λ _. omega arith) (λ _. omega arith)

readings_weight : (a : Around) (hs : List Head) → length (holders a.ast_paths) < 128 → weight (readings a hs).events ≤ 128 * length hs
readings_weight a [] l = omega arith
readings_weight a (h ∷ hs) l =
    omega (arith, weight-++ (reading a h).events (readings a hs).events, reference_weight a false h l, readings_weight a hs l)

named_weight : (a : Around) (role : Role) (h : Head) → length (holders a.ast_paths) < 128 → weight (named_here a role h).events ≤ 256
named_weight a declared_here h l = omega arith
named_weight a written h l = omega (arith, reference_weight a true h l)
named_weight a read_and_written h l =
    omega (arith, weight-++ (reading a h).events (writing a h).events, reference_weight a false h l, reference_weight a true h l)

-- one of several
if_weight : (b : Bool) (x y : Found) (n : ℕ) → weight x.events ≤ n → weight y.events ≤ n → weight (if b then x else y).events ≤ n
if_weight true x y n p q = p
if_weight false x y n p q = q

own_weight : (a : Around) (h : Head) (children : Chain) → length (holders a.ast_paths) < 128 → weight (own a h children).events ≤ 256
own_weight a h children l =
    let r = reference_weight a false h l in
    let w = reference_weight a true h l in
    if_weight (h is identifier || h is export_name) _ _ 256 (omega arith)
    (if_weight (h is property_name) _ _ 256 (omega arith)
    (if_weight (h is name_pattern) _ _ 256 (named_weight a a.role h l)
    (if_weight (h is call_expression) _ _ 256 (omega arith) (omega arith))))

if_events : (b : Bool) (xs : List Event) → weight (if b then xs else []) ≤ weight xs
if_events true xs = omega arith
if_events false xs = omega arith

leave_weight : (h : Head) (children : Chain) (found : Found) → weight (leave h children found).events ≤ weight found.events + 2 * reached children
leave_weight h children found =
    let names = distinct [] (names_of (declared_below h children)) in
    let evals = if found.found_direct_eval then marks h.number names else [] in
    let uses = if found.found_arguments && h is function then marks h.number (names_of (bound children)) else [] in
    omega (
      arith,
      weight-++ (found.events ++ evals) uses,
      weight-++ found.events evals,
      if_events found.found_direct_eval (marks h.number names),
      weight_marks h.number names,
      distinct_length [] (names_of (declared_below h children)),
      names_length (declared_below h children),
      few_declared (under under_nothing h) children,
      if_events (found.found_arguments && h is function) (marks h.number (names_of (bound children))),
      weight_marks h.number (names_of (bound children)),
      names_length (bound children),
      bound_length children,
    )

-- what a record with s below it and r after it adds, where each record below pays k and each here k + 130
pays : (k s r w : ℕ) → w ≤ 128 * s + (k * s + 2 * s) + 256 + (k + 130) * r → 256 ≤ k → w ≤ (k + 130) * (1 + s + r)
pays k s r w h l = omega (arith, mul-add (k + 130) (1 + s) r, mul-add (k + 130) 1 s, add-mul k 130 s)

-- the weight of a chain with so many levels left
count_weight : (levels nesting : ℕ) (a : Around) (c : Chain) → levels + nesting ≡ 129 → 0 < nesting → Level nesting c → Shorter nesting a.ast_paths
    → weight (count a c).events ≤ (levels * 130 + 256) * reached c
count_weight levels nesting a end e p l s = omega arith
count_weight zero nesting a (link h children rest) e p l s = let q = l.0 in absurd (omega arith)
count_weight (suc levels) nesting a (link h children rest) e p l s =
    let few = l.0 in
    let short = shorter_holders nesting a.ast_paths p s in
    let held : length (holders a.ast_paths) < 128 = omega arith in
    let before = if h is export_declaration then readings a (exported children) else nothing in
    let inner = count (inside a h) children in
    let left = if opens h then leave h children inner else inner in
    let its = own a h children in
    let behind = count a rest in
    let k = levels * 130 + 256 in
    let exports : weight before.events ≤ 128 * reached children =
    if_weight (h is export_declaration) (readings a (exported children)) nothing (128 * reached children)
    (let x = readings_weight a (exported children) held in let y = exported_length children in omega arith) (omega arith) in
    let below = count_weight levels (suc nesting) (inside a h) children (omega arith) (omega arith) l.1 (shorter_inside nesting a h s) in
    let scoped : weight left.events ≤ k * reached children + 2 * reached children =
    if_weight (opens h) (leave h children inner) inner (k * reached children + 2 * reached children)
    (let x = leave_weight h children inner in omega arith) (omega arith) in
    let more = count_weight (suc levels) nesting a rest e p l.2 s in
    let one = own_weight a h children held in
    let x = weight-++ before.events (left.events ++ (its.events ++ behind.events)) in
    let y = weight-++ left.events (its.events ++ behind.events) in
    let z = weight-++ its.events behind.events in
    let same : suc levels * 130 + 256 ≡ k + 130 = omega arith in
    let more' : weight behind.events ≤ (k + 130) * reached rest = rw same at more in
    let paid = pays k (reached children) (reached rest) (weight before.events + (weight left.events + (weight its.events + weight behind.events))) (omega arith) (omega arith) in
    rw same (omega arith)

pub counts_fit : CountsFit
counts_fit words tree t =
    let fits = (and_parts (within 1 most_tree_words (length words)) _ t.fits).0 in
    let most = leb-true (length words) most_tree_words (and_parts (leb 1 (length words)) (leb (length words) most_tree_words) fits).1 in
    let size = size_most words 1 tree t.holds t.apart in
    let w = count_weight 128 1 outermost tree (omega arith) (omega arith) t.level (omega arith, tt) in
    omega arith
