-- The events of a formed tree speak of names that have a symbol. The table of kinds gives each record that bears a name a symbol that is not 0,
-- and every event's name, and each of its holders, is the name of such a record.
--
--   AllNamed                       each event's name and holders have a symbol
--   bound_signed, exported_signed  records that have a symbol
--   count_named, events_named      the events of a chain, and of a tree
use Rattle.std.specs.Prelude.{if◌then◌else◌}
use Rattle.std.proofs.Common.{◌≡◌, ℕ, ◌<◌, Bool, true, false, ◌&&◌, ◌||◌, List, [], ◌∷◌, ◌++◌, refl, ⊎_elim}
use Rattle.std.proofs.lemmas.Bool.{cond_both, or_cases}
use Rattle.rules.specs.Tree.{Head, Chain, Name, ◌is◌, name_of}
use Rattle.rules.specs.Tree.Chain.{end, link}
use Rattle.rules.specs.Kinds.{export_declaration, fn_declaration, class_declaration, identifier, export_name, property_name, name_pattern, call_expression, var_declaration, declarator, function}
use Rattle.rules.specs.Names.{among, names_of, distinct, binds, nests, bound, under, under_nothing, declared_below, exported}
use Rattle.rules.specs.Counting.{Event, Found, nothing, Role, Around, outermost, holders, put, refer, reference, reading, writing, readings, marks, named_here, own, opens, leave, inside, count, events_of}
use Rattle.rules.specs.Counting.Role.{declared_here, written, read_and_written}
use Rattle.rules.specs.Grammar.{Way, words_fit, children_of, step, root}
use Rattle.rules.specs.Held.{Formed, Tree}
use Rattle.rules.proofs.Declared.{kind_named, Signed, signed-++, signed_keep, binds_signed, declaring_signed}
use Rattle.tables.specs.Matching.{Named}

-- each event's name and holders have a symbol
abbrev pub AllNamed : List Event → Type 0
AllNamed [] = Unit {0}
AllNamed (e ∷ es) = (0 < e.name.symbol) × Named e.holders × AllNamed es

-- RECORDS

signed_if : (b : Bool) (hs : List Head) → Signed hs → Signed (if b then hs else [])
signed_if true hs s = s
signed_if false hs s = tt

bound_signed : (ways : List Way) (c : Chain) → Formed ways c → Signed (bound c)
bound_signed ways end f = tt
bound_signed ways (link h children rest) f =
    let inner = if nests h then bound children else [] in
    signed_keep (binds h) h (inner ++ bound rest) (binds_signed h f.0)
    (signed-++ inner (bound rest) (signed_if (nests h) (bound children) (bound_signed (children_of h) children f.2)) (bound_signed (step h.kind ways) rest f.3))

exports : (h : Head) → words_fit h ≡ true → (h is fn_declaration || h is class_declaration || binds h) ≡ true → 0 < h.symbol
exports h w b =
    ⊎_elim
    (λ b'. ⊎_elim (λ e. kind_named h fn_declaration e refl w) (λ e. kind_named h class_declaration e refl w) (or_cases (h is fn_declaration) (h is class_declaration) b'))
    (λ e. binds_signed h w e)
    (or_cases (h is fn_declaration || h is class_declaration) (binds h) b)

exported_signed : (ways : List Way) (c : Chain) → Formed ways c → Signed (exported c)
exported_signed ways end f = tt
exported_signed ways (link h children rest) f =
    let into = h is var_declaration || h is declarator || nests h in
    let inner = if into then exported children else [] in
    signed_keep (h is fn_declaration || h is class_declaration || binds h) h (inner ++ exported rest) (exports h f.0)
    (signed-++ inner (exported rest) (signed_if into (exported children) (exported_signed (children_of h) children f.2)) (exported_signed (step h.kind ways) rest f.3))

-- NAMES

names_named : (hs : List Head) → Signed hs → Named (names_of hs)
names_named [] s = tt
names_named (h ∷ hs) s = (s.0, names_named hs s.1)

distinct_named : (seen ns : List Name) → Named ns → Named (distinct seen ns)
distinct_named seen [] s = tt
distinct_named seen (n ∷ ns) s =
    cond_both (among n seen) (distinct seen ns) (n ∷ distinct (n ∷ seen) ns) Named (λ _. distinct_named seen ns s.1) (λ _. (s.0, distinct_named (n ∷ seen) ns s.1))

named_push : (ns : List Name) (n : Name) → Named ns → 0 < n.symbol → Named (ns ++ (n ∷ []))
named_push [] n s p = (p, tt)
named_push (m ∷ ns) n s p = (s.0, named_push ns n s.1 p)

-- the names of each path have symbols
abbrev PathsNamed : List (List Name) → Type 0
PathsNamed [] = Unit {0}
PathsNamed (path ∷ paths) = Named path × PathsNamed paths

holders_named : (paths : List (List Name)) → PathsNamed paths → Named (holders paths)
holders_named [] s = tt
holders_named ([] ∷ paths) s = holders_named paths s.1
holders_named ((n ∷ path) ∷ paths) s = s.0

put_named : (n : Name) (paths : List (List Name)) → 0 < n.symbol → PathsNamed paths → PathsNamed (put n paths)
put_named n [] p s = tt
put_named n (path ∷ paths) p s = (named_push path n s.0 p, s.1)

inside_named : (a : Around) (h : Head) → words_fit h ≡ true → PathsNamed a.ast_paths → PathsNamed (inside a h).ast_paths
inside_named a h w s =
    cond_both (h is fn_declaration || h is class_declaration) (put (name_of h) a.ast_paths) (if opens h then [] ∷ a.ast_paths else a.ast_paths) PathsNamed
    (λ b. put_named (name_of h) a.ast_paths
    (⊎_elim (λ e. kind_named h fn_declaration e refl w) (λ e. kind_named h class_declaration e refl w) (or_cases (h is fn_declaration) (h is class_declaration) b)) s)
    (λ _. cond_both (opens h) ([] ∷ a.ast_paths) a.ast_paths PathsNamed (λ _. (tt, s)) (λ _. s))

-- EVENTS

named-++ : (xs ys : List Event) → AllNamed xs → AllNamed ys → AllNamed (xs ++ ys)
named-++ [] ys p q = q
named-++ (x ∷ xs) ys p q = (p.0, p.1, named-++ xs ys p.2 q)

if_named : (b : Bool) (xs : List Event) → AllNamed xs → AllNamed (if b then xs else [])
if_named true xs s = s
if_named false xs s = tt

marks_named : (at : ℕ) (ns : List Name) → Named ns → AllNamed (marks at ns)
marks_named at [] s = tt
marks_named at (n ∷ ns) s = (s.0, tt, marks_named at ns s.1)

-- what is found has named events, under a test and its opposite
either_named : (b : Bool) (x y : Found) → (b ≡ true → AllNamed x.events) → (b ≡ false → AllNamed y.events) → AllNamed (if b then x else y).events
either_named true x y p q = p refl
either_named false x y p q = q refl

reference_named : (a : Around) (writes : Bool) (h : Head) → 0 < h.symbol → Named (holders a.ast_paths) → AllNamed (reference a writes h).events
reference_named a writes h p s =
    cond_both (among (name_of h) a.cur_fn || among (name_of h) a.cur_class) [] (refer (name_of h) writes (holders a.ast_paths) h.number ∷ []) AllNamed
    (λ _. tt) (λ _. (p, s, tt))

readings_named : (a : Around) (hs : List Head) → Signed hs → Named (holders a.ast_paths) → AllNamed (readings a hs).events
readings_named a [] s n = tt
readings_named a (h ∷ hs) s n =
    named-++ (reading a h).events (readings a hs).events (reference_named a false h s.0 n) (readings_named a hs s.1 n)

role_named : (a : Around) (role : Role) (h : Head) → 0 < h.symbol → Named (holders a.ast_paths) → AllNamed (named_here a role h).events
role_named a declared_here h p n = tt
role_named a written h p n = reference_named a true h p n
role_named a read_and_written h p n =
    named-++ (reading a h).events (writing a h).events (reference_named a false h p n) (reference_named a true h p n)

own_named : (a : Around) (h : Head) (children : Chain) → words_fit h ≡ true → Named (holders a.ast_paths) → AllNamed (own a h children).events
own_named a h children w n =
    either_named (h is identifier || h is export_name) _ _
    (λ b. reference_named a false h
    (⊎_elim (λ e. kind_named h identifier e refl w) (λ e. kind_named h export_name e refl w) (or_cases (h is identifier) (h is export_name) b)) n)
    (λ _. either_named (h is property_name) _ _ (λ e. reference_named a true h (kind_named h property_name e refl w) n)
    (λ _. either_named (h is name_pattern) _ _ (λ e. role_named a a.role h (kind_named h name_pattern e refl w) n)
    (λ _. either_named (h is call_expression) _ _ (λ _. tt) (λ _. tt))))

leave_named : (ways : List Way) (h : Head) (children : Chain) (found : Found) → Formed ways children → AllNamed found.events → AllNamed (leave h children found).events
leave_named ways h children found f s =
    let names = distinct [] (names_of (declared_below h children)) in
    let evals = if found.found_direct_eval then marks h.number names else [] in
    let uses = if found.found_arguments && h is function then marks h.number (names_of (bound children)) else [] in
    named-++ (found.events ++ evals) uses
    (named-++ found.events evals s
    (if_named found.found_direct_eval (marks h.number names)
    (marks_named h.number names (distinct_named [] (names_of (declared_below h children)) (names_named (declared_below h children) (declaring_signed ways (under under_nothing h) children f))))))
    (if_named (found.found_arguments && h is function) (marks h.number (names_of (bound children)))
    (marks_named h.number (names_of (bound children)) (names_named (bound children) (bound_signed ways children f))))

count_named : (ways : List Way) (a : Around) (c : Chain) → Formed ways c → PathsNamed a.ast_paths → AllNamed (count a c).events
count_named ways a end f s = tt
count_named ways a (link h children rest) f s =
    let n = holders_named a.ast_paths s in
    let before = if h is export_declaration then readings a (exported children) else nothing in
    let inner = count (inside a h) children in
    let left = if opens h then leave h children inner else inner in
    let its = own a h children in
    let behind = count a rest in
    let below : AllNamed inner.events = count_named (children_of h) (inside a h) children f.2 (inside_named a h f.0 s) in
    named-++ before.events (left.events ++ (its.events ++ behind.events))
    (either_named (h is export_declaration) (readings a (exported children)) nothing
    (λ _. readings_named a (exported children) (exported_signed (children_of h) children f.2) n) (λ _. tt))
    (named-++ left.events (its.events ++ behind.events)
    (either_named (opens h) (leave h children inner) inner (λ _. leave_named (children_of h) h children inner f.2 below) (λ _. below))
    (named-++ its.events behind.events (own_named a h children f.0 n) (count_named (step h.kind ways) a rest f.3 s)))

pub events_named : (words : List ℕ) (tree : Chain) → Tree words tree → AllNamed (events_of tree)
events_named words tree t = count_named root outermost tree t.formed (tt, tt)
