-- Counting reads no record number but to say where a full table stands: the events of a tree without record numbers are the tree's events
-- without the places, and such events fill the tables alike.
--
--   unnumbered_heads, unnumbered_events, unnumbered_found     lists of records, events and what is found, record numbers apart
--   filled_unnumbered                                         the tables
--   bound_unnumbered, declaring_unnumbered, exported_unnumbered      the lists of records that bear names
--   count_unnumbered                                          what is found in a chain
use Rattle.std.specs.Prelude.{if◌then◌else◌}
use Rattle.std.proofs.Common.{◌≡◌, ℕ, Bool, true, false, ◌&&◌, ◌||◌, List, [], ◌∷◌, ◌++◌, map, sym, refl, ap, ◌∙◌, ap₂, arith}
use Rattle.std.proofs.lemmas.List.{map-append}
use Rattle.std.proofs.lemmas.List.Folds.{fold-map}
use Rattle.std.proofs.lemmas.Simd.{map-map}
use Rattle.rules.specs.Tree.{Head, Chain, Name, ◌is◌, name_of, unnumbered_head, unnumbered}
use Rattle.rules.specs.Tree.Chain.{end, link}
use Rattle.rules.specs.Kinds.{export_declaration, fn_declaration, class_declaration, var_declaration, declarator, function, arrow}
use Rattle.rules.specs.Names.{names_of, distinct, binds, nests, keep, bound, Under, under_nothing, under, declares, declaring, declared_below, exported}
use Rattle.rules.specs.Counting.{Event, marked, Found, ◌followed_by◌, Role, Around, reference, reading, readings, marks, named_here, calls_eval, own, opens, leave, inside, count}
use Rattle.rules.specs.Counting.Role.{declared_here, written, read_and_written}
use Rattle.rules.specs.Tables.{Counts}
use Rattle.laws.proofs.TablesFilled.{entered, filled}

-- records, their numbers apart
abbrev pub unnumbered_heads : List Head → List Head
unnumbered_heads hs = map unnumbered_head hs

-- an event, its place apart
abbrev pub unplaced : Event → Event
unplaced e = record { name = e.name; writes = e.writes; holders = e.holders; entry = e.entry; at = 0 }

-- events, their places apart
abbrev pub unnumbered_events : List Event → List Event
unnumbered_events es = map unplaced es

-- what is found, the places of its events apart
abbrev pub unnumbered_found : Found → Found
unnumbered_found f = record { events = unnumbered_events f.events; found_arguments = f.found_arguments; found_direct_eval = f.found_direct_eval }

pub filled_unnumbered : (es : List Event) (c : Counts) → filled (unnumbered_events es) c ≡ filled es c
filled_unnumbered es c = fold-map (λ (d : Counts) (e : Event). entered e d) unplaced c es

-- LISTS OF RECORDS

pub names_unnumbered : (hs : List Head) → names_of (unnumbered_heads hs) ≡ names_of hs
names_unnumbered hs = map-map name_of unnumbered_head hs

-- a record, what is under it if that is wanted, and the rest
kept_unnumbered : (b n : Bool) (h : Head) (xs ys : List Head) {xs' ys' : List Head} → xs' ≡ unnumbered_heads xs → ys' ≡ unnumbered_heads ys
    → keep b (unnumbered_head h) ((if n then xs' else []) ++ ys') ≡ unnumbered_heads (keep b h ((if n then xs else []) ++ ys))
kept_unnumbered b n h xs ys p q = grind (arith, map-append unnumbered_head xs ys)

bound_unnumbered : (c : Chain) → bound (unnumbered c) ≡ unnumbered_heads (bound c)
bound_unnumbered end = refl
bound_unnumbered (link h children rest) = kept_unnumbered (binds h) (nests h) h (bound children) (bound rest) (bound_unnumbered children) (bound_unnumbered rest)

exported_unnumbered : (c : Chain) → exported (unnumbered c) ≡ unnumbered_heads (exported c)
exported_unnumbered end = refl
exported_unnumbered (link h children rest) =
    kept_unnumbered (h is fn_declaration || h is class_declaration || binds h) (h is var_declaration || h is declarator || nests h) h (exported children) (exported rest)
    (exported_unnumbered children) (exported_unnumbered rest)

pub declaring_unnumbered : (u : Under) (c : Chain) → declaring u (unnumbered c) ≡ unnumbered_heads (declaring u c)
declaring_unnumbered u end = refl
declaring_unnumbered u (link h children rest) =
    kept_unnumbered (declares u h) true h (declaring (under u h) children) (declaring u rest) (declaring_unnumbered (under u h) children) (declaring_unnumbered u rest)

-- EVENTS

followed_unnumbered : (x y : Found) {x' y' : Found} → unnumbered_found x ≡ x' → unnumbered_found y ≡ y' → unnumbered_found (x followed_by y) ≡ x' followed_by y'
followed_unnumbered x y p q =
    (λ i. record { events = map-append unplaced x.events y.events i; found_arguments = x.found_arguments || y.found_arguments; found_direct_eval = x.found_direct_eval || y.found_direct_eval })
    ∙ ap₂ ◌followed_by◌ p q

either_unnumbered : (b : Bool) (x y : Found) {x' y' : Found} → unnumbered_found x ≡ x' → unnumbered_found y ≡ y' → unnumbered_found (if b then x else y) ≡ (if b then x' else y')
either_unnumbered b x y p q = grind arith

reference_unnumbered : (a : Around) (w : Bool) (h : Head) → unnumbered_found (reference a w h) ≡ reference a w (unnumbered_head h)
reference_unnumbered a w h = grind arith

readings_unnumbered : (a : Around) (hs : List Head) → unnumbered_found (readings a hs) ≡ readings a (unnumbered_heads hs)
readings_unnumbered a [] = refl
readings_unnumbered a (h ∷ hs) = followed_unnumbered (reading a h) (readings a hs) (reference_unnumbered a false h) (readings_unnumbered a hs)

named_here_unnumbered : (a : Around) (r : Role) (h : Head) → unnumbered_found (named_here a r h) ≡ named_here a r (unnumbered_head h)
named_here_unnumbered a declared_here h = refl
named_here_unnumbered a written h = reference_unnumbered a true h
named_here_unnumbered a read_and_written h = followed_unnumbered (reading a h) (reference a true h) (reference_unnumbered a false h) (reference_unnumbered a true h)

marks_unnumbered : (at : ℕ) (ns : List Name) → unnumbered_events (marks at ns) ≡ marks 0 ns
marks_unnumbered at [] = refl
marks_unnumbered at (n ∷ ns) = ap (λ (es : List Event). marked n 0 ∷ es) (marks_unnumbered at ns)

-- the marks of some names, if they are made
marked_if : (b : Bool) (at : ℕ) (ns ms : List Name) → ns ≡ ms → unnumbered_events (if b then marks at ns else []) ≡ (if b then marks 0 ms else [])
marked_if b at ns ms p = grind (arith, marks_unnumbered at ns)

leave_unnumbered : (h : Head) (children : Chain) (f : Found) → unnumbered_found (leave h children f) ≡ leave (unnumbered_head h) (unnumbered children) (unnumbered_found f)
leave_unnumbered h children f =
    let es = f.events in
    let ms = if f.found_direct_eval then marks h.number (distinct [] (names_of (declared_below h children))) else [] in
    let ns = if f.found_arguments && h is function then marks h.number (names_of (bound children)) else [] in
    let below : names_of (declared_below h children) ≡ names_of (declared_below (unnumbered_head h) (unnumbered children))
    = sym (ap names_of (declaring_unnumbered (under under_nothing h) children) ∙ names_unnumbered (declared_below h children)) in
    let patterns : names_of (bound children) ≡ names_of (bound (unnumbered children)) = sym (ap names_of (bound_unnumbered children) ∙ names_unnumbered (bound children)) in
    let all = map-append unplaced (es ++ ms) ns ∙ ap₂ ◌++◌ (map-append unplaced es ms ∙ ap (λ (z : List Event). unnumbered_events es ++ z) (marked_if f.found_direct_eval h.number _ _ (ap (distinct []) below)))
    (marked_if (f.found_arguments && h is function) h.number _ _ patterns) in
    λ i. record { events = all i; found_arguments = f.found_arguments && h is arrow; found_direct_eval = f.found_direct_eval }

calls_eval_unnumbered : (c : Chain) → calls_eval c ≡ calls_eval (unnumbered c)
calls_eval_unnumbered end = refl
calls_eval_unnumbered (link h children rest) = refl

own_unnumbered : (a : Around) (h : Head) (children : Chain) → unnumbered_found (own a h children) ≡ own a (unnumbered_head h) (unnumbered children)
own_unnumbered a h children =
    grind (arith, reference_unnumbered a false h, reference_unnumbered a true h, named_here_unnumbered a a.role h, calls_eval_unnumbered children)

pub count_unnumbered : (a : Around) (c : Chain) → unnumbered_found (count a c) ≡ count a (unnumbered c)
count_unnumbered a end = refl
count_unnumbered a (link h children rest) =
    let inner = count_unnumbered (inside a h) children in
    followed_unnumbered _ _ (either_unnumbered (h is export_declaration) _ _ (readings_unnumbered a (exported children) ∙ ap (readings a) (sym (exported_unnumbered children))) refl)
    (followed_unnumbered _ _ (either_unnumbered (opens h) _ _ (leave_unnumbered h children (count (inside a h) children) ∙ ap (leave (unnumbered_head h) (unnumbered children)) inner) inner)
    (followed_unnumbered _ _ (own_unnumbered a h children) (count_unnumbered a rest)))
