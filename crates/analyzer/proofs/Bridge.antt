-- The code's walk enters the events that the book counts, in the book's order.
-- What surrounds a place in the book is seen as the code holds it: of the scopes' paths, the names that hold a reference there, and whether the innermost is empty.
-- What is found in a part of the tree is entered into a state; one part after another is entered one after another.
use Rattle.std.specs.Prelude.{if◌then◌else◌}
use Rattle.std.proofs.Math.Bool.{or-false, or_assoc}
use Rattle.std.proofs.Common.{◌≡◌, Bool, true, false, ◌&&◌, ◌||◌, eqb, List, [], ◌∷◌, ◌++◌, length, sym, refl, ap, ◌∙◌, append_assoc, arith}
use Rattle.std.proofs.lemmas.Bool.{ne_eqb}
use Rattle.rules.specs.Tree.{Head, Chain, Name, ◌is◌, name_of, unnumbered_head}
use Rattle.rules.specs.Kinds.{fn_declaration, class_declaration, function, arrow, arguments_symbol}
use Rattle.rules.specs.Names.{among, names_of, distinct, bound, declared_below}
use Rattle.rules.specs.Counting.{Event, unheld, refer, Found, nothing, ◌followed_by◌, Around, holders, put, reference, reading, writing, readings, marks, named_here, opens, leave, inside}
use Rattle.rules.specs.Counting as book
use Rattle.rules.specs.Refusals.{Outcome, and_then}
use Rattle.rules.specs.Refusals.Outcome.{fine}
use Rattle.rules.proofs.Outcomes.{and_then_assoc, and_then_fine}
use Rattle.names.specs.Sinks.{each}
use Rattle.records.specs.declared.id.Id.{Id}
use Rattle.data.specs.Events.{Tables, entered}
use Rattle.data.specs.Filling.{id_of, ids_of, enter_words, fill_words}
use Rattle.analyzer.specs.declared.notes.Notes.{Notes}
use Rattle.analyzer.specs.Scopes.{Here, held_with, here_inside, no_notes}
use Rattle.analyzer.specs.Walk.{State, none_hold, referred, named, leaving, left_scope}

-- the innermost scope has put no name on its path
abbrev pub first_empty : List (List Name) → Bool
first_empty [] = false
first_empty ([] ∷ outer) = true
first_empty ((n ∷ path) ∷ outer) = false

-- there is a scope
abbrev pub Scoped : List (List Name) → Type 0
Scoped [] = ⊥
Scoped (path ∷ outer) = Unit {0}

-- what surrounds a place in the book, as the code holds it
abbrev pub seen : Around → Here
seen a = record {
  cur_fn = a.cur_fn;
  cur_class = a.cur_class;
  held = ids_of (holders a.ast_paths);
  fresh = first_empty a.ast_paths;
  role = a.role;
}

ids_push : (ns : List Name) (n : Name) → ids_of (ns ++ (n ∷ [])) ≡ ids_of ns ++ (id_of n ∷ [])
ids_push [] n = refl
ids_push (m ∷ ns) n = ap (λ (l : List Id). id_of m ∷ l) (ids_push ns n)

put_held : (n : Name) (paths : List (List Name)) → Scoped paths → ids_of (holders (put n paths)) ≡ held_with (first_empty paths) (ids_of (holders paths)) (id_of n)
put_held n [] scoped = absurd scoped
put_held n ([] ∷ outer) scoped = refl
put_held n ((m ∷ path) ∷ outer) scoped = ap (λ (l : List Id). id_of m ∷ l) (ids_push path n)

put_fresh : (n : Name) (paths : List (List Name)) → Scoped paths → first_empty (put n paths) ≡ false
put_fresh n [] scoped = absurd scoped
put_fresh n ([] ∷ outer) scoped = refl
put_fresh n ((m ∷ path) ∷ outer) scoped = refl

put_scoped : (n : Name) (paths : List (List Name)) → Scoped paths → Scoped (put n paths)
put_scoped n [] scoped = absurd scoped
put_scoped n (path ∷ outer) scoped = tt

-- the paths inside a record that puts its name on the path, opens a scope, or neither
abbrev paths_inside : (puts opens : Bool) → Name → List (List Name) → List (List Name)
paths_inside puts opens n paths = if puts then put n paths else if opens then [] ∷ paths else paths

inside_held : (puts opens : Bool) (n : Name) (paths : List (List Name)) → Scoped paths
    → ids_of (holders (paths_inside puts opens n paths)) ≡ (if puts then held_with (first_empty paths) (ids_of (holders paths)) (id_of n) else ids_of (holders paths))
inside_held true opens n paths scoped = put_held n paths scoped
inside_held false true n paths scoped = refl
inside_held false false n paths scoped = refl

inside_fresh : (puts opens : Bool) (n : Name) (paths : List (List Name)) → Scoped paths
    → first_empty (paths_inside puts opens n paths) ≡ (if puts then false else if opens then true else first_empty paths)
inside_fresh true opens n paths scoped = put_fresh n paths scoped
inside_fresh false true n paths scoped = refl
inside_fresh false false n paths scoped = refl

inside_scoped_by : (puts opens : Bool) (n : Name) (paths : List (List Name)) → Scoped paths → Scoped (paths_inside puts opens n paths)
inside_scoped_by true opens n paths scoped = put_scoped n paths scoped
inside_scoped_by false true n paths scoped = tt
inside_scoped_by false false n paths scoped = scoped

pub inside_scoped : (a : Around) (h : Head) → Scoped a.ast_paths → Scoped (inside a h).ast_paths
inside_scoped a h scoped = inside_scoped_by (h is fn_declaration || h is class_declaration) (opens h) (name_of h) a.ast_paths scoped

abbrev with_held : Here → List Id → Bool → Here
with_held a held fresh = record { cur_fn = a.cur_fn; cur_class = a.cur_class; held = held; fresh = fresh; role = a.role }

pub inside_seen : (a : Around) (h : Head) → Scoped a.ast_paths → seen (inside a h) ≡ here_inside (seen a) (unnumbered_head h)
unfolding here_inside
inside_seen a h scoped =
    let puts = h is fn_declaration || h is class_declaration in
    ap (λ (l : List Id). with_held (seen (inside a h)) l (first_empty (inside a h).ast_paths)) (inside_held puts (opens h) (name_of h) a.ast_paths scoped)
    ∙ ap (λ (b : Bool). with_held (seen (inside a h)) (if puts then held_with (first_empty a.ast_paths) (ids_of (holders a.ast_paths)) (id_of (name_of h)) else ids_of (holders a.ast_paths)) b) (inside_fresh puts (opens h) (name_of h) a.ast_paths scoped)

-- what is found, entered into a state
abbrev pub entering : Found → State → Outcome State
entering f s =
    and_then (fill_words f.events s.tables) (λ t.
    fine (record {
      tables = t;
      notes = record {
        found_arguments = s.notes.found_arguments || f.found_arguments;
        found_direct_eval = s.notes.found_direct_eval || f.found_direct_eval;
      };
    }))

abbrev noted : Tables → Bool → Bool → State
noted t arguments eval = record { tables = t; notes = record { found_arguments = arguments; found_direct_eval = eval } }

-- events in two parts are entered one after the other
fill_joins : (es fs : List Event) (t : Tables) → fill_words (es ++ fs) t ≡ and_then (fill_words es t) (λ u. fill_words fs u)
fill_joins [] fs t = refl
fill_joins (e ∷ es) fs t =
    (λ i. and_then (enter_words e t) (λ more. fill_joins es fs more i))
    ∙ sym (and_then_assoc (enter_words e t) (λ more. fill_words es more) (λ u. fill_words fs u))

pub entering_then : (f g : Found) (s : State) → entering (f followed_by g) s ≡ and_then (entering f s) (λ u. entering g u)
entering_then f g s =
    let a = s.notes.found_arguments in
    let e = s.notes.found_direct_eval in
    let both : Tables → Outcome State = λ v. fine (noted v (a || (f.found_arguments || g.found_arguments)) (e || (f.found_direct_eval || g.found_direct_eval))) in
    let last : Tables → Outcome State = λ v. fine (noted v ((a || f.found_arguments) || g.found_arguments) ((e || f.found_direct_eval) || g.found_direct_eval)) in
    let alike : (v : Tables) → both v ≡ last v = λ v.
    ap (λ (x : Bool). fine (noted v x (e || (f.found_direct_eval || g.found_direct_eval)))) (sym (or_assoc a f.found_arguments g.found_arguments))
    ∙ ap (λ (x : Bool). fine (noted v ((a || f.found_arguments) || g.found_arguments) x)) (sym (or_assoc e f.found_direct_eval g.found_direct_eval)) in
    ap (λ (o : Outcome Tables). and_then o both) (fill_joins f.events g.events s.tables)
    ∙ and_then_assoc (fill_words f.events s.tables) (λ u. fill_words g.events u) both
    ∙ (λ i. and_then (fill_words f.events s.tables) (λ u. and_then (fill_words g.events u) (λ v. alike v i)))
    ∙ sym (and_then_assoc (fill_words f.events s.tables) (λ u. fine (noted u (a || f.found_arguments) (e || f.found_direct_eval))) (λ u. entering g u))

pub entering_nothing : (s : State) → entering nothing s ≡ fine s
entering_nothing s =
    ap (λ (x : Bool). fine (noted s.tables x (s.notes.found_direct_eval || false))) (or-false s.notes.found_arguments)
    ∙ ap (λ (x : Bool). fine (noted s.tables s.notes.found_arguments x)) (or-false s.notes.found_direct_eval)

unheld_ids : (ns : List Name) → none_hold (ids_of ns) ≡ unheld ns
unheld_ids [] = refl
unheld_ids (n ∷ ns) = ne_eqb (length (ids_of (n ∷ ns))) 0 (λ (e : length (ids_of (n ∷ ns)) ≡ 0). omega arith)

-- a reference is entered, or only noted
referred_by : (b : Bool) (e : Event) (arguments : Bool) (s : State)
    → (if b then fine (noted s.tables (s.notes.found_arguments || arguments) s.notes.found_direct_eval)
    else and_then (enter_words e s.tables) (λ t. fine (noted t (s.notes.found_arguments || arguments) s.notes.found_direct_eval)))
    ≡ entering (record { events = if b then [] else e ∷ []; found_arguments = arguments; found_direct_eval = false }) s
referred_by true e arguments s =
    ap (λ (x : Bool). fine (noted s.tables (s.notes.found_arguments || arguments) x)) (sym (or-false s.notes.found_direct_eval))
referred_by false e arguments s =
    ap (λ (x : Bool). and_then (enter_words e s.tables) (λ t. fine (noted t (s.notes.found_arguments || arguments) x))) (sym (or-false s.notes.found_direct_eval))
    ∙ ap (λ (o : Outcome Tables). and_then o (λ t. fine (noted t (s.notes.found_arguments || arguments) (s.notes.found_direct_eval || false)))) (sym (and_then_fine (enter_words e s.tables)))

pub referred_is : (a : Around) (writes : Bool) (h : Head) (s : State) → referred (seen a) writes h s ≡ entering (reference a writes h) s
unfolding referred
referred_is a writes h s =
    let own = among (name_of h) a.cur_fn || among (name_of h) a.cur_class in
    let arguments = eqb h.symbol arguments_symbol in
    let hs = holders a.ast_paths in
    ap (λ (entry : Bool).
    if own then fine (noted s.tables (s.notes.found_arguments || arguments) s.notes.found_direct_eval)
    else and_then (entered (id_of (name_of h)) (if writes then 0 else 1) (if writes then 1 else 0) entry h.number (ids_of hs) s.tables) (λ t.
    fine (noted t (s.notes.found_arguments || arguments) s.notes.found_direct_eval))) (unheld_ids hs)
    ∙ referred_by own (refer (name_of h) writes hs h.number) arguments s

pub named_is : (a : Around) (role : book.Role) (h : Head) (s : State) → named (seen a) role h s ≡ entering (named_here a role h) s
named_is a book.declared_here h s = sym (entering_nothing s)
named_is a book.written h s = referred_is a true h s
named_is a book.read_and_written h s =
    (λ i. and_then (referred_is a false h s i) (λ t. referred_is a true h t i))
    ∙ sym (entering_then (reading a h) (writing a h) s)

-- names that are read as they come are the book's readings
pub readings_are : (a : Around) (hs : List Head) (s : State) → each (referred (seen a) false) hs s ≡ entering (readings a hs) s
readings_are a [] s = sym (entering_nothing s)
readings_are a (h ∷ hs) s =
    (λ i. and_then (referred_is a false h s i) (λ t. readings_are a hs t i))
    ∙ sym (entering_then (reading a h) (readings a hs) s)

-- events that are entered only under a condition
fill_chosen : (b : Bool) (es : List Event) (t : Tables) → fill_words (if b then es else []) t ≡ (if b then fill_words es t else fine t)
fill_chosen true es t = refl
fill_chosen false es t = refl

leaving_is : (h : Head) (children : Chain) (found : Notes) (t : Tables)
    → leaving h children found t
    ≡ fill_words ((if found.found_direct_eval then marks h.number (distinct [] (names_of (declared_below h children))) else [])
    ++ (if found.found_arguments && h is function then marks h.number (names_of (bound children)) else [])) t
unfolding leaving
leaving_is h children found t =
    let first = marks h.number (distinct [] (names_of (declared_below h children))) in
    let second = marks h.number (names_of (bound children)) in
    let eval = found.found_direct_eval in
    let arguments = found.found_arguments && h is function in
    (λ i. and_then (sym (fill_chosen eval first t) i) (λ u. sym (fill_chosen arguments second u) i))
    ∙ sym (fill_joins (if eval then first else []) (if arguments then second else []) t)

-- a scope that is left
pub leave_is : (h : Head) (children : Chain) (f : Found) (s : State)
    → and_then (entering f (record { tables = s.tables; notes = no_notes })) (λ u. left_scope h children s.notes u) ≡ entering (leave h children f) s
leave_is h children f s =
    let found : Notes = record { found_arguments = f.found_arguments; found_direct_eval = f.found_direct_eval } in
    let first = if f.found_direct_eval then marks h.number (distinct [] (names_of (declared_below h children))) else [] in
    let second = if f.found_arguments && h is function then marks h.number (names_of (bound children)) else [] in
    let marked = first ++ second in
    let last : Tables → Outcome State = λ t. fine (noted t (s.notes.found_arguments || (f.found_arguments && h is arrow)) (s.notes.found_direct_eval || f.found_direct_eval)) in
    and_then_assoc (fill_words f.events s.tables) (λ t. fine (record { tables = t; notes = found })) (λ u. left_scope h children s.notes u)
    ∙ (λ i. and_then (fill_words f.events s.tables) (λ t. and_then (leaving_is h children found t i) last))
    ∙ sym (and_then_assoc (fill_words f.events s.tables) (λ t. fill_words marked t) last)
    ∙ ap (λ (o : Outcome Tables). and_then o last) (sym (fill_joins f.events marked s.tables))
    ∙ ap (λ (es : List Event). and_then (fill_words es s.tables) last) (sym (append_assoc f.events first second))
