-- The code's walk is the book's count, entered: by induction over the chain, and for each record by its kind.
-- Eight kinds do something before, after or around their children; for each of them the tests compute. Any other is walked through, whatever its sort.
use Rattle.std.specs.Prelude.{if◌then◌else◌}
use Rattle.std.proofs.Math.Bool.{or-false}
use Rattle.std.proofs.Common.{◌≡◌, ℕ, Bool, true, false, ◌&&◌, ◌||◌, eqb, List, take, drop, None, Option, Ok, Err, Result, sym, refl, ap, ◌∙◌, subst, ⊎_elim}
use Rattle.std.proofs.lemmas.Bool.{cond-false, cases_Bool, eqb-true, or_from}
use Rattle.rules.specs.Tree.{Head, Chain, ◌is◌, unnumbered_head}
use Rattle.rules.specs.Tree.Chain.{end, link}
use Rattle.rules.specs.Kinds.{export_declaration, class_body, property_name, class_member, expression, pattern}
use Rattle.rules.specs.Names.{exported}
use Rattle.rules.specs.Counting.{Found, nothing, ◌followed_by◌, Around, reading, readings, calls_eval, own, opens, leave, inside, outermost, count, events_of}
use Rattle.rules.specs.Refusals.{Outcome, and_then, Says}
use Rattle.rules.specs.Refusals.Outcome.{fine, refused}
use Rattle.records.specs.declared.id.Id.{Id}
use Rattle.data.specs.Events.{Tables, tables}
use Rattle.data.specs.Filling.{fill_words}
use Rattle.analyzer.specs.declared.visit.Sort.{Sort}
use Rattle.analyzer.specs.declared.visit.Sort.TheVariants.{Statement, Function, Class, Expression, Pattern}
use Rattle.analyzer.specs.declared.fault.CountFault.{CountFault}
use Rattle.analyzer.specs.declared.notes.Notes.{Notes}
use Rattle.analyzer.specs.declared.scope.Role.{Role}
use Rattle.analyzer.specs.declared.scope.Role.TheVariants.{Written}
use Rattle.analyzer.specs.declared.scope.Scope.{Scope}
use Rattle.analyzer.specs.CountFaults.{number as fault_number, place as fault_place}
use Rattle.analyzer.specs.Scopes.{Here, here, one, role_of, IsOutermost, here_inside, no_notes, with_eval}
use Rattle.analyzer.specs.Walk.{State, state, Went, referred, read_exports, named, left_scope, sort_of, visited_by, walk}
use Rattle.rules.proofs.Outcomes.{and_then_assoc, and_then_fine}
use Rattle.analyzer.proofs.Bridge.{Scoped, seen, inside_scoped, inside_seen, entering, entering_then, entering_nothing, referred_is, named_is, readings_are, leave_is}

-- what a record gives before its children, and what its children give as it is left
abbrev before : Around → Head → Chain → Found
before a h children = if h is export_declaration then readings a (exported children) else nothing

abbrev left : Head → Chain → Found → Found
left h children inner = if opens h then leave h children inner else inner

-- three parts, entered one after another
abbrev by_parts : (first second third : Found) → State → Outcome State
by_parts first second third s = and_then (entering first s) (λ t. and_then (entering second t) (λ u. entering third u))

-- a record by the book: what is before, its children, what it does itself
abbrev by_book : Around → Head → Chain → Found → State → Outcome State
by_book a h children inner s = by_parts (before a h children) (left h children inner) (own a h children) s

-- no direct call of `eval` is noted
no_eval : (s : State) → fine (record { tables = s.tables; notes = with_eval false s.notes }) ≡ fine s
no_eval s = ap (λ (b : Bool). fine (record { tables = s.tables; notes = record { found_arguments = s.notes.found_arguments; found_direct_eval = b } })) (or-false s.notes.found_direct_eval)

-- a sort by the tests after the first
never_function : (b d e : Bool) → (if b then Class else if d then Expression else if e then Pattern else Statement) ≡ Function → ⊥
never_function true d e f = cc
never_function false true e f = cc
never_function false false true f = cc
never_function false false false f = cc

-- three parts and what follows them
parts_then : (first second third rest : Found) (s : State)
    → and_then (by_parts first second third s) (λ u. entering rest u) ≡ entering (first followed_by second followed_by third followed_by rest) s
parts_then first second third rest s =
    and_then_assoc (entering first s) (λ t. and_then (entering second t) (λ u. entering third u)) (λ v. entering rest v)
    ∙ (λ i. and_then (entering first s) (λ t. and_then_assoc (entering second t) (λ u. entering third u) (λ v. entering rest v) i))
    ∙ (λ i. and_then (entering first s) (λ t. and_then (entering second t) (λ u. sym (entering_then third rest u) i)))
    ∙ (λ i. and_then (entering first s) (λ t. sym (entering_then second (third followed_by rest) t) i))
    ∙ sym (entering_then first (second followed_by third followed_by rest) s)

module _ (a : Around) (n flags symbol mark : ℕ) (children : Chain) (below : Here → State → Outcome State) (inner : Found) where
  -- the record, of some kind
  abbrev head : ℕ → Head
  head kind = record { number = n; kind = kind; flags = flags; symbol = symbol; mark = mark }

  -- its children are walked as they are found
  abbrev Below : ℕ → Type 0
  Below kind = (t : State) → below (here_inside (seen a) (unnumbered_head (head kind))) t ≡ entering inner t

  -- the code's visit of it is the book's
  abbrev Visits : ℕ → Type 0
  Visits kind = Below kind → (s : State) → visited_by (sort_of kind) below (seen a) (head kind) children s ≡ by_book a (head kind) children inner s

  at_export_declaration : Visits 5
  unfolding sort_of
  at_export_declaration walked s =
      λ i. and_then (readings_are a (exported children) s i) (λ t. and_then (walked t i) (λ u. sym (entering_nothing u) i))

  at_export_name : Visits 7
  unfolding sort_of
  at_export_name walked s =
      λ i. and_then (sym (entering_nothing s) i) (λ t. and_then (walked t i) (λ u. referred_is a false (head 7) u i))

  at_identifier : Visits 27
  unfolding sort_of
  at_identifier walked s =
      (λ i. and_then (sym (entering_nothing s) i) (λ t. and_then (walked t i) (λ u. and_then (referred_is a false (head 27) u i) (λ v. no_eval v i))))
      ∙ (λ i. and_then (entering nothing s) (λ t. and_then (entering inner t) (λ u. and_then_fine (entering (reading a (head 27)) u) i)))

  at_call : Visits 34
  unfolding sort_of
  at_call walked s =
      λ i. and_then (sym (entering_nothing s) i) (λ t. and_then (walked t i) (λ u.
      fine (record { tables = u.tables; notes = record { found_arguments = sym (or-false u.notes.found_arguments) i; found_direct_eval = u.notes.found_direct_eval || calls_eval children } })))

  at_name_pattern : Visits 37
  unfolding sort_of
  at_name_pattern walked s =
      λ i. and_then (sym (entering_nothing s) i) (λ t. and_then (walked t i) (λ u. named_is a a.role (head 37) u i))

  at_property_name : Visits 40
  unfolding sort_of
  at_property_name walked s =
      λ i. and_then (sym (entering_nothing s) i) (λ t. and_then (walked t i) (λ u. referred_is a true (head 40) u i))

  -- a scope: its children begin without notes
  scope_is : (kind : ℕ) → Below kind → (s : State)
      → and_then (below (here_inside (seen a) (unnumbered_head (head kind))) (record { tables = s.tables; notes = no_notes })) (λ t. left_scope (head kind) children s.notes t)
      ≡ and_then (entering nothing s) (λ t. and_then (entering (leave (head kind) children inner) t) (λ u. entering nothing u))
  scope_is kind walked s =
      ap (λ (o : Outcome State). and_then o (λ t. left_scope (head kind) children s.notes t)) (walked (record { tables = s.tables; notes = no_notes }))
      ∙ leave_is (head kind) children inner s
      ∙ sym (and_then_fine (entering (leave (head kind) children inner) s))
      ∙ (λ i. and_then (sym (entering_nothing s) i) (λ t. and_then (entering (leave (head kind) children inner) t) (λ u. sym (entering_nothing u) i)))

  at_function : Visits 21
  unfolding sort_of
  at_function walked s = scope_is 21 walked s

  at_arrow : Visits 31
  unfolding sort_of
  at_arrow walked s = scope_is 31 walked s

  -- a record that does nothing itself
  own_nothing : (kind : ℕ) → eqb kind 7 ≡ false → eqb kind 27 ≡ false → eqb kind 34 ≡ false → eqb kind 37 ≡ false → eqb kind 40 ≡ false
      → own a (head kind) children ≡ nothing
  own_nothing kind e7 e27 e34 e37 e40 =
      cond-false (eqb kind 27 || eqb kind 7) _ _ (or_from (eqb kind 27) (eqb kind 7) e27 e7)
      ∙ cond-false (eqb kind 40) _ _ e40
      ∙ cond-false (eqb kind 37) _ _ e37
      ∙ cond-false (eqb kind 34) _ _ e34

  -- it is walked through, whatever its sort
  walked_through : (kind : ℕ) (sort : Sort) → eqb kind 5 ≡ false → eqb kind 7 ≡ false → eqb kind 27 ≡ false → eqb kind 34 ≡ false → eqb kind 37 ≡ false → eqb kind 40 ≡ false
      → (sort ≡ Function → ⊥) → (s : State) → visited_by sort below (seen a) (head kind) children s ≡ below (here_inside (seen a) (unnumbered_head (head kind))) s
  walked_through kind Statement e5 e7 e27 e34 e37 e40 some s =
      let walks : State → Outcome State = λ t. below (here_inside (seen a) (unnumbered_head (head kind))) t in
      (λ i. and_then (if e5 i then read_exports (seen a) children s else fine s) (λ t. and_then (walks t) (λ u. if e7 i then referred (seen a) false (head kind) u else fine u)))
      ∙ and_then_fine (walks s)
  walked_through kind Function e5 e7 e27 e34 e37 e40 some s = absurd (some refl)
  walked_through kind Class e5 e7 e27 e34 e37 e40 some s = refl
  walked_through kind Expression e5 e7 e27 e34 e37 e40 some s =
      let walks : State → Outcome State = λ t. below (here_inside (seen a) (unnumbered_head (head kind))) t in
      (λ i. and_then (walks s) (λ t. and_then (if e27 i then referred (seen a) false (head kind) t else fine t) (λ (u : State). fine (record { tables = u.tables; notes = with_eval (e34 i && calls_eval children) u.notes }))))
      ∙ (λ i. and_then (walks s) (λ t. no_eval t i))
      ∙ and_then_fine (walks s)
  walked_through kind Pattern e5 e7 e27 e34 e37 e40 some s =
      let walks : State → Outcome State = λ t. below (here_inside (seen a) (unnumbered_head (head kind))) t in
      (λ i. and_then (walks s) (λ t. if e37 i then named (seen a) a.role (head kind) t else if e40 i then referred (seen a) true (head kind) t else fine t))
      ∙ and_then_fine (walks s)

  no_function : (kind : ℕ) → eqb kind 21 ≡ false → eqb kind 31 ≡ false → sort_of kind ≡ Function → ⊥
  unfolding sort_of
  no_function kind e21 e31 e =
      never_function (eqb kind class_body || class_member kind) (expression kind) (pattern kind || eqb kind property_name) (sym (cond-false (eqb kind 21 || eqb kind 31) _ _ (or_from (eqb kind 21) (eqb kind 31) e21 e31)) ∙ e)

  at_other : (kind : ℕ) → eqb kind 5 ≡ false → eqb kind 7 ≡ false → eqb kind 21 ≡ false → eqb kind 27 ≡ false → eqb kind 31 ≡ false → eqb kind 34 ≡ false → eqb kind 37 ≡ false → eqb kind 40 ≡ false → Visits kind
  at_other kind e5 e7 e21 e27 e31 e34 e37 e40 walked s =
      walked_through kind (sort_of kind) e5 e7 e27 e34 e37 e40 (no_function kind e21 e31) s
      ∙ walked s
      ∙ sym (and_then_fine (entering inner s))
      ∙ (λ i. and_then (sym (entering_nothing s) i) (λ t. and_then (entering inner t) (λ u. sym (entering_nothing u) i)))
      ∙ ap (λ (f : Found). by_parts f inner nothing s) (sym (cond-false (eqb kind 5) (readings a (exported children)) nothing e5))
      ∙ ap (λ (f : Found). by_parts (before a (head kind) children) f nothing s) (sym (cond-false (opens (head kind)) (leave (head kind) children inner) inner (or_from (eqb kind 21) (eqb kind 31) e21 e31)))
      ∙ ap (λ (f : Found). by_parts (before a (head kind) children) (left (head kind) children inner) f s) (sym (own_nothing kind e7 e27 e34 e37 e40))

  -- a kind is this one or another
  choose : (kind this : ℕ) → Visits this → (eqb kind this ≡ false → Visits kind) → Visits kind
  choose kind this at other =
      ⊎_elim (λ (e : eqb kind this ≡ true). subst Visits (sym (eqb-true kind this e)) at) other (cases_Bool (eqb kind this))

  visits : (kind : ℕ) → Visits kind
  visits kind =
      choose kind 5 at_export_declaration (λ e5.
      choose kind 7 at_export_name (λ e7.
      choose kind 21 at_function (λ e21.
      choose kind 27 at_identifier (λ e27.
      choose kind 31 at_arrow (λ e31.
      choose kind 34 at_call (λ e34.
      choose kind 37 at_name_pattern (λ e37.
      choose kind 40 at_property_name (λ e40.
      at_other kind e5 e7 e21 e27 e31 e34 e37 e40))))))))

-- a chain
pub walk_counts : (a : Around) (c : Chain) (s : State) → Scoped a.ast_paths → walk (seen a) c s ≡ entering (count a c) s
unfolding walk
walk_counts a end s scoped = sym (entering_nothing s)
walk_counts a (link h children rest) s scoped =
    let below : Here → State → Outcome State = λ b t. walk b children t in
    let inner = count (inside a h) children in
    let first = before a h children in
    let second = left h children inner in
    let third = own a h children in
    let walked : (t : State) → walk (here_inside (seen a) (unnumbered_head h)) children t ≡ entering inner t = λ t.
    ap (λ (b : Here). walk b children t) (sym (inside_seen a h scoped)) ∙ walk_counts (inside a h) children t (inside_scoped a h scoped) in
    (λ i. and_then (visits a h.number h.flags h.symbol h.mark children below inner h.kind walked s i) (λ u. walk_counts a rest u scoped i))
    ∙ parts_then first second third (count a rest) s

fine_back : (o : Outcome Tables) (arguments eval : Bool) (u : State)
    → and_then o (λ t. fine (record { tables = t; notes = record { found_arguments = arguments; found_direct_eval = eval } })) ≡ fine u → o ≡ fine u.tables
fine_back (fine t) arguments eval u e =
    let same : record { tables = t; notes = record { found_arguments = arguments; found_direct_eval = eval } } ≡ u = cc in
    ap (λ (x : State). fine x.tables) same
fine_back (refused number at) arguments eval u e = cc

refused_back : (o : Outcome Tables) (arguments eval : Bool) (number at : ℕ)
    → and_then {B = State} o (λ t. fine (record { tables = t; notes = record { found_arguments = arguments; found_direct_eval = eval } })) ≡ refused number at → o ≡ refused number at
refused_back (fine t) arguments eval number at e = cc
refused_back (refused number' at') arguments eval number at e = cc

-- what is entered is fine or refused as the events are
events_fine : (f : Found) (s u : State) (o : Outcome State) → o ≡ entering f s → o ≡ fine u → fill_words f.events s.tables ≡ fine u.tables
events_fine f s u o e is_fine = fine_back (fill_words f.events s.tables) _ _ u (sym e ∙ is_fine)

events_refused : (f : Found) (s : State) (o : Outcome State) (number at : ℕ) → o ≡ entering f s → o ≡ refused number at → fill_words f.events s.tables ≡ refused number at
events_refused f s o number at e is_refused = refused_back (fill_words f.events s.tables) _ _ number at (sym e ∙ is_refused)

from_outermost : {A : Type 0} (tree : Chain) (names edges : List ℕ) (u : State) (result : Result A CountFault)
    → Went (walk (seen outermost) tree (state names edges no_notes)) result u
    → Says (fill_words (events_of tree) (tables names edges)) (λ _. u.tables) fault_number fault_place result
from_outermost tree names edges u (Ok x) e =
    events_fine (count outermost tree) (state names edges no_notes) u _ (walk_counts outermost tree (state names edges no_notes) tt) e
from_outermost tree names edges u (Err fault) e =
    events_refused (count outermost tree) (state names edges no_notes) _ _ _ (walk_counts outermost tree (state names edges no_notes) tt) e

-- the outermost scope, by its fields
at_outermost : (start len : ℕ) (fresh : Bool) (cur_fn cur_class : Option Id) (role : Role) (path : List Id)
    → start ≡ 0 → len ≡ 0 → fresh ≡ true → cur_fn ≡ None → cur_class ≡ None → role ≡ Written
    → ◌≡◌ {A = Here} (record { cur_fn = one cur_fn; cur_class = one cur_class; held = drop start (take len path); fresh = fresh; role = role_of role }) (seen outermost)
at_outermost start len fresh cur_fn cur_class role path a b c d e f = rw (a, b, c, d, e, f) refl

-- a walk of a tree from the outermost scope ends as its events do
pub tree_counted : {A : Type 0} (tree : Chain) (scope : Scope) (path : List Id) (names edges : List ℕ) (notes : Notes) (u : State) (result : Result A CountFault)
    → IsOutermost scope → notes ≡ no_notes → Went (walk (here scope path) tree (state names edges notes)) result u
    → Says (fill_words (events_of tree) (tables names edges)) (λ _. u.tables) fault_number fault_place result
tree_counted tree scope path names edges notes u result root none went =
    from_outermost tree names edges u result
    (subst (λ (x : Notes). Went (walk (seen outermost) tree (state names edges x)) result u) none
    (subst (λ (x : Here). Went (walk x tree (state names edges notes)) result u)
    (at_outermost scope.start scope.len scope.fresh scope.cur_fn_id scope.cur_class_id scope.role path root.0 root.1 root.2 root.3 root.4 root.5) went))
