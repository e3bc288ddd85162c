-- The tables that a list of events fills where there is room for all, and what they tell, event by event:
-- each observation of the tables after an event is a commuting function of the same observation before it.
--
--   held_by, all_held, entered, filled            the filling without bound
--   seen, look_entered, seen_commutes             a name's row
--   named, some_name_entered, named_commutes      some name passes
--   entries, some_entry_entered, entries_commute  some entry passes
-- The edges have a page of their own.
use Rattle.std.proofs.Common.{◌≡◌, ◌+◌, Bool, true, false, cond, ◌&&◌, ◌||◌, List, [], ◌∷◌, sym, refl, ap, ◌∙◌, subst, arith}
use mathlib.Core.Bool.{or_self}
use Rattle.std.specs.List.{fold}
use Rattle.std.proofs.lemmas.Bool.{false≢true}
use Rattle.rules.specs.Tree.{Name}
use Rattle.rules.specs.Names.{same}
use Rattle.rules.specs.Counting.{Event}
use Rattle.rules.specs.Tables.{NameRow, EdgeRow, Counts, some_row, fresh, look, row_of, edge_of, reads, writes}
use Rattle.rules.proofs.SameNames.{same_eq}
use Rattle.laws.proofs.Basics.{or_swap, Commutes}
use Rattle.laws.proofs.TablesRows.{with_row, with_change, some_with_row, some_with_change}

-- an edge's row before anything is counted
abbrev pub new_edge : (from to : Name) → EdgeRow
new_edge a b = record { from = a; to = b; usage = 0; assign = 0 }

-- what an event adds to an edge's row
abbrev pub adds_edge : Event → EdgeRow → EdgeRow
adds_edge e r = record { from = r.from; to = r.to; usage = r.usage + reads e; assign = r.assign + writes e }

-- what an event adds to its name's row
abbrev pub adds : Event → NameRow → NameRow
adds e r = record { name = r.name; usage = r.usage + reads e; assign = r.assign + writes e; entry = r.entry || e.entry; counted = true }

-- one holder of an event
abbrev pub held_by : Event → Name → Counts → Counts
held_by e h c = record {
  names = with_row (row_of e.name) (fresh e.name) (with_row (row_of h) (fresh h) c.names);
  edges = with_change (edge_of h e.name) (new_edge h e.name) (adds_edge e) c.edges;
}

-- its holders in turn
abbrev pub all_held : Event → List Name → Counts → Counts
all_held e [] c = c
all_held e (h ∷ hs) c = all_held e hs (held_by e h c)

-- one event
abbrev pub entered : Event → Counts → Counts
entered e c = record {
  names = with_change (row_of e.name) (fresh e.name) (adds e) (all_held e e.holders c).names;
  edges = (all_held e e.holders c).edges;
}

-- all events
abbrev pub filled : List Event → Counts → Counts
filled es c = fold (λ (d : Counts) (e : Event). entered e d) c es

-- A NAME'S ROW

look_with_row : (m n : Name) (rs : List NameRow) → look m (with_row (row_of n) (fresh n) rs) ≡ look m rs
look_with_row m n [] = grind (arith, same_eq m n)
look_with_row m n (r ∷ rs) = grind (arith, look_with_row m n rs)

look_with_change : (m n : Name) (e : Event) (rs : List NameRow) → look m (with_change (row_of n) (fresh n) (adds e) rs) ≡ cond (same m n) (adds e (look m rs)) (look m rs)
look_with_change m n e [] = grind (arith, same_eq m n)
look_with_change m n e (r ∷ rs) = grind (arith, look_with_change m n e rs, same_eq n r.name, same_eq m n)

look_all_held : (m : Name) (e : Event) (hs : List Name) (c : Counts) → look m (all_held e hs c).names ≡ look m c.names
look_all_held m e [] c = refl
look_all_held m e (h ∷ hs) c =
    look_all_held m e hs (held_by e h c) ∙ (look_with_row m e.name (with_row (row_of h) (fresh h) c.names) ∙ look_with_row m h c.names)

-- a name's row after an event
abbrev pub seen : Name → NameRow → Event → NameRow
seen m r e = cond (same m e.name) (adds e r) r

pub look_entered : (m : Name) (e : Event) (c : Counts) → look m (entered e c).names ≡ seen m (look m c.names) e
look_entered m e c = look_with_change m e.name e (all_held e e.holders c).names ∙ ap (λ (r : NameRow). seen m r e) (look_all_held m e e.holders c)

adds_swap : (x y : Event) (r : NameRow) → adds x (adds y r) ≡ adds y (adds x r)
adds_swap x y r =
    let p : r.usage + reads y + reads x ≡ r.usage + reads x + reads y = omega arith in
    let q : r.assign + writes y + writes x ≡ r.assign + writes x + writes y = omega arith in
    let o : ((r.entry || y.entry) || x.entry) ≡ ((r.entry || x.entry) || y.entry) = grind arith in
    λ i. record { name = r.name; usage = p i; assign = q i; entry = o i; counted = true }

pub seen_commutes : (m : Name) → Commutes (seen m)
seen_commutes m x y r = grind (arith, adds_swap x y r)

-- THE NAMES THERE ARE

-- some name with a row passes a test
abbrev pub some_name : (Name → Bool) → List NameRow → Bool
some_name p rs = some_row (λ r. p r.name) rs

some_name_with : (p : Name → Bool) (n : Name) (rs : List NameRow) → some_name p (with_row (row_of n) (fresh n) rs) ≡ (p n || some_name p rs)
some_name_with p n rs = some_with_row (λ r. p r.name) (row_of n) (fresh n) (λ r q h. subst (λ (x : Name). p x ≡ true) (same_eq n r.name q) h) rs

some_name_changed : (p : Name → Bool) (n : Name) (e : Event) (rs : List NameRow) → some_name p (with_change (row_of n) (fresh n) (adds e) rs) ≡ (p n || some_name p rs)
some_name_changed p n e rs = some_with_change (λ r. p r.name) (row_of n) (fresh n) (adds e) (p n) refl
    (λ r q. subst (λ (x : Name). p x ≡ (p n || p x)) (same_eq n r.name q) (sym (or_self (p n)))) rs

-- a test of the names that an event's holders bring
abbrev pub held_name : (Name → Bool) → List Name → Name → Bool
held_name p [] n = false
held_name p (h ∷ hs) n = (p n || p h) || held_name p hs n

some_name_held : (p : Name → Bool) (e : Event) (hs : List Name) (c : Counts) → some_name p (all_held e hs c).names ≡ (held_name p hs e.name || some_name p c.names)
some_name_held p e [] c = refl
some_name_held p e (h ∷ hs) c =
    grind (arith, some_name_held p e hs (held_by e h c), some_name_with p e.name (with_row (row_of h) (fresh h) c.names), some_name_with p h c.names)

-- the same after an event
abbrev pub named : (Name → Bool) → Bool → Event → Bool
named p b e = (p e.name || held_name p e.holders e.name) || b

pub some_name_entered : (p : Name → Bool) (e : Event) (c : Counts) → some_name p (entered e c).names ≡ named p (some_name p c.names) e
some_name_entered p e c = grind (arith, some_name_changed p e.name e (all_held e e.holders c).names, some_name_held p e e.holders c)

pub named_commutes : (p : Name → Bool) → Commutes (named p)
named_commutes p x y r = or_swap (p x.name || held_name p x.holders x.name) (p y.name || held_name p y.holders y.name) r

-- THE ENTRIES

-- some entry's name passes a test
abbrev pub some_entry : (Name → Bool) → List NameRow → Bool
some_entry p rs = some_row (λ r. r.entry && p r.name) rs

some_entry_with : (p : Name → Bool) (n : Name) (rs : List NameRow) → some_entry p (with_row (row_of n) (fresh n) rs) ≡ some_entry p rs
some_entry_with p n rs = some_with_row (λ r. r.entry && p r.name) (row_of n) (fresh n) (λ r q h. absurd (false≢true h)) rs

some_entry_held : (p : Name → Bool) (e : Event) (hs : List Name) (c : Counts) → some_entry p (all_held e hs c).names ≡ some_entry p c.names
some_entry_held p e [] c = refl
some_entry_held p e (h ∷ hs) c =
    some_entry_held p e hs (held_by e h c) ∙ (some_entry_with p e.name (with_row (row_of h) (fresh h) c.names) ∙ some_entry_with p h c.names)

-- the same after an event
abbrev pub entries : (Name → Bool) → Bool → Event → Bool
entries p b e = (e.entry && p e.name) || b

pub some_entry_entered : (p : Name → Bool) (e : Event) (c : Counts) → some_entry p (entered e c).names ≡ entries p (some_entry p c.names) e
some_entry_entered p e c =
    some_with_change (λ r. r.entry && p r.name) (row_of e.name) (fresh e.name) (adds e) (e.entry && p e.name) refl
    (λ r q. grind (arith, same_eq e.name r.name q))
    (all_held e e.holders c).names
    ∙ ap (λ (b : Bool). (e.entry && p e.name) || b) (some_entry_held p e e.holders c)

pub entries_commute : (p : Name → Bool) → Commutes (entries p)
entries_commute p x y r = or_swap (x.entry && p x.name) (y.entry && p y.name) r
