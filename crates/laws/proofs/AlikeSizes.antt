-- Tables without doubles: filled from nothing they have no name and no edge twice, so tables that tell the same have equally many rows.
--
--   Tidy, tidy_filled           no name has two rows, and no edge
--   names_sizes, edges_sizes    equally many rows
use Rattle.std.specs.Cmp.{IsEquivalence, decided}
use Rattle.std.proofs.Common.{◌≡◌, Bool, ◌&&◌, List, [], ◌∷◌, length, refl}
use Rattle.rules.specs.Tree.{Name}
use Rattle.rules.specs.Names.{same}
use Rattle.rules.specs.Counting.{Event}
use Rattle.rules.specs.Tables.{NameRow, EdgeRow, Counts, no_rows, fresh, row_of}
use Rattle.rules.proofs.SameNames.{same_laws}
use Rattle.laws.proofs.TablesRows.{with_row}
use Rattle.laws.proofs.TablesFilled.{new_edge, adds_edge, adds, held_by, all_held, entered, filled}
use Rattle.laws.proofs.TablesEdges.{edge_eq, edge_refl}
use Rattle.laws.proofs.TablesSizes.{Single, single_none, single_with_row, single_with_change, equal_sizes}
use Rattle.laws.proofs.AlikeTables.{Alike}

-- the key of a row of names
abbrev name_key : NameRow → Name
name_key r = r.name

-- the key of a row of edges
abbrev Ends : Type 0
Ends = Name × Name

-- the two names of a row of edges
abbrev edge_key : EdgeRow → Ends
edge_key r = (r.from, r.to)

-- two such keys are one
abbrev same_ends : Ends → Ends → Bool
same_ends a b = same a.0 b.0 && same a.1 b.1

ends_laws : IsEquivalence same_ends
ends_laws = decided same_ends (λ a b. (λ q. let (x, y) = edge_eq a.0 a.1 (new_edge b.0 b.1) q in λ i. (x i, y i), λ e. rw e (edge_refl b.0 b.1)))

-- no name has two rows, and no edge
pub record Tidy (c : Counts) : Type 0 where
  pub names : Single name_key same c.names
  pub edges : Single edge_key same_ends c.edges

single_name : (n : Name) (rs : List NameRow) → Single name_key same rs → Single name_key same (with_row (row_of n) (fresh n) rs)
single_name n = single_with_row name_key same_laws (fresh n)

tidy_held : (e : Event) (hs : List Name) (c : Counts) → Tidy c → Tidy (all_held e hs c)
tidy_held e [] c t = t
tidy_held e (h ∷ hs) c t = tidy_held e hs (held_by e h c) (record {
  names = single_name e.name (with_row (row_of h) (fresh h) c.names) (single_name h c.names t.names);
  edges = single_with_change edge_key ends_laws (new_edge h e.name) (adds_edge e) (λ r. refl) c.edges t.edges;
})

tidy_entered : (e : Event) (c : Counts) → Tidy c → Tidy (entered e c)
tidy_entered e c t = let k = tidy_held e e.holders c t in record {
  names = single_with_change name_key same_laws (fresh e.name) (adds e) (λ r. refl) (all_held e e.holders c).names k.names;
  edges = k.edges;
}

tidy_onward : (es : List Event) (c : Counts) → Tidy c → Tidy (filled es c)
tidy_onward [] c t = t
tidy_onward (e ∷ es) c t = tidy_onward es (entered e c) (tidy_entered e c t)

pub tidy_filled : (es : List Event) → Tidy (filled es no_rows)
tidy_filled es = tidy_onward es no_rows (record { names = single_none name_key same; edges = single_none edge_key same_ends })

pub names_sizes : (c d : Counts) → Alike c d → Tidy c → Tidy d → length c.names ≡ length d.names
names_sizes c d k s t = equal_sizes name_key same_laws c.names d.names s.names t.names (λ n. k.names (same n))

pub edges_sizes : (c d : Counts) → Alike c d → Tidy c → Tidy d → length c.edges ≡ length d.edges
edges_sizes c d k s t = equal_sizes edge_key ends_laws c.edges d.edges s.edges t.edges (λ n. k.edges (λ x y. same n.0 x && same n.1 y))
