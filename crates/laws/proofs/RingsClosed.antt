-- Closed rings: each edge to a name of a closed ring comes from its ring, and the name is no entry.
--
--   closed_edge, closed_entry      the edges to such a name; its row
use Rattle.std.proofs.Common.{◌≡◌, Bool, true, false, not, ◌&&◌, List, [], ◌∷◌, refl, arith}
use Rattle.std.proofs.lemmas.Bool.{both_ways}
use Rattle.rules.specs.Tree.{Name}
use Rattle.rules.specs.Names.{among}
use Rattle.rules.specs.Tables.{NameRow, EdgeRow, Counts, some_row, fresh, look}
use Rattle.rules.specs.Rings.{component, closed}
use Rattle.rules.specs.Rings.Leads.{here}
use Rattle.rules.proofs.Leading.{component_told}
use Rattle.rules.proofs.SameNames.{look_name}
use Rattle.laws.proofs.TablesEdges.{some_edge}

-- a name is of its own component
own_component : (edges : List EdgeRow) (n : Name) → among n (component edges n) ≡ true
own_component edges n = (component_told edges n n).1 (here, here)

-- a name's row passes a test
passing_row : (f : NameRow → Bool) (n : Name) (rows : List NameRow) → f (fresh n) ≡ false → f (look n rows) ≡ true → some_row f rows ≡ true
passing_row f n [] bare g = absurd (both_ways (f (fresh n)) bare g)
passing_row f n (r ∷ rs) bare g = grind (arith, passing_row f n rs bare)

-- each edge to a name of a closed ring comes from the ring: one from outside would lead into it
pub closed_edge : (c : Counts) (m n : Name) → closed c n ≡ true
    → ((p : Name → Name → Bool) → p m n ≡ true → some_edge p c.edges ≡ true) → among m (component c.edges n) ≡ true
closed_edge c m n g there =
    let ring = component c.edges n in
    grind (arith, there (λ f t. among t ring && not (among f ring)), own_component c.edges n)

-- a name of a closed ring is no entry
pub closed_entry : (c : Counts) (n : Name) → closed c n ≡ true → (look n c.names).entry ≡ true → ⊥
closed_entry c n g x =
    let ring = component c.edges n in
    grind (arith, passing_row (λ (r : NameRow). r.entry && among r.name ring) n c.names refl, look_name n c.names, own_component c.edges n)
