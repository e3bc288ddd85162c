-- The tables of a pass: declared as it is held, or filled from the tree where it holds no name, then names and edges from the tree's count.
-- With room they are the tables without bound where all rows fit, and otherwise the pass is refused.
--
--   counts                           names and edges of a tree, without bound
--   declared_rows, tables_of         the rows of declared that a pass has; all tables
--   tables_fit                       whether they fit
--   fill_tables_bounded, fill_tables_counts      filling with room and without
use Rattle.std.proofs.Common.{◌≡◌, Bool, true, ◌&&◌, leb, List, [], ◌∷◌, length, refl, ap, subst}
use Rattle.std.proofs.lemmas.Bool.{and_from, and_left, and_right}
use Rattle.rules.specs.Tree.{Chain, Name}
use Rattle.rules.specs.Refusals.Outcome.{fine}
use Rattle.rules.specs.Names.{declared}
use Rattle.rules.specs.Counting.{events_of}
use Rattle.rules.specs.Tables.{Counts, no_rows, Room, fill}
use Rattle.rules.specs.Calls.{Filled, fill_declared, fill_tables}
use Rattle.laws.proofs.TablesFilled.{filled}
use Rattle.laws.proofs.TablesRoom.{Bounded, then_bounded, all_declared, declare_bounded, fits, fill_bounded}

-- the tables that a tree's count fills
abbrev pub counts : Chain → Counts
counts c = filled (events_of c) no_rows

-- the rows of declared that a pass has
abbrev pub declared_rows : Chain → (held : List Name) → List Name
declared_rows c [] = all_declared (declared c) []
declared_rows c (n ∷ ns) = n ∷ ns

-- they fit
abbrev pub declared_fit : Room → Chain → (held : List Name) → Bool
declared_fit space c [] = leb (length (all_declared (declared c) [])) space.declared
declared_fit space c (n ∷ ns) = true

-- the tables that a pass has, where they fit
abbrev pub tables_of : Chain → (held : List Name) → Filled
tables_of c held = record { declared = declared_rows c held; counts = counts c }

-- all of them fit
abbrev pub tables_fit : Room → Chain → (held : List Name) → Bool
tables_fit space c held = declared_fit space c held && fits space (counts c)

fill_declared_bounded : (space : Room) (c : Chain) (held : List Name) → Bounded (declared_fit space c held) (declared_rows c held) (fill_declared space c held)
fill_declared_bounded space c [] = declare_bounded space.declared (declared c)
fill_declared_bounded space c (n ∷ ns) = (refl, refl)

pub fill_tables_bounded : (space : Room) (c : Chain) (held : List Name) → Bounded (tables_fit space c held) (tables_of c held) (fill_tables space c held)
fill_tables_bounded space c held =
    let d = declared_fit space c held in
    let f = fits space (counts c) in
    then_bounded (fill_declared space c held) _ d (declared_rows c held) (d && f) (tables_of c held) (fill_declared_bounded space c held)
    (λ p. then_bounded (fill space (events_of c) no_rows) _ f (counts c) (d && f) (tables_of c held) (fill_bounded space (events_of c))
    (λ q. (and_from d f p q, refl))
    (λ q. and_right d f q))
    (λ p. and_left d f p)

-- what a filling with room gives counts the tree
pub fill_tables_counts : (space : Room) (c : Chain) (held : List Name) (f : Filled) → fill_tables space c held ≡ fine f → f.counts ≡ counts c
fill_tables_counts space c held f e =
    ap (λ (g : Filled). g.counts) (subst (Bounded (tables_fit space c held) (tables_of c held)) e (fill_tables_bounded space c held)).1
