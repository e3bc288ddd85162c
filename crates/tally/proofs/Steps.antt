-- The steps of one event, in words and in the book: a name's row is needed, an edge's row is needed, each grows.
-- Words that hold the book's rows before a step hold them after it, or both are refused alike.
--
--   Rowed, rowed_less            words that hold rows to whose counts k can still be added
--   RowOfName, name_step         a name's row is needed
--   RowOfEdge, edge_step         an edge's row is needed
--   edge_grows, name_grows       an edge grows, a name grows
use Rattle.std.proofs.Common.{◌≡◌, ℕ, suc, ◌-◌, ◌/◌, ◌^◌, ◌<◌, ◌≤◌, Bool, true, false, List, [], ◌∷◌, length, is_some, Some, None, sym, refl, ap, ◌∙◌, subst, inl, inr, arith}
use Rattle.std.proofs.lemmas.Bool.{cond-true}
use Rattle.rules.specs.Tree.{Name}
use Rattle.rules.specs.Refusals.{names_full, edges_full}
use Rattle.rules.specs.Counting.{Event}
use Rattle.rules.specs.Tables.{NameRow, EdgeRow, Counts, Room, some_row, need, change, fresh, row_of, edge_of, row_number, reads, writes, need_name, need_edge, grow_edge, grow_name, names_width, edges_width}
use Rattle.rules.proofs.Outcomes.{Alike, alike_then}
use Rattle.tables.specs.declared.edge_row.Edge.{Edge}
use Rattle.tables.specs.Counts.{more_counts, with_counted}
use Rattle.tables.specs.Held.{changed}
use Rattle.tables.specs.Living.{first_row, change_nth}
use Rattle.tables.specs.Matching.{name_words, edge_words, NamesHeld, EdgesHeld, Present, Known, new_edge, grown, marked}
use Rattle.tables.specs.Ready.{Distinct}
use Rattle.tables.proofs.Changing.{length_change}
use Rattle.tables.proofs.Numbering.{first_some, numbered_first, number_more, present_more}
use Rattle.tables.proofs.Matched.{names_told, names_changed, names_change, edges_told, edges_changed, edges_change, edges_stay}
use Rattle.data.specs.Events.{Placed, name_placed, edge_placed, Tables, tables, made_entry}
use Rattle.data.specs.Filling.{id_of}
use Rattle.tally.proofs.Needed.{RowThere, RowPlaced, row_placed}
use Rattle.tally.proofs.Rows.{Light, LightEdges, light_less, light_edges_less, light_push, light_edges_push, known_push, distinct_push, change_twice, change_none, names_kept, distinct_named, known_change, grows, grows_edge, light_grows, light_edges_grow, made, grown_is, heavier_is}

-- words that hold the book's rows, to each of whose counts k can still be added
pub record Rowed (k : ℕ) (found found' : List ℕ) (t : Tables) (c : Counts) : Type 0 where
  pub fits : k < 2 ^ 32
  pub distinct : Distinct c.names
  pub light : Light k c.names
  pub known : Known c.names c.edges
  pub light_edges : LightEdges k c.edges
  pub names_held : NamesHeld found c.names t.names
  pub edges_held : EdgesHeld c.names found' c.edges t.edges

pub rowed_less : (j k : ℕ) (found found' : List ℕ) (t : Tables) (c : Counts) → j ≤ k → Rowed k found found' t c → Rowed j found found' t c
rowed_less j k found found' t c l s =
    record {
      fits = let q = s.fits in omega arith;
      distinct = s.distinct;
      light = light_less j k c.names l s.light;
      known = s.known;
      light_edges = light_edges_less j k c.edges l s.light_edges;
      names_held = s.names_held;
      edges_held = s.edges_held;
    }

-- a first row is there
first_there : {Row : Type 0} (is_it : Row → Bool) (rs : List Row) (n : ℕ) → first_row is_it rs ≡ Some n → some_row is_it rs ≡ true
first_there is_it rs n e = sym (first_some is_it 0 rs) ∙ ap is_some e

-- a name's first row is its number
first_number : (n : Name) (rs : List NameRow) (row : ℕ) → first_row (row_of n) rs ≡ Some row → row ≡ row_number n rs
first_number n rs row e =
    let q : Some row ≡ Some (row_number n rs) =
    sym e ∙ numbered_first n rs ∙ cond-true (some_row (row_of n) rs) (Some (row_number n rs)) None (first_there (row_of n) rs row e) in
    cc

-- rows of names with more behind them, beside edges
record More (k : ℕ) (found' : List ℕ) (names more : List NameRow) (es : List EdgeRow) (words : List ℕ) : Type 0 where
  distinct : Distinct more
  light : Light k more
  known : Known more es
  edges_held : EdgesHeld more found' es words
  keeps : (m : Name) → Present names m → Present more m
  numbers : (m : Name) → Present names m → row_number m more ≡ row_number m names

module _ (found found' : List ℕ) where
  more_of : (k : ℕ) (n : Name) (t : Tables) (c : Counts) (more : List NameRow) → Rowed k found found' t c
      → RowThere (row_of n) (fresh n) names_width name_words found c.names more → More k found' c.names more c.edges t.edges
  more_of k n t c more s there =
      let es = c.edges in
      elim there [
        | inl e ↦ subst (λ (x : List NameRow). More k found' c.names x es t.edges) (sym e)
            (record { distinct = s.distinct; light = s.light; known = s.known; edges_held = s.edges_held; keeps = λ m p. p; numbers = λ m p. refl })
        | inr (none, e) ↦ subst (λ (x : List NameRow). More k found' c.names x es t.edges) (sym e)
            (let stay = (edges_stay c.names (fresh n ∷ []) c.names found' es t.edges s.known s.edges_held).0 in
            record {
              distinct = distinct_push n c.names none s.distinct;
              light = light_push k c.names n s.fits s.light;
              known = stay.1;
              edges_held = stay.0;
              keeps = λ m p. present_more m c.names (fresh n ∷ []) p;
              numbers = λ m p. number_more m c.names (fresh n ∷ []) p;
            })
      ]

  -- a name's row in words, and the book's rows with it
  pub record RowOfName (k : ℕ) (n : Name) (t : Tables) (c : Counts) (p : Placed) (c' : Counts) : Type 0 where
    pub rowed : Rowed k found found' (tables p.words t.edges) c'
    pub there : Present c'.names n
    pub row : p.row ≡ row_number n c'.names
    pub keeps : (m : Name) → Present c.names m → Present c'.names m
    pub numbers : (m : Name) → Present c.names m → row_number m c'.names ≡ row_number m c.names

  name_row : (k : ℕ) (n : Name) (t : Tables) (c : Counts) (p : Placed) (more : List NameRow) → Rowed k found found' t c
      → RowPlaced (row_of n) (fresh n) names_width name_words found c.names p more → RowOfName k n t c p (record { names = more; edges = c.edges })
  name_row k n t c p more s r =
      let m = more_of k n t c more s r.there in
      record {
        rowed = record {
          fits = s.fits;
          distinct = m.distinct;
          light = m.light;
          known = m.known;
          light_edges = s.light_edges;
          names_held = r.held;
          edges_held = m.edges_held;
        };
        there = first_there (row_of n) more p.row r.first;
        row = first_number n more p.row r.first;
        keeps = m.keeps;
        numbers = m.numbers;
      }

  -- an edge's row in words, and the book's rows with it
  pub record RowOfEdge (k : ℕ) (a b : Name) (t : Tables) (p : Placed) (c' : Counts) : Type 0 where
    pub rowed : Rowed k found found' (tables t.names p.words) c'
    pub first : first_row (edge_of a b) c'.edges ≡ Some p.row

  edge_row : (k : ℕ) (a b : Name) (t : Tables) (c : Counts) (p : Placed) (more : List EdgeRow) → Rowed k found found' t c → Present c.names a → Present c.names b
      → RowPlaced (edge_of a b) (new_edge a b) edges_width (edge_words c.names) found' c.edges p more → RowOfEdge k a b t p (record { names = c.names; edges = more })
  edge_row k a b t c p more s pa pb r =
      let both : Known c.names more × LightEdges k more =
      elim r.there [
        | inl e ↦ subst (λ (x : List EdgeRow). Known c.names x × LightEdges k x) (sym e) (s.known, s.light_edges)
        | inr (none, e) ↦ subst (λ (x : List EdgeRow). Known c.names x × LightEdges k x) (sym e)
            (known_push c.names c.edges a b pa pb s.known, light_edges_push k c.edges a b s.fits s.light_edges)
      ] in
      record {
        rowed = record {
          fits = s.fits;
          distinct = s.distinct;
          light = s.light;
          known = both.0;
          light_edges = both.1;
          names_held = s.names_held;
          edges_held = r.held;
        };
        first = r.first;
      }

  module _ (space : Room) (en : space.names ≡ length found / names_width) (ee : space.edges ≡ length found' / edges_width) where
    pub name_step : (k at : ℕ) (n : Name) (t : Tables) (c : Counts) → 0 < n.symbol → Rowed k found found' t c
        → Alike (RowOfName k n t c) (name_placed (id_of n) at t.names) (need_name space at n c)
    unfolding name_placed
    name_step k at n t c z s =
        let Is = RowPlaced (row_of n) (fresh n) names_width name_words found c.names in
        alike_then Is (RowOfName k n t c)
        (name_placed (id_of n) at t.names) (need (row_of n) (fresh n) space.names names_full at c.names)
        (λ more. record { names = more; edges = c.edges })
        (subst (λ (j : ℕ). Alike Is (name_placed (id_of n) at t.names) (need (row_of n) (fresh n) j names_full at c.names)) (sym en)
        (row_placed (row_of n) (fresh n) names_width name_words found c.names names_full at t.names _ _
        (names_told (id_of n) at t.names _ _ refl refl found c.names z s.names_held)))
        (λ p more r. name_row k n t c p more s r)

    -- by the rows of its two names
    pub edge_step : (k at : ℕ) (a b : Name) (edge : Edge) (t : Tables) (c : Counts) → edge.from ≡ row_number a c.names → edge.to ≡ row_number b c.names
        → Present c.names a → Present c.names b → Rowed k found found' t c
        → Alike (RowOfEdge k a b t) (edge_placed edge at t.edges) (need_edge space at a b c)
    unfolding edge_placed
    edge_step k at a b edge t c fa fb pa pb s =
        let Is = RowPlaced (edge_of a b) (new_edge a b) edges_width (edge_words c.names) found' c.edges in
        alike_then Is (RowOfEdge k a b t)
        (edge_placed edge at t.edges) (need (edge_of a b) (new_edge a b) space.edges edges_full at c.edges)
        (λ more. record { names = c.names; edges = more })
        (subst (λ (j : ℕ). Alike Is (edge_placed edge at t.edges) (need (edge_of a b) (new_edge a b) j edges_full at c.edges)) (sym ee)
        (row_placed (edge_of a b) (new_edge a b) edges_width (edge_words c.names) found' c.edges edges_full at t.edges _ _
        (edges_told edge at t.edges _ _ refl refl c.names found' c.edges a b s.known pa pb fa fb s.edges_held)))
        (λ p more r. edge_row k a b t c p more s pa pb r)

  pub edge_grows : (k : ℕ) (e : Event) (a : Name) (n : ℕ) (t : Tables) (c : Counts) → Rowed (suc k) found found' t c → first_row (edge_of a e.name) c.edges ≡ Some n
      → Rowed k found found' (tables t.names (changed edges_width n (more_counts (reads e) (writes e)) t.edges)) (grow_edge e a c)
  edge_grows k e a n t c s f =
      let es = c.edges in
      let words = changed edges_width n (more_counts (reads e) (writes e)) t.edges in
      let there = edges_change es a e.name n (grows_edge e) f in
      let grew = change_nth (n - 1) (grows_edge e) es in
      let one = light_edges_less 1 (suc k) es (omega arith) s.light_edges in
      let held : EdgesHeld c.names found' grew words =
      subst (λ (x : List EdgeRow). EdgesHeld c.names found' x words) (heavier_is e (n - 1) es one)
      (edges_changed c.names found' es t.edges n (reads e) (writes e) s.edges_held there.0 there.1) in
      subst (λ (x : List EdgeRow). Rowed k found found' (tables t.names words) (record { names = c.names; edges = x })) (sym there.2)
      (record {
        fits = let q = s.fits in omega arith;
        distinct = s.distinct;
        light = light_less k (suc k) c.names (omega arith) s.light;
        known = known_change c.names (n - 1) (grows_edge e) (λ r. refl) (λ r. refl) es s.known;
        light_edges = light_edges_grow k e (n - 1) es s.light_edges;
        names_held = s.names_held;
        edges_held = held;
      })

  -- a row that may become an entry, in words
  made_held : (b : Bool) (rs : List NameRow) (words : List ℕ) (n : ℕ) → NamesHeld found rs words → 0 < n → n ≤ length rs
      → NamesHeld found (change_nth (n - 1) (made b) rs) (made_entry b n words)
  made_held true rs words n h p l = (names_changed found rs words n 0 0 h p l).2
  made_held false rs words n h p l = subst (λ (x : List NameRow). NamesHeld found x words) (change_none (n - 1) rs) h

  pub name_grows : (k : ℕ) (e : Event) (row : ℕ) (t : Tables) (c : Counts) → Rowed (suc k) found found' t c → Present c.names e.name → row ≡ row_number e.name c.names
      → Rowed k found found'
      (tables (changed names_width row with_counted (made_entry e.entry row (changed names_width row (more_counts (reads e) (writes e)) t.names))) t.edges)
      (grow_name e c)
  name_grows k e row t c s p q =
      let rs = c.names in
      let there = names_change rs e.name (grows e) p in
      let above : 0 < row = subst (λ (j : ℕ). 0 < j) (sym q) there.0 in
      let within : row ≤ length rs = subst (λ (j : ℕ). j ≤ length rs) (sym q) there.1 in
      let j = row - 1 in
      let same : change (row_of e.name) (grows e) rs ≡ change_nth j (grows e) rs = there.2 ∙ ap (λ (i : ℕ). change_nth (i - 1) (grows e) rs) (sym q) in
      let first = change_nth j (grown (reads e) (writes e)) rs in
      let second = change_nth j (made e.entry) first in
      let words₁ = changed names_width row (more_counts (reads e) (writes e)) t.names in
      let words₂ = made_entry e.entry row words₁ in
      let words₃ = changed names_width row with_counted words₂ in
      let long₁ = length_change rs j (grown (reads e) (writes e)) in
      let long₂ = length_change first j (made e.entry) in
      let held₁ : NamesHeld found first words₁ = (names_changed found rs t.names row (reads e) (writes e) s.names_held above within).0 in
      let held₂ : NamesHeld found second words₂ = made_held e.entry first words₁ row held₁ above (omega arith) in
      let held₃ : NamesHeld found (change_nth j marked second) words₃ = (names_changed found second words₂ row 0 0 held₂ above (omega arith)).3 in
      let all : change_nth j marked second ≡ change_nth j (grows e) rs =
      ap (change_nth j marked) (change_twice j (made e.entry) (grown (reads e) (writes e)) rs)
      ∙ change_twice j marked (λ r. made e.entry (grown (reads e) (writes e) r)) rs
      ∙ grown_is e j rs (light_less 1 (suc k) rs (omega arith) s.light) in
      let grew = change_nth j (grows e) rs in
      let kept = names_kept j (grows e) (λ r. refl) rs in
      let stay = (edges_stay rs [] grew found' c.edges t.edges s.known s.edges_held).1 kept in
      subst (λ (x : List NameRow). Rowed k found found' (tables words₃ t.edges) (record { names = x; edges = c.edges })) (sym same)
      (record {
        fits = let z = s.fits in omega arith;
        distinct = distinct_named rs grew kept s.distinct;
        light = light_grows k e j rs s.light;
        known = stay.1;
        light_edges = light_edges_less k (suc k) c.edges (omega arith) s.light_edges;
        names_held = subst (λ (x : List NameRow). NamesHeld found x words₃) all held₃;
        edges_held = stay.0;
      })
