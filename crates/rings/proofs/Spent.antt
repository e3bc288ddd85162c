-- The words of names after one pass over the edges hold the book's discounted rows: row by row each edge that the labels and marks say
-- to be within a closed ring is one that passes in the book.
use Rattle.std.proofs.Common.{◌≡◌, ℕ, ◌+◌, ◌-◌, ◌≤◌, Bool, true, false, not, ◌&&◌, eqb, List, [], ◌∷◌, ◌++◌, map, length, get_or, Some, sym, refl, ap, ◌∙◌, subst, ⊎_elim, append_assoc, append-nil, arith}
use Rattle.std.proofs.lemmas.Bool.{cases_Bool, both_ways, eq-eqb, ne_eqb, cond-true, cond-false}
use Rattle.std.proofs.lemmas.Bool.Decides.{when_true, when_false}
use Rattle.rules.specs.Tree.{Name}
use Rattle.rules.specs.Names.{same, among}
use Rattle.rules.specs.Tables.{NameRow, EdgeRow, Counts, names_width, row_of, row_number, change, bit}
use Rattle.rules.specs.Rings.{component, closed, discount}
use Rattle.rules.proofs.SameNames.{same_eq, same_refl}
use Rattle.tables.specs.Living.{nth, change_nth}
use Rattle.tables.specs.Held.{changed}
use Rattle.tables.specs.Counts.{row_word, entry_word, less_counts}
use Rattle.tables.specs.Matching.{NamesHeld, Present, Known, shrunk, names_of, edge_words}
use Rattle.tables.proofs.Matched.{names_read, names_changed, names_change, names_words}
use Rattle.tables.proofs.Numbering.{number_positive, number_named, present_named}
use Rattle.graph.specs.Graphs.{Components}
use Rattle.rings.specs.Ringed.{passes, lessened, Ready}
use Rattle.rings.specs.Closing.{node, pairs, Closed}
use Rattle.rings.specs.Joining.{node_edge, node_edges, joins}
use Rattle.rings.specs.Marking.{Outside, entered_at, Quiet, Ruled}
use Rattle.rings.specs.Spending.{in_one_ring, less_edge, spent, Discounted}
use Rattle.rings.proofs.Taking.{lessened_none, lessened_more, lessened_all}
use Rattle.rings.proofs.Naming.{node_apart, node_within, labels_component, component_labels}
use Rattle.rings.proofs.Ruling.{closed_by_labels}
use Rattle.rings.proofs.Joined.{edges_held, joins_held}
use Rattle.rings.proofs.Marked.{quiet_closed, closed_quiet}

-- MARKS AND THE BOOK

bit_told : (b : Bool) → not (eqb (bit b) 0) ≡ b
bit_told true = refl
bit_told false = refl

-- an entry by its word is one by its row
entered_held : (found : List ℕ) (rs : List NameRow) (words : List ℕ) → NamesHeld found rs words → (v : ℕ) (r : NameRow) → nth v rs ≡ Some r → entered_at words v ≡ r.entry
entered_held found rs words h v r e =
    let q = names_read found rs words (v + 1) r h (omega arith) (ap (λ j. nth j rs) (let q : v + 1 - 1 ≡ v = omega arith in q) ∙ e) in
    ap (λ (b : Bool). b && not (eqb (row_word names_width (v + 1) entry_word words) 0)) q.0
    ∙ ap (λ x. not (eqb x 0)) q.3
    ∙ bit_told r.entry

nodes_same : (names : List NameRow) (a b : Name) → Present names a → Present names b → eqb (node names a) (node names b) ≡ same a b
nodes_same names a b pa pb = ⊎_elim
    (λ (s : same a b ≡ true). eq-eqb _ _ (ap (node names) (same_eq a b s)) ∙ sym s)
    (λ (s : same a b ≡ false). ne_eqb _ _ (λ e. both_ways (same a b) s (ap (same a) (sym (node_apart names a b pa pb e)) ∙ same_refl a)) ∙ sym s)
    (cases_Bool (same a b))

-- THE PASS

-- the names of the rows stay
names_stay : (p : EdgeRow → Bool) (xs : List EdgeRow) (rs : List NameRow) → names_of (lessened p xs rs) ≡ names_of rs
names_stay p xs [] = refl
names_stay p xs (r ∷ rs) = ap (λ l. r.name ∷ l) (names_stay p xs rs)

module _ (c : Counts) (found found' names edges labels marks shut : List ℕ) (count : ℕ) (ready : Ready c found found' names edges)
    (long : length labels ≡ length c.names) (told : Components (joins edges) labels count)
    (outside : Outside (joins edges) labels (length (joins edges)) marks) (ruled : Ruled (entered_at names) labels marks shut count) where
  told_names : Components (pairs c.names c.edges) labels count
  told_names = subst (λ (p : List (ℕ × ℕ)). Components p labels count) (joins_held c.names found' c.edges edges ready.edges_held) told

  -- the mark of a name's label says whether it stands in a closed ring
  mark_told : (n : Name) → Present c.names n → eqb (get_or shut (get_or labels (node c.names n) 0) 0) 1 ≡ closed c n
  mark_told n p =
      let label = get_or labels (node c.names n) 0 in
      let w = node_within c.names n p in
      let low = told.below (node c.names n) (omega arith) in
      let verdict = ruled label low in
      let book = closed_by_labels c labels count (entered_at names) ready.distinct ready.known long told_names (entered_held found c.names names ready.names_held) n p in
      let same_edges = joins_held c.names found' c.edges edges ready.edges_held in
      let Q = Quiet (entered_at names) labels marks label in
      let L = (get_or shut label 0 ≡ 0) × (Q → ⊥) in
      ⊎_elim
      (λ (g : closed c n ≡ true).
      let k = subst (λ (es : List (ℕ × ℕ)). Closed (entered_at names) es labels label) (sym same_edges) (book.0 g) in
      let q = closed_quiet (entered_at names) (joins edges) labels marks label outside k in
      ⊎_elim (λ (t : eqb (get_or shut label 0) 1 ≡ true). t ∙ sym g)
      (λ (t : eqb (get_or shut label 0) 1 ≡ false). absurd ((when_false Q L t verdict).1 q))
      (cases_Bool (eqb (get_or shut label 0) 1)))
      (λ (g : closed c n ≡ false).
      ⊎_elim
      (λ (t : eqb (get_or shut label 0) 1 ≡ true).
      let k = quiet_closed (entered_at names) (joins edges) labels marks label told.inside.targets outside (when_true Q L t verdict) in
      absurd (both_ways (closed c n) g (book.1 (subst (λ (es : List (ℕ × ℕ)). Closed (entered_at names) es labels label) same_edges k))))
      (λ (t : eqb (get_or shut label 0) 1 ≡ false). t ∙ sym g)
      (cases_Bool (eqb (get_or shut label 0) 1)))
      (cases_Bool (closed c n))

  label_told : (a b : Name) → Present c.names a → Present c.names b
      → eqb (get_or labels (node c.names a) 0) (get_or labels (node c.names b) 0) ≡ among a (component c.edges b)
  label_told a b pa pb = ⊎_elim
      (λ (t : among a (component c.edges b) ≡ true).
      eq-eqb _ _ (sym (component_labels c.names c.edges labels count ready.known long told_names b a pb pa t)) ∙ sym t)
      (λ (t : among a (component c.edges b) ≡ false).
      ne_eqb _ _ (λ e. both_ways (among a (component c.edges b)) t (labels_component c.names c.edges labels count ready.known long told_names b a pb pa (sym e))) ∙ sym t)
      (cases_Bool (among a (component c.edges b)))

  -- an edge that is within a closed ring by its nodes is one that passes
  ring_told : (e : EdgeRow) → Present c.names e.from → Present c.names e.to
      → in_one_ring labels shut (node c.names e.from) (node c.names e.to) ≡ passes c e
  ring_told e pa pb =
      let f = node c.names e.from in
      let t = node c.names e.to in
      ap (λ (x : Bool). not x && (eqb (get_or labels f 0) (get_or labels t 0) && eqb (get_or shut (get_or labels t 0) 0) 1)) (nodes_same c.names e.from e.to pa pb)
      ∙ ap (λ (x : Bool). not (same e.from e.to) && (x && eqb (get_or shut (get_or labels t 0) 0) 1)) (label_told e.from e.to pa pb)
      ∙ ap (λ (x : Bool). not (same e.from e.to) && (among e.from (component c.edges e.to) && x)) (mark_told e.to pb)

  -- after one more edge the words hold the rows less its weights too
  edge_spent : (xs : List EdgeRow) (e : EdgeRow) (words : List ℕ) → Present c.names e.from → Present c.names e.to
      → NamesHeld found (lessened (passes c) xs c.names) words
      → NamesHeld found (lessened (passes c) (xs ++ (e ∷ [])) c.names) (less_edge labels shut (node_edge (edge_words c.names e)) words)
  edge_spent xs e words pa pb held =
      let rs : List NameRow = lessened (passes c) xs c.names in
      let n : ℕ = node c.names e.to + 1 in
      let test : in_one_ring labels shut (node c.names e.from) (node c.names e.to) ≡ passes c e = ring_told e pa pb in
      let to = shrunk e.usage e.assign in
      let less : List ℕ = changed names_width n (less_counts e.usage e.assign) words in
      let rows_are = lessened_more (passes c) xs e c.names ready.distinct in
      ⊎_elim
      (λ (t : passes c e ≡ true).
      let stay = names_stay (passes c) xs c.names in
      let number = number_named e.to c.names rs stay in
      let positive = number_positive e.to c.names in
      let book = names_change rs e.to to (present_named e.to c.names rs stay ∙ pb) in
      let within : row_number e.to rs ≤ length rs = book.1 in
      let n_is : n ≡ row_number e.to rs = omega arith in
      let new = (names_changed found rs words n e.usage e.assign held (omega arith) (omega arith)).1 in
      subst (λ (l : List NameRow). NamesHeld found l (less_edge labels shut (node_edge (edge_words c.names e)) words))
      (sym (rows_are ∙ cond-true (passes c e) (change (row_of e.to) to rs) rs t ∙ book.2 ∙ ap (λ j. change_nth (j - 1) to rs) (sym n_is)))
      (subst (λ (l : List ℕ). NamesHeld found (change_nth (n - 1) to rs) l) (sym (cond-true _ less words (test ∙ t))) new))
      (λ (t : passes c e ≡ false).
      subst (λ (l : List NameRow). NamesHeld found l (less_edge labels shut (node_edge (edge_words c.names e)) words))
      (sym (rows_are ∙ cond-false (passes c e) (change (row_of e.to) to rs) rs t))
      (subst (λ (l : List ℕ). NamesHeld found rs l) (sym (cond-false _ less words (test ∙ t))) held))
      (cases_Bool (passes c e))

  -- and so on to the last
  spent_held : (xs ys : List EdgeRow) (words : List ℕ) → Known c.names ys → NamesHeld found (lessened (passes c) xs c.names) words
      → NamesHeld found (lessened (passes c) (xs ++ ys) c.names) (spent labels shut (map node_edge (map (edge_words c.names) ys)) words)
  spent_held xs [] words known held = subst (λ (l : List EdgeRow). NamesHeld found (lessened (passes c) l c.names) words) (sym (append-nil xs)) held
  spent_held xs (e ∷ ys) words known held =
      let after = less_edge labels shut (node_edge (edge_words c.names e)) words in
      subst (λ (l : List EdgeRow). NamesHeld found (lessened (passes c) l c.names) (spent labels shut (map node_edge (map (edge_words c.names) ys)) after))
      (append_assoc xs (e ∷ []) ys)
      (spent_held (xs ++ (e ∷ [])) ys after known.2 (edge_spent xs e words known.0 known.1 held))

  pub spent_all : NamesHeld found (discount c) (spent labels shut (node_edges edges) names)
  spent_all =
      let none = subst (λ (rs : List NameRow). NamesHeld found rs names) (sym (lessened_none (passes c) c.names ready.small)) ready.names_held in
      subst (λ es. NamesHeld found (discount c) (spent labels shut es names)) (sym (edges_held c.names found' c.edges edges ready.edges_held))
      (subst (λ (rs : List NameRow). NamesHeld found rs (spent labels shut (map node_edge (map (edge_words c.names) c.edges)) names)) (lessened_all c c.names ready.small)
      (spent_held [] c.edges names ready.known none))

-- the words after the whole pass
pub spent_discounted : (names edges labels marks shut : List ℕ) (after : List ℕ) (count : ℕ) → Outside (joins edges) labels (length (joins edges)) marks
    → Ruled (entered_at names) labels marks shut count → after ≡ spent labels shut (node_edges edges) names → Discounted names edges labels count after
spent_discounted names edges labels marks shut after count outside ruled is c found found' ready long told =
    is ∙ (names_words found (discount c) (spent labels shut (node_edges edges) names)).0 (spent_all c found found' names edges labels marks shut count ready long told outside ruled)
