-- The three tables against the book. Each statement is one about tables that hold rows, at the words of the table's rows;
-- what is proved here besides is that those words are the book's, and that keys of rows are the book's tests.
use Rattle.std.specs.Prelude.{if◌then◌else◌}
use Rattle.std.proofs.Common.{◌≡◌, ℕ, ◌+◌, ◌-◌, ◌*◌, ◌/◌, ◌<◌, ◌≤◌, Bool, true, false, ◌&&◌, eqb, ltb, List, [], ◌∷◌, ◌++◌, map, length, get_or, is_some, Some, None, Ok, Err, Option, Result, sym, refl, ap, ◌∙◌, subst, inl, ⊎_elim, arith}
use Rattle.std.specs.List.{flat_map}
use Rattle.std.proofs.lemmas.List.{length-map}
use Rattle.std.proofs.lemmas.Bool.{cond-true, cond-false, cases_Bool, eqb-true, eqb-false, ltb-true, and_from}
use Rattle.rules.specs.Tree.{Name}
use Rattle.rules.specs.Refusals.{declared_full, names_full, edges_full}
use Rattle.rules.specs.Refusals.Outcome.{fine, refused}
use Rattle.rules.specs.Names.{same}
use Rattle.rules.specs.Tables.{NameRow, EdgeRow, some_row, need, change, fresh, row_of, edge_of, bit, row_number, declared_width, names_width, edges_width, declared_in_words, names_in_words, edges_in_words, table, read_declared}
use Rattle.records.specs.declared.id.Id.{Id}
use Rattle.records.specs.Ids.{name_of_id}
use Rattle.tables.specs.declared.fault.TableFault.{TableFault}
use Rattle.tables.specs.declared.fault.TableFault.TheVariants.{Declared, Names, Edges}
use Rattle.tables.specs.declared.edge_row.Edge.{Edge}
use Rattle.tables.specs.Living.{rows, used, free, first_row, added, put_row, nth, change_nth}
use Rattle.tables.specs.Faults.{number, place}
use Rattle.tables.specs.Held.{Proper, Holds}
use Rattle.tables.specs.Inserting.{answered, placed}
use Rattle.tables.specs.Counts.{more_counts, less_counts, with_entry, with_counted}
use Rattle.tables.specs.Matching.{id_words, name_words, edge_words, NamesHeld, EdgesHeld, Named, names_of, id_keyed, ends_keyed, Needed, RowNeeded, Present, Known, new_edge, ends_of, ends_words, grown, shrunk, entered, marked, heavier}
use Rattle.tables.specs.Matching.{DeclaredWords, DeclaredRead, DeclaredBack, DeclaredNeeded, DeclaredNeed, NamesWords, NamesFound, NamesNumbered, NamesNeeded, NamesNeed, NamesRead, NamesChanged, NamesChange, EdgesWords, EdgesFound, EdgesNeeded, EdgesNeed, EdgesRead, EdgesChanged, EdgesChange, EdgesStay}
use Rattle.tables.proofs.Cutting.{rows_none, rows_end, rows_cons}
use Rattle.rules.proofs.SameNames.{same_refl}
use Rattle.tables.proofs.Adding.{first_next}
use Rattle.tables.proofs.Holding.{holds_rows, holds_used, holds_length, holds_more}
use Rattle.tables.proofs.Changing.{holds_there, holds_word, holds_changed, nth_below}
use Rattle.tables.proofs.Numbering.{first_map, first_some, first_at, first_alike, Agree, numbered_first, look_first, number_positive, numbers_same, present_more, number_more, number_named, present_named}

-- a row that passes is there, or comes last
module _ {Row : Type 0} (is_it : Row → Bool) (new : Row) (w : ℕ) (in_words : Row → List ℕ) (found : List ℕ) (full at : ℕ) (rs : List Row) (t : List ℕ)
    (some : 0 < w) (h : Holds w in_words found rs t) (long : length (in_words new) ≡ w) (first : 0 < get_or (in_words new) 0 0) (is_new : is_it new ≡ true) where
  -- a row is free exactly if the book has space
  same_test : free w t ≡ ltb (length rs) (length found / w)
  same_test =
      ap (λ n. ltb n (length t / w)) (holds_used w in_words some found rs t h)
      ∙ ap (λ n. ltb (length rs) (n / w)) (holds_length w in_words some found rs t h)

  by_answer : (o : Option ℕ) → first_row is_it rs ≡ o → Needed is_it new w in_words found full at rs t o
  by_answer (Some n) e = (
    e,
    cond-true (some_row is_it rs) (fine rs) (if ltb (length rs) (length found / w) then fine (rs ++ (new ∷ [])) else refused full at)
        (sym (first_some is_it 0 rs) ∙ ap is_some e),
  )
  by_answer None e =
      let space = length found / w in
      let row_or_not = if ltb (length rs) space then fine (rs ++ (new ∷ [])) else refused full at in
      let none = sym (first_some is_it 0 rs) ∙ ap is_some e in
      let asked : need is_it new space full at rs ≡ row_or_not = cond-false (some_row is_it rs) (fine rs) row_or_not none in (
        e,
        (λ (f : free w t ≡ true). (
          asked ∙ cond-true (ltb (length rs) space) (fine (rs ++ (new ∷ []))) (refused full at) (sym same_test ∙ f),
          subst (Holds w in_words found (rs ++ (new ∷ []))) (sym (cond-true (free w t) (put_row (used w t * w) (in_words new) t) t f))
              (holds_more w in_words some found rs t h new (ltb-true (length rs) space (sym same_test ∙ f)) long first),
          first_next is_it 0 rs [] new e is_new
              ∙ ap Some (let u = holds_used w in_words some found rs t h in let q : 0 + length rs + 1 ≡ used w t + 1 = omega arith in q),
        )),
        (λ (f : free w t ≡ false). asked ∙ cond-false (ltb (length rs) space) (fine (rs ++ (new ∷ []))) (refused full at) (sym same_test ∙ f)),
      )

  -- at the answer of `find`
  pub needed : (o : Option ℕ) → o ≡ first_row is_it rs → Needed is_it new w in_words found full at rs t o
  needed o e = by_answer o (sym e)

  -- what `need` answers and leaves
  as_book : (fault : TableFault) → number fault ≡ full → place fault ≡ at → (o : Option ℕ) → Needed is_it new w in_words found full at rs t o
      → RowNeeded is_it new w in_words found full at rs t (placed w (in_words new) t o) (answered w fault t o)
  as_book fault nf pf (Some n) e = (rs, e.1, h, e.0)
  as_book fault nf pf None e =
      ⊎_elim
      (λ (f : free w t ≡ true).
      subst (RowNeeded is_it new w in_words found full at rs t (added w (in_words new) t)) (sym (cond-true (free w t) (Ok (used w t + 1)) (Err fault) f))
      (let y = e.1 f in (rs ++ (new ∷ []), y.0, y.1, y.2)))
      (λ (f : free w t ≡ false).
      subst (RowNeeded is_it new w in_words found full at rs t (added w (in_words new) t)) (sym (cond-false (free w t) (Ok (used w t + 1)) (Err fault) f)) (
        e.2 f ∙ ap (λ x. refused x at) (sym nf) ∙ ap (λ x. refused (number fault) x) (sym pf),
        cond-false (free w t) (put_row (used w t * w) (in_words new) t) t f,
      ))
      (cases_Bool (free w t))

  pub need_told : (fault : TableFault) → number fault ≡ full → place fault ≡ at → (o : Option ℕ) → Needed is_it new w in_words found full at rs t o
      → (u : List ℕ) (r : Result ℕ TableFault) → r ≡ answered w fault t o → u ≡ placed w (in_words new) t o → RowNeeded is_it new w in_words found full at rs t u r
  need_told fault nf pf o e u r er eu =
      subst (λ x. RowNeeded is_it new w in_words found full at rs t x r) (sym eu)
      (subst (RowNeeded is_it new w in_words found full at rs t (placed w (in_words new) t o)) (sym er) (as_book fault nf pf o e))

-- DECLARED

declared_joined : (ns : List Name) → flat_map id_words ns ≡ declared_in_words ns
declared_joined [] = refl
declared_joined (n ∷ ns) = ap (λ x. n.symbol ∷ n.mark ∷ x) (declared_joined ns)

declared_proper : (ns : List Name) → Named ns → Proper declared_width id_words ns
declared_proper [] h = tt
declared_proper (n ∷ ns) h = (refl, h.0, declared_proper ns h.1)

pub declared_words : DeclaredWords
declared_words found ns words = (
  (λ h. h.is ∙ ap (λ x. table declared_width x found) (declared_joined ns)),
  (λ named room is. record { proper = declared_proper ns named; room = room; is = is ∙ ap (λ x. table declared_width x found) (sym (declared_joined ns)) }),
)

-- the rows of any words are the names that the book reads
rows_read : (words : List ℕ) → rows declared_width words ≡ map id_words (read_declared words)
rows_read [] = rows_none 2 [] (omega arith) (inl (omega arith))
rows_read (s ∷ []) = rows_none 2 (s ∷ []) (omega arith) (inl (omega arith))
rows_read (s ∷ m ∷ words) =
    ⊎_elim
    (λ (b : eqb s 0 ≡ true).
    rows_end 2 (s ∷ m ∷ []) words (omega arith) refl (eqb-true s 0 b)
    ∙ sym (ap (map id_words) (cond-true (eqb s 0) [] (record { symbol = s; mark = m } ∷ read_declared words) b)))
    (λ (b : eqb s 0 ≡ false).
    let z = eqb-false s 0 b in
    rows_cons 2 (s ∷ m ∷ []) words (omega arith) refl (omega arith)
    ∙ ap (λ x. (s ∷ m ∷ []) ∷ x) (rows_read words)
    ∙ sym (ap (map id_words) (cond-false (eqb s 0) [] (record { symbol = s; mark = m } ∷ read_declared words) b)))
    (cases_Bool (eqb s 0))

pub declared_read : DeclaredRead
declared_read words k = (
  ap length (rows_read words) ∙ length-map (read_declared words) id_words,
  ap (first_row (id_keyed k)) (rows_read words) ∙ first_map id_words (id_keyed k) 0 (read_declared words),
  first_some (same (name_of_id k)) 0 (read_declared words),
)

-- names go by their words
words_apart : (ns ms : List Name) → map id_words ns ≡ map id_words ms → ns ≡ ms
words_apart [] [] e = refl
words_apart [] (m ∷ ms) e = cc
words_apart (n ∷ ns) [] e = cc
words_apart (n ∷ ns) (m ∷ ms) e =
    let s : n.symbol ≡ m.symbol = cc in
    let k : n.mark ≡ m.mark = cc in
    let rest : map id_words ns ≡ map id_words ms = cc in
    let one : n ≡ m = λ i. record { symbol = s i; mark = k i } in
    let all = words_apart ns ms rest in
    cc

pub declared_back : DeclaredBack
declared_back found ns words h = words_apart (read_declared words) ns (sym (rows_read words) ∙ holds_rows declared_width id_words (omega arith) found ns words h)

pub declared_needed : DeclaredNeeded
declared_needed found ns words k at h first =
    needed (same (name_of_id k)) (name_of_id k) declared_width id_words found declared_full at ns words (omega arith) h refl first (same_refl (name_of_id k))
    (first_row (id_keyed k) (rows declared_width words))
    (ap (first_row (id_keyed k)) (holds_rows declared_width id_words (omega arith) found ns words h) ∙ first_map id_words (id_keyed k) 0 ns)

-- the answer of `need`
pub declared_told : (k : Id) (at : ℕ) (t u : List ℕ) (r : Result ℕ TableFault)
    → r ≡ answered declared_width (Declared at) t (first_row (id_keyed k) (rows declared_width t))
    → u ≡ placed declared_width (id_words (name_of_id k)) t (first_row (id_keyed k) (rows declared_width t))
    → DeclaredNeed k at t u r
declared_told k at t u r er eu found ns first h =
    need_told (same (name_of_id k)) (name_of_id k) declared_width id_words found declared_full at ns t (omega arith) h refl first (same_refl (name_of_id k))
    (Declared at) refl refl (first_row (id_keyed k) (rows declared_width t)) (declared_needed found ns t k at h first) u r er eu

-- NAMES

names_joined : (rs : List NameRow) → flat_map name_words rs ≡ names_in_words rs
names_joined [] = refl
names_joined (r ∷ rs) = ap (λ x. r.name.symbol ∷ r.name.mark ∷ r.usage ∷ r.assign ∷ bit r.entry ∷ bit r.counted ∷ x) (names_joined rs)

names_proper : (rs : List NameRow) → Named (names_of rs) → Proper names_width name_words rs
names_proper [] h = tt
names_proper (r ∷ rs) h = (refl, h.0, names_proper rs h.1)

pub names_words : NamesWords
names_words found rs words = (
  (λ h. h.is ∙ ap (λ x. table names_width x found) (names_joined rs)),
  (λ named room is. record { proper = names_proper rs named; room = room; is = is ∙ ap (λ x. table names_width x found) (sym (names_joined rs)) }),
)

-- a name that has a row has a first
present_first : (n : Name) (rs : List NameRow) → Present rs n → first_row (row_of n) rs ≡ Some (row_number n rs)
present_first n rs p = numbered_first n rs ∙ cond-true (some_row (row_of n) rs) (Some (row_number n rs)) None p

-- the answer of `find`
names_first : (found : List ℕ) (rs : List NameRow) (words : List ℕ) (k : Id) → NamesHeld found rs words
    → first_row (id_keyed k) (rows names_width words) ≡ first_row (row_of (name_of_id k)) rs
names_first found rs words k h =
    ap (first_row (id_keyed k)) (holds_rows names_width name_words (omega arith) found rs words h) ∙ first_map name_words (id_keyed k) 0 rs

pub names_found : NamesFound
names_found found rs words k h = names_first found rs words k h ∙ numbered_first (name_of_id k) rs

pub names_numbered : NamesNumbered
names_numbered rs n = (
  numbered_first n rs,
  (λ p. ap (λ j. nth (j - 1) rs) (let q : row_number n rs ≡ row_number n rs - 0 = omega arith in q)
      ∙ look_first 0 (row_number n rs) n rs (present_first n rs p)),
)

pub names_needed : NamesNeeded
names_needed found rs words k at h first =
    needed (row_of (name_of_id k)) (fresh (name_of_id k)) names_width name_words found names_full at rs words (omega arith) h refl first (same_refl (name_of_id k))
    (first_row (id_keyed k) (rows names_width words)) (names_first found rs words k h)

pub names_told : (k : Id) (at : ℕ) (t u : List ℕ) (r : Result ℕ TableFault)
    → r ≡ answered names_width (Names at) t (first_row (id_keyed k) (rows names_width t))
    → u ≡ placed names_width (name_words (fresh (name_of_id k))) t (first_row (id_keyed k) (rows names_width t))
    → NamesNeed k at t u r
names_told k at t u r er eu found rs first h =
    need_told (row_of (name_of_id k)) (fresh (name_of_id k)) names_width name_words found names_full at rs t (omega arith) h refl first (same_refl (name_of_id k))
    (Names at) refl refl (first_row (id_keyed k) (rows names_width t)) (names_needed found rs t k at h first) u r er eu

pub names_read : NamesRead
names_read found rs words n r h p e =
    let below = nth_below names_width name_words rs (n - 1) r e in
    let word : (i : ℕ) → i < 6 → _ = λ i. holds_word names_width name_words (omega arith) found rs words h n i r e in
    (holds_there names_width name_words (omega arith) found rs words h n p (omega arith), word 2 (omega arith), word 3 (omega arith), word 4 (omega arith), word 5 (omega arith))

pub names_changed : NamesChanged
names_changed found rs words n usage assign h p l = (
  holds_changed names_width name_words (omega arith) found rs words h n (more_counts usage assign) (grown usage assign) (λ r. (refl, refl, refl)) p l,
  holds_changed names_width name_words (omega arith) found rs words h n (less_counts usage assign) (shrunk usage assign) (λ r. (refl, refl, refl)) p l,
  holds_changed names_width name_words (omega arith) found rs words h n with_entry entered (λ r. (refl, refl, refl)) p l,
  holds_changed names_width name_words (omega arith) found rs words h n with_counted marked (λ r. (refl, refl, refl)) p l,
)

-- the book's change of the first row that passes
change_first : {Row : Type 0} (is_it : Row → Bool) (rs : List Row) (n : ℕ) (to : Row → Row) → first_row is_it rs ≡ Some n
    → (0 < n) × (n ≤ length rs) × (change is_it to rs ≡ change_nth (n - 1) to rs)
change_first is_it rs n to e =
    let f = first_at is_it 0 n rs e in
    let within = f.within in
    (f.above, omega arith, f.changes to ∙ ap (λ j. change_nth (j - 1) to rs) (let q : n - 0 ≡ n = omega arith in q))

pub names_change : NamesChange
names_change rs n to p = change_first (row_of n) rs (row_number n rs) to (present_first n rs p)

-- EDGES

edges_joined : (names : List NameRow) (es : List EdgeRow) → flat_map (edge_words names) es ≡ edges_in_words names es
edges_joined names [] = refl
edges_joined names (e ∷ es) = ap (λ x. row_number e.from names ∷ row_number e.to names ∷ e.usage ∷ e.assign ∷ x) (edges_joined names es)

edges_proper : (names : List NameRow) (es : List EdgeRow) → Proper edges_width (edge_words names) es
edges_proper names [] = tt
edges_proper names (e ∷ es) = (refl, number_positive e.from names, edges_proper names es)

pub edges_words : EdgesWords
edges_words names found es words = (
  (λ h. h.is ∙ ap (λ x. table edges_width x found) (edges_joined names es)),
  (λ room is. record { proper = edges_proper names es; room = room; is = is ∙ ap (λ x. table edges_width x found) (sym (edges_joined names es)) }),
)

-- two numbers of rows are the book's two names
ends_agree : (names : List NameRow) (es : List EdgeRow) (a b : Name) → Known names es → Present names a → Present names b
    → Agree (λ e. ends_keyed (ends_of names a b) (edge_words names e)) (edge_of a b) es
ends_agree names [] a b k pa pb = tt
ends_agree names (e ∷ es) a b k pa pb = (
  ap (λ x. x && eqb (row_number b names) (row_number e.to names)) (numbers_same a e.from names pa k.0)
      ∙ ap (λ x. same a e.from && x) (numbers_same b e.to names pb k.1),
  ends_agree names es a b k.2 pa pb,
)

pub edges_found : EdgesFound
edges_found names found es words a b k pa pb h =
    let key = ends_keyed (ends_of names a b) in (
      ap (first_row key) (holds_rows edges_width (edge_words names) (omega arith) found es words h)
          ∙ first_map (edge_words names) key 0 es
          ∙ first_alike (λ e. key (edge_words names e)) (edge_of a b) 0 es (ends_agree names es a b k pa pb),
      first_some (edge_of a b) 0 es,
    )

pub edges_needed : EdgesNeeded
edges_needed names found es words a b at k pa pb h =
    needed (edge_of a b) (new_edge a b) edges_width (edge_words names) found edges_full at es words (omega arith) h refl
    (number_positive a names) (and_from (same a a) (same b b) (same_refl a) (same_refl b))
    (first_row (ends_keyed (ends_of names a b)) (rows edges_width words))
    (edges_found names found es words a b k pa pb h).0

pub edges_told : (k : Edge) (at : ℕ) (t u : List ℕ) (r : Result ℕ TableFault)
    → r ≡ answered edges_width (Edges at) t (first_row (ends_keyed k) (rows edges_width t))
    → u ≡ placed edges_width (ends_words k) t (first_row (ends_keyed k) (rows edges_width t))
    → EdgesNeed k at t u r
edges_told k at t u r er eu names found es a b known pa pb fa fb h =
    let one : k ≡ ends_of names a b = λ i. record { from = fa i; to = fb i } in
    need_told (edge_of a b) (new_edge a b) edges_width (edge_words names) found edges_full at es t (omega arith) h refl
    (number_positive a names) (and_from (same a a) (same b b) (same_refl a) (same_refl b))
    (Edges at) refl refl (first_row (ends_keyed (ends_of names a b)) (rows edges_width t)) (edges_needed names found es t a b at known pa pb h) u r
    (er ∙ ap (λ x. answered edges_width (Edges at) t (first_row (ends_keyed x) (rows edges_width t))) one)
    (eu ∙ ap (λ x. placed edges_width (ends_words x) t (first_row (ends_keyed x) (rows edges_width t))) one)

pub edges_read : EdgesRead
edges_read names found es words n e h p q =
    let below = nth_below edges_width (edge_words names) es (n - 1) e q in
    let word : (i : ℕ) → i < 4 → _ = λ i. holds_word edges_width (edge_words names) (omega arith) found es words h n i e q in
    (holds_there edges_width (edge_words names) (omega arith) found es words h n p (omega arith), word 0 (omega arith), word 1 (omega arith), word 2 (omega arith), word 3 (omega arith))

pub edges_changed : EdgesChanged
edges_changed names found es words n usage assign h p l =
    holds_changed edges_width (edge_words names) (omega arith) found es words h n (more_counts usage assign) (heavier usage assign) (λ e. (refl, refl, refl)) p l

pub edges_change : EdgesChange
edges_change es a b n to e = change_first (edge_of a b) es n to e

-- edges whose names keep their numbers keep their words
edges_kept : (names us : List NameRow) (es : List EdgeRow) → Known names es → ((n : Name) → Present names n → row_number n us ≡ row_number n names)
    → flat_map (edge_words names) es ≡ flat_map (edge_words us) es
edges_kept names us [] k keeps = refl
edges_kept names us (e ∷ es) k keeps =
    ap (λ x. x ∷ row_number e.to names ∷ e.usage ∷ e.assign ∷ flat_map (edge_words names) es) (sym (keeps e.from k.0))
    ∙ ap (λ x. row_number e.from us ∷ x ∷ e.usage ∷ e.assign ∷ flat_map (edge_words names) es) (sym (keeps e.to k.1))
    ∙ ap (λ x. row_number e.from us ∷ row_number e.to us ∷ e.usage ∷ e.assign ∷ x) (edges_kept names us es k.2 keeps)

held_kept : (names us : List NameRow) (found : List ℕ) (es : List EdgeRow) (words : List ℕ) → Known names es
    → ((n : Name) → Present names n → row_number n us ≡ row_number n names) → EdgesHeld names found es words → EdgesHeld us found es words
held_kept names us found es words k keeps h =
    record { proper = edges_proper us es; room = h.room; is = h.is ∙ ap (λ x. table edges_width x found) (edges_kept names us es k keeps) }

known_kept : (names us : List NameRow) (es : List EdgeRow) → ((n : Name) → Present names n → Present us n) → Known names es → Known us es
known_kept names us [] keeps k = tt
known_kept names us (e ∷ es) keeps k = (keeps e.from k.0, keeps e.to k.1, known_kept names us es keeps k.2)

pub edges_stay : EdgesStay
edges_stay names more names' found es words k h = (
  (
    held_kept names (names ++ more) found es words k (λ n p. number_more n names more p) h,
    known_kept names (names ++ more) es (λ n p. present_more n names more p) k,
  ),
  (λ (e : names_of names' ≡ names_of names). (
    held_kept names names' found es words k (λ n p. number_named n names names' e) h,
    known_kept names names' es (λ n p. present_named n names names' e ∙ p) k,
  )),
)
