-- Filling the tables: the declared names, then the events of the tree in zeroed words, are the book's.
use Rattle.std.proofs.Common.{◌≡◌, ℕ, true, false, ltb, List, [], ◌∷◌, length, refl, ap, sym, ◌∙◌, subst}
use Rattle.std.proofs.lemmas.Bool.{both_ways}
use Rattle.rules.specs.Tree.{Chain, Name}
use Rattle.rules.specs.Refusals.{Outcome, and_then}
use Rattle.rules.specs.Refusals.Outcome.{fine, refused}
use Rattle.rules.specs.Counting.{events_of}
use Rattle.rules.specs.Held.{Tree}
use Rattle.rules.specs.Tables.{declared_width, Counts, room, fill, no_rows, names_width, edges_width, read_declared}
use Rattle.rules.specs.Calls.{fill_tables, declared_after, zeroed}
use Rattle.tables.specs.Living.{used}
use Rattle.tables.specs.Ready.{Ready}
use Rattle.tables.proofs.Matched.{declared_read}
use Rattle.data.specs.Events.{Tables, tables}
use Rattle.data.specs.Filling.{fill_words}
use Rattle.tally.specs.Tallies.{Told}
use Rattle.tally.proofs.Filling.{filled_told}
use Rattle.analyzer.specs.Declaring.{FilledDeclared, FullDeclared}
use Rattle.analyzer.proofs.Fills.{reads_none}
use Rattle.dce.specs.Filling.{FilledTables, Refused}

-- rows beside words that were filled
counted_by : (n e : List ℕ) (t : Tables) (q : Outcome Counts) → Told n e (fine t) q → (c : Counts) × (q ≡ fine c) × Ready c n e t.names t.edges
counted_by n e t (fine c) told = (c, refl, told)
counted_by n e t (refused number at) told = absurd told

-- a refusal beside one of the words
refused_by : (n e : List ℕ) (number at : ℕ) (q : Outcome Counts) → Told n e (refused number at) q → q ≡ refused number at
refused_by n e number at (fine c) told = absurd told
refused_by n e number at (refused number' at') told = ap (λ k. refused k at') (sym told.0) ∙ ap (λ k. refused number k) (sym told.1)

module _ (words : List ℕ) (tree : Chain) (held : Tree words tree) (d n e n0 e0 d' : List ℕ) (names : n0 ≡ zeroed names_width n) (edges : e0 ≡ zeroed edges_width e) where
  -- the events of the tree in the zeroed words, beside the book's rows
  told : (o : Outcome Tables) → fill_words (events_of tree) (tables n0 e0) ≡ o → Told n e o (fill (room d n e) (events_of tree) no_rows)
  told o is =
      let zeros : tables n0 e0 ≡ tables (zeroed names_width n) (zeroed edges_width e) = ap (λ ns. tables ns e0) names ∙ ap (λ es. tables (zeroed names_width n) es) edges in
      subst (λ (p : Outcome Tables). Told n e p (fill (room d n e) (events_of tree) no_rows)) (sym (ap (λ t. fill_words (events_of tree) t) zeros) ∙ is)
      (filled_told words tree held n e (room d n e) refl refl)

  -- the book's tables, given how declared and how the count ends
  after_declared : FilledDeclared tree d d' → fill_tables (room d n e) tree (read_declared d)
      ≡ and_then (fill (room d n e) (events_of tree) no_rows) (λ counts. fine (record { declared = read_declared d'; counts = counts }))
  after_declared filled =
      ap (λ o. and_then o (λ rows. and_then (fill (room d n e) (events_of tree) no_rows) (λ counts. fine (record { declared = rows; counts = counts })))) (filled.0 (room d n e) refl)

  pub filled_tables : (n' e' : List ℕ) → FilledDeclared tree d d' → fill_words (events_of tree) (tables n0 e0) ≡ fine (tables n' e') → FilledTables tree d n e d' n' e'
  filled_tables n' e' filled is =
      let by = counted_by n e (tables n' e') (fill (room d n e) (events_of tree) no_rows) (told (fine (tables n' e')) is) in
      record {
        filled = record { declared = read_declared d'; counts = by.0 };
        is = after_declared filled ∙ ap (λ o. and_then o (λ counts. fine (record { declared = read_declared d'; counts = counts }))) by.1;
        declared = filled.1;
        read = refl;
        counts = by.2;
      }

  pub full_counts : (number at : ℕ) → FilledDeclared tree d d' → fill_words (events_of tree) (tables n0 e0) ≡ refused number at → Refused tree d n e number at
  full_counts number at filled is =
      after_declared filled
      ∙ ap (λ o. and_then o (λ counts. fine (record { declared = read_declared d'; counts = counts })))
      (refused_by n e number at (fill (room d n e) (events_of tree) no_rows) (told (refused number at) is))

-- a declared without rows that is zeroed again is as the book leaves it
pub emptied : (d d' d'' : List ℕ) → ltb 0 (used declared_width d) ≡ false → zeroed declared_width d' ≡ zeroed declared_width d → d'' ≡ zeroed declared_width d'
    → d'' ≡ declared_after (read_declared d) [] d
emptied d d' d'' none behind zeros = zeros ∙ behind ∙ sym (ap (λ held. declared_after held [] d) (reads_none d none))

after_rows : (held rows : List Name) (d : List ℕ) → ltb 0 (length held) ≡ true → declared_after held rows d ≡ declared_after held [] d
after_rows [] rows d some = absurd (both_ways false refl some)
after_rows (n ∷ ns) rows d some = refl

-- one with rows stays
pub kept : (d d' : List ℕ) (rows : List Name) → ltb 0 (used declared_width d) ≡ true → d' ≡ declared_after (read_declared d) rows d
    → d' ≡ declared_after (read_declared d) [] d
kept d d' rows some is =
    let many = (declared_read d (record { symbol = 0; mark = 0 })).0 in
    is ∙ after_rows (read_declared d) rows d (ap (λ n. ltb 0 n) (sym many) ∙ some)
