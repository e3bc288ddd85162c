-- The words of the three tables as the book's rows: what the operations of the tables come to in the book's words.
--
--   id_words, name_words, edge_words              the words of one row
--   DeclaredHeld, NamesHeld, EdgesHeld            a table's words are those of such rows
--   id_in, ends_in, id_keyed, ends_keyed          the key of a row; the rows with a key, as `find` looks for them
--   numbered                                      the answer of `find` in the book's words
--   Needed                                        `find` and `insert` are the book's `need`
--   RowNeeded                                     the answer of `need`, and what it leaves, are as the book says
--   Present, Known                                names that have rows, and edges between such names
--   new_edge, ends_of, ends_words                 a new edge; the rows of its names; its words by those rows
--   DeclaredNeed, NamesNeed, EdgesNeed            so for each table
--   grown, shrunk, entered, marked, heavier       rows with their counts and flags changed
--   Declared.., Names.., Edges..                  statements about the three tables
use Rattle.std.specs.Prelude.{◌≡◌, ℕ, ◌+◌, ◌-◌, ◌/◌, ◌<◌, ◌≤◌, Bool, true, false, ◌&&◌, List, [], ◌∷◌, ◌++◌, map, length, is_some, Some, None, Option, Result, MatchResult, ◌==◌, slice_index, if◌then◌else◌}
use Rattle.rules.specs.Tree.{Name}
use Rattle.rules.specs.Refusals.{declared_full, names_full, edges_full}
use Rattle.rules.specs.Refusals.Outcome.{fine, refused}
use Rattle.rules.specs.Names.{same}
use Rattle.rules.specs.Tables.{NameRow, EdgeRow, some_row, need, change, fresh, look, row_of, edge_of, bit, row_number, declared_width, names_width, edges_width, declared_in_words, names_in_words, edges_in_words, table, read_declared}
use Rattle.rules.specs.Rings.{minus}
use Rattle.records.specs.declared.id.Id.{Id}
use Rattle.records.specs.Ids.{name_of_id}
use Rattle.tables.specs.declared.fault.TableFault.{TableFault}
use Rattle.tables.specs.declared.edge_row.Edge.{Edge}
use Rattle.tables.specs.Living.{rows, used, free, there, keyed, first_row, nth, change_nth, added}
use Rattle.tables.specs.Faults.{number, place}
use Rattle.tables.specs.Held.{Holds, changed}
use Rattle.tables.specs.Counts.{row_word, plus, usage_word, assign_word, entry_word, counted_word, more_counts, less_counts, with_entry, with_counted}

-- the words of a row of declared
abbrev pub id_words : Name → List ℕ
id_words n = n.symbol ∷ n.mark ∷ []

-- of names
abbrev pub name_words : NameRow → List ℕ
name_words r = r.name.symbol ∷ r.name.mark ∷ r.usage ∷ r.assign ∷ bit r.entry ∷ bit r.counted ∷ []

-- of edges, beside names
abbrev pub edge_words : List NameRow → EdgeRow → List ℕ
edge_words names e = row_number e.from names ∷ row_number e.to names ∷ e.usage ∷ e.assign ∷ []

-- the words, found with others, are those of a declared with these rows
abbrev pub DeclaredHeld : (found : List ℕ) → List Name → List ℕ → Type 0
DeclaredHeld found ns words = Holds declared_width id_words found ns words

-- of a names
abbrev pub NamesHeld : (found : List ℕ) → List NameRow → List ℕ → Type 0
NamesHeld found rs words = Holds names_width name_words found rs words

-- of an edges, beside names
abbrev pub EdgesHeld : List NameRow → (found : List ℕ) → List EdgeRow → List ℕ → Type 0
EdgesHeld names found es words = Holds edges_width (edge_words names) found es words

-- each name has a symbol
abbrev pub Named : List Name → Type 0
Named [] = Unit {0}
Named (n ∷ ns) = (0 < n.symbol) × Named ns

-- the names of rows
abbrev pub names_of : List NameRow → List Name
names_of rs = map (λ r. r.name) rs

-- the key of a row of declared or names
abbrev pub id_in : List ℕ → Id
id_in row = record { symbol = slice_index row 0; mark = slice_index row 1 }

-- the key of a row of edges
abbrev pub ends_in : List ℕ → Edge
ends_in row = record { from = slice_index row 0; to = slice_index row 1 }

-- the rows of declared and names with a key, as `find` looks for them
abbrev pub id_keyed : Id → List ℕ → Bool
id_keyed k = keyed (λ a b. (a.symbol == b.symbol) && a.mark == b.mark) id_in k

-- the rows of edges with a key
abbrev pub ends_keyed : Edge → List ℕ → Bool
ends_keyed k = keyed (λ a b. (a.from == b.from) && a.to == b.to) ends_in k

-- the row of a name, or none
abbrev pub numbered : Name → List NameRow → Option ℕ
numbered n rs = if some_row (row_of n) rs then Some (row_number n rs) else None

-- a row is needed of a table t that holds rows: it is the row that `find` gives, or else `insert` puts it last, if a row is free
abbrev pub Needed : {Row : Type 0} → (Row → Bool) → Row → (width : ℕ) → (Row → List ℕ) → (found : List ℕ) → (full at : ℕ) → List Row → (t : List ℕ) → Option ℕ → Type 0
Needed is_it new width in_words found full at rs t (Some n) =
    (first_row is_it rs ≡ Some n) × (need is_it new (length found / width) full at rs ≡ fine rs)
Needed is_it new width in_words found full at rs t None =
    (first_row is_it rs ≡ None)
    × (free width t ≡ true →
    (need is_it new (length found / width) full at rs ≡ fine (rs ++ (new ∷ [])))
    × Holds width in_words found (rs ++ (new ∷ [])) (added width (in_words new) t)
    × (first_row is_it (rs ++ (new ∷ [])) ≡ Some (used width t + 1)))
    × (free width t ≡ false → need is_it new (length found / width) full at rs ≡ refused full at)

-- r answers which row was needed of a table t that holds rows, and u is what is left of the table: as the book says
abbrev pub RowNeeded : {Row : Type 0} → (Row → Bool) → Row → (width : ℕ) → (Row → List ℕ) → (found : List ℕ) → (full at : ℕ) → List Row → (t u : List ℕ) → Result ℕ TableFault → Type 0
RowNeeded {Row} is_it new width in_words found full at rs t u r =
    MatchResult r
    (λ n. (more : List Row) × (need is_it new (length found / width) full at rs ≡ fine more) × Holds width in_words found more u × (first_row is_it more ≡ Some n))
    (λ e. (need is_it new (length found / width) full at rs ≡ refused (number e) (place e)) × (u ≡ t))

-- a name has a row
abbrev pub Present : List NameRow → Name → Type 0
Present names n = some_row (row_of n) names ≡ true

-- edges between names that have rows
abbrev pub Known : List NameRow → List EdgeRow → Type 0
Known names [] = Unit {0}
Known names (e ∷ es) = Present names e.from × Present names e.to × Known names es

-- an edge before anything is counted
abbrev pub new_edge : (a b : Name) → EdgeRow
new_edge a b = record { from = a; to = b; usage = 0; assign = 0 }

-- its words, by the rows that it leads from and to
abbrev pub ends_words : Edge → List ℕ
ends_words k = k.from ∷ k.to ∷ 0 ∷ 0 ∷ []

-- the rows of two names
abbrev pub ends_of : List NameRow → (a b : Name) → Edge
ends_of names a b = record { from = row_number a names; to = row_number b names }

-- NEED

-- what `need` answers for a key, and what it leaves of the table, is as the book says: for declared, for names, and for edges beside names
abbrev pub DeclaredNeed : Id → (at : ℕ) → (t u : List ℕ) → Result ℕ TableFault → Type 0
DeclaredNeed id at t u r =
    (found : List ℕ) (ns : List Name) → 0 < id.symbol → DeclaredHeld found ns t
    → RowNeeded (same (name_of_id id)) (name_of_id id) declared_width id_words found declared_full at ns t u r

abbrev pub NamesNeed : Id → (at : ℕ) → (t u : List ℕ) → Result ℕ TableFault → Type 0
NamesNeed id at t u r =
    (found : List ℕ) (rs : List NameRow) → 0 < id.symbol → NamesHeld found rs t
    → RowNeeded (row_of (name_of_id id)) (fresh (name_of_id id)) names_width name_words found names_full at rs t u r

abbrev pub EdgesNeed : Edge → (at : ℕ) → (t u : List ℕ) → Result ℕ TableFault → Type 0
EdgesNeed edge at t u r =
    (names : List NameRow) (found : List ℕ) (es : List EdgeRow) (a b : Name) → Known names es → Present names a → Present names b
    → edge.from ≡ row_number a names → edge.to ≡ row_number b names → EdgesHeld names found es t
    → RowNeeded (edge_of a b) (new_edge a b) edges_width (edge_words names) found edges_full at es t u r

-- a row with more in its counts
abbrev pub grown : (usage assign : ℕ) → NameRow → NameRow
grown usage assign r = record { name = r.name; usage = plus r.usage usage; assign = plus r.assign assign; entry = r.entry; counted = r.counted }

-- a row with less in its counts
abbrev pub shrunk : (usage assign : ℕ) → NameRow → NameRow
shrunk usage assign r = record { name = r.name; usage = minus r.usage usage; assign = minus r.assign assign; entry = r.entry; counted = r.counted }

-- a row that is an entry
abbrev pub entered : NameRow → NameRow
entered r = record { name = r.name; usage = r.usage; assign = r.assign; entry = true; counted = r.counted }

-- a row that was counted
abbrev pub marked : NameRow → NameRow
marked r = record { name = r.name; usage = r.usage; assign = r.assign; entry = r.entry; counted = true }

-- an edge with more in its weights
abbrev pub heavier : (usage assign : ℕ) → EdgeRow → EdgeRow
heavier usage assign e = record { from = e.from; to = e.to; usage = plus e.usage usage; assign = plus e.assign assign }

-- DECLARED

-- to hold rows is to have their words
abbrev pub DeclaredWords : Type 0
DeclaredWords = (found : List ℕ) (ns : List Name) (words : List ℕ) →
    (DeclaredHeld found ns words → words ≡ table declared_width (declared_in_words ns) found)
    × (Named ns → length ns ≤ length found / declared_width → words ≡ table declared_width (declared_in_words ns) found → DeclaredHeld found ns words)

-- the rows of any words are the names that the book reads in them, and `find` finds those
abbrev pub DeclaredRead : Type 0
DeclaredRead = (words : List ℕ) (k : Id) →
    (used declared_width words ≡ length (read_declared words))
    × (first_row (id_keyed k) (rows declared_width words) ≡ first_row (same (name_of_id k)) (read_declared words))
    × (is_some (first_row (same (name_of_id k)) (read_declared words)) ≡ some_row (same (name_of_id k)) (read_declared words))

-- words that hold names are read as those names
abbrev pub DeclaredBack : Type 0
DeclaredBack = (found : List ℕ) (ns : List Name) (words : List ℕ) → DeclaredHeld found ns words → read_declared words ≡ ns

-- `find`, and `insert` where it finds none, are the book's `need`
abbrev pub DeclaredNeeded : Type 0
DeclaredNeeded = (found : List ℕ) (ns : List Name) (words : List ℕ) (k : Id) (at : ℕ) → DeclaredHeld found ns words → 0 < k.symbol
    → Needed (same (name_of_id k)) (name_of_id k) declared_width id_words found declared_full at ns words (first_row (id_keyed k) (rows declared_width words))

-- NAMES

abbrev pub NamesWords : Type 0
NamesWords = (found : List ℕ) (rs : List NameRow) (words : List ℕ) →
    (NamesHeld found rs words → words ≡ table names_width (names_in_words rs) found)
    × (Named (names_of rs) → length rs ≤ length found / names_width → words ≡ table names_width (names_in_words rs) found → NamesHeld found rs words)

-- `find` gives the row of a name
abbrev pub NamesFound : Type 0
NamesFound = (found : List ℕ) (rs : List NameRow) (words : List ℕ) (k : Id) → NamesHeld found rs words
    → first_row (id_keyed k) (rows names_width words) ≡ numbered (name_of_id k) rs

-- which is the first row with the name, and the one that the book looks at
abbrev pub NamesNumbered : Type 0
NamesNumbered = (rs : List NameRow) (n : Name) →
    (first_row (row_of n) rs ≡ numbered n rs) × (Present rs n → nth (row_number n rs - 1) rs ≡ Some (look n rs))

abbrev pub NamesNeeded : Type 0
NamesNeeded = (found : List ℕ) (rs : List NameRow) (words : List ℕ) (k : Id) (at : ℕ) → NamesHeld found rs words → 0 < k.symbol
    → Needed (row_of (name_of_id k)) (fresh (name_of_id k)) names_width name_words found names_full at rs words (first_row (id_keyed k) (rows names_width words))

-- a row's words are read by its number
abbrev pub NamesRead : Type 0
NamesRead = (found : List ℕ) (rs : List NameRow) (words : List ℕ) (n : ℕ) (r : NameRow) → NamesHeld found rs words → 0 < n → nth (n - 1) rs ≡ Some r
    → (there names_width words n ≡ true)
    × (row_word names_width n usage_word words ≡ r.usage) × (row_word names_width n assign_word words ≡ r.assign)
    × (row_word names_width n entry_word words ≡ bit r.entry) × (row_word names_width n counted_word words ≡ bit r.counted)

-- and change there
abbrev pub NamesChanged : Type 0
NamesChanged = (found : List ℕ) (rs : List NameRow) (words : List ℕ) (n usage assign : ℕ) → NamesHeld found rs words → 0 < n → n ≤ length rs
    → NamesHeld found (change_nth (n - 1) (grown usage assign) rs) (changed names_width n (more_counts usage assign) words)
    × NamesHeld found (change_nth (n - 1) (shrunk usage assign) rs) (changed names_width n (less_counts usage assign) words)
    × NamesHeld found (change_nth (n - 1) entered rs) (changed names_width n with_entry words)
    × NamesHeld found (change_nth (n - 1) marked rs) (changed names_width n with_counted words)

-- the book's change of a name's row is the change of the row of its number
abbrev pub NamesChange : Type 0
NamesChange = (rs : List NameRow) (n : Name) (to : NameRow → NameRow) → Present rs n
    → (0 < row_number n rs) × (row_number n rs ≤ length rs) × (change (row_of n) to rs ≡ change_nth (row_number n rs - 1) to rs)

-- EDGES

abbrev pub EdgesWords : Type 0
EdgesWords = (names : List NameRow) (found : List ℕ) (es : List EdgeRow) (words : List ℕ) →
    (EdgesHeld names found es words → words ≡ table edges_width (edges_in_words names es) found)
    × (length es ≤ length found / edges_width → words ≡ table edges_width (edges_in_words names es) found → EdgesHeld names found es words)

-- between names that have rows, `find` with their numbers gives the row of the edge
abbrev pub EdgesFound : Type 0
EdgesFound = (names : List NameRow) (found : List ℕ) (es : List EdgeRow) (words : List ℕ) (a b : Name)
    → Known names es → Present names a → Present names b → EdgesHeld names found es words
    → (first_row (ends_keyed (ends_of names a b)) (rows edges_width words) ≡ first_row (edge_of a b) es)
    × (is_some (first_row (edge_of a b) es) ≡ some_row (edge_of a b) es)

abbrev pub EdgesNeeded : Type 0
EdgesNeeded = (names : List NameRow) (found : List ℕ) (es : List EdgeRow) (words : List ℕ) (a b : Name) (at : ℕ)
    → Known names es → Present names a → Present names b → EdgesHeld names found es words
    → Needed (edge_of a b) (new_edge a b) edges_width (edge_words names) found edges_full at es words
    (first_row (ends_keyed (ends_of names a b)) (rows edges_width words))

abbrev pub EdgesRead : Type 0
EdgesRead = (names : List NameRow) (found : List ℕ) (es : List EdgeRow) (words : List ℕ) (n : ℕ) (e : EdgeRow)
    → EdgesHeld names found es words → 0 < n → nth (n - 1) es ≡ Some e
    → (there edges_width words n ≡ true)
    × (row_word edges_width n 0 words ≡ row_number e.from names) × (row_word edges_width n 1 words ≡ row_number e.to names)
    × (row_word edges_width n usage_word words ≡ e.usage) × (row_word edges_width n assign_word words ≡ e.assign)

abbrev pub EdgesChanged : Type 0
EdgesChanged = (names : List NameRow) (found : List ℕ) (es : List EdgeRow) (words : List ℕ) (n usage assign : ℕ)
    → EdgesHeld names found es words → 0 < n → n ≤ length es
    → EdgesHeld names found (change_nth (n - 1) (heavier usage assign) es) (changed edges_width n (more_counts usage assign) words)

abbrev pub EdgesChange : Type 0
EdgesChange = (es : List EdgeRow) (a b : Name) (n : ℕ) (to : EdgeRow → EdgeRow) → first_row (edge_of a b) es ≡ Some n
    → (0 < n) × (n ≤ length es) × (change (edge_of a b) to es ≡ change_nth (n - 1) to es)

-- the words of edges stay while names get more rows, or change without changing a name
abbrev pub EdgesStay : Type 0
EdgesStay = (names more names' : List NameRow) (found : List ℕ) (es : List EdgeRow) (words : List ℕ) → Known names es → EdgesHeld names found es words
    → (EdgesHeld (names ++ more) found es words × Known (names ++ more) es)
    × (names_of names' ≡ names_of names → EdgesHeld names' found es words × Known names' es)
