-- The tables: rows that come as events need them, as long as one is free, and the words that they stand in.
--
--   NameRow, EdgeRow, Counts        rows; the two tables that a count fills
--   Room, room                      how many rows each table has
--   some_row, need, change          the one text of all tables: is it there; it is there, comes last or the table is full; it changes
--   look                            a name's row; a missing one reads as a fresh one
--   declare, enter, fill            the declared names; one event; all events
--   table, .. _in_words, read_declared      rows as the caller's words
use Rattle.std.specs.Prelude.{ℕ, suc, ◌+◌, ◌-◌, ◌*◌, ◌/◌, Bool, true, false, ◌&&◌, ◌||◌, List, [], ◌∷◌, ◌++◌, length, drop, replicate, ◌==◌, nat_lt, if◌then◌else◌}
use Rattle.rules.specs.Tree.{Head, Name, name_of}
use Rattle.rules.specs.Refusals.{Outcome, and_then, declared_full, names_full, edges_full}
use Rattle.rules.specs.Refusals.Outcome.{fine, refused}
use Rattle.rules.specs.Names.{same}
use Rattle.rules.specs.Counting.{Event}

-- a row of names: its counts, whether it is an entry, whether it was counted at all
pub record NameRow : Type 0 where
  pub name : Name
  pub usage : ℕ
  pub assign : ℕ
  pub entry : Bool
  pub counted : Bool

-- a row of edges; in the words both names stand as their rows in names
pub record EdgeRow : Type 0 where
  pub from : Name
  pub to : Name
  pub usage : ℕ
  pub assign : ℕ

-- the tables that a count fills
pub record Counts : Type 0 where
  pub names : List NameRow
  pub edges : List EdgeRow

-- tables without rows
abbrev pub no_rows : Counts
no_rows = record { names = []; edges = [] }

-- the words of a row
abbrev pub declared_width : ℕ
declared_width = 2

abbrev pub names_width : ℕ
names_width = 6

abbrev pub edges_width : ℕ
edges_width = 4

-- how many rows each table has
pub record Room : Type 0 where
  pub declared : ℕ
  pub names : ℕ
  pub edges : ℕ

-- the whole rows in the tables' words
abbrev pub room : (declared names edges : List ℕ) → Room
room declared names edges = record {
  declared = length declared / declared_width;
  names = length names / names_width;
  edges = length edges / edges_width;
}

-- some row passes
abbrev pub some_row : {Row : Type 0} → (Row → Bool) → List Row → Bool
some_row passes [] = false
some_row passes (r ∷ rs) = passes r || some_row passes rs

-- a row is needed: it is there, or it comes last, or the table is full
abbrev pub need : {Row : Type 0} → (Row → Bool) → Row → (space full at : ℕ) → List Row → Outcome (List Row)
need is_it new space full at rows =
    if some_row is_it rows then fine rows
    else if nat_lt (length rows) space then fine (rows ++ (new ∷ []))
    else refused full at

-- the row that passes changes
abbrev pub change : {Row : Type 0} → (Row → Bool) → (Row → Row) → List Row → List Row
change is_it to [] = []
change is_it to (r ∷ rs) = if is_it r then to r ∷ rs else r ∷ change is_it to rs

-- the declared names, each once
abbrev pub declare : (space : ℕ) → List Head → List Name → Outcome (List Name)
declare space [] rows = fine rows
declare space (h ∷ hs) rows =
    and_then (need (same (name_of h)) (name_of h) space declared_full h.number rows) (λ more. declare space hs more)

-- a name's row before anything is counted
abbrev pub fresh : Name → NameRow
fresh n = record { name = n; usage = 0; assign = 0; entry = false; counted = false }

-- a name's row; a missing one reads as a fresh one
abbrev pub look : Name → List NameRow → NameRow
look n [] = fresh n
look n (r ∷ rs) = if same n r.name then r else look n rs

-- the row of a name
abbrev pub row_of : Name → NameRow → Bool
row_of n r = same n r.name

-- the row of an edge
abbrev pub edge_of : (from to : Name) → EdgeRow → Bool
edge_of a b r = same a r.from && same b r.to

-- what an event adds to usage
abbrev pub reads : Event → ℕ
reads e = if e.writes then 0 else 1

-- and to assign
abbrev pub writes : Event → ℕ
writes e = if e.writes then 1 else 0

-- a name's row is needed
abbrev pub need_name : Room → (at : ℕ) → Name → Counts → Outcome Counts
need_name space at n c =
    and_then (need (row_of n) (fresh n) space.names names_full at c.names) (λ rows.
    fine (record { names = rows; edges = c.edges }))

-- an edge's row is needed
abbrev pub need_edge : Room → (at : ℕ) → (from to : Name) → Counts → Outcome Counts
need_edge space at a b c =
    and_then (need (edge_of a b) (record { from = a; to = b; usage = 0; assign = 0 }) space.edges edges_full at c.edges) (λ rows.
    fine (record { names = c.names; edges = rows }))

-- an edge grows by what the event adds
abbrev pub grow_edge : Event → (from : Name) → Counts → Counts
grow_edge e a c = record {
  names = c.names;
  edges = change (edge_of a e.name) (λ r. record { from = r.from; to = r.to; usage = r.usage + reads e; assign = r.assign + writes e }) c.edges;
}

-- so does the name's row, which is then counted
abbrev pub grow_name : Event → Counts → Counts
grow_name e c = record {
  names = change (row_of e.name) (λ r. record { name = r.name; usage = r.usage + reads e; assign = r.assign + writes e; entry = r.entry || e.entry; counted = true }) c.names;
  edges = c.edges;
}

-- for each holder in turn: its row, the name's, the edge's
abbrev pub hold : Room → Event → (holders : List Name) → Counts → Outcome Counts
hold space e [] c = fine c
hold space e (holder ∷ holders) c =
    and_then (need_name space e.at holder c) (λ c1.
    and_then (need_name space e.at e.name c1) (λ c2.
    and_then (need_edge space e.at holder e.name c2) (λ c3.
    hold space e holders (grow_edge e holder c3))))

-- one event
abbrev pub enter : Room → Event → Counts → Outcome Counts
enter space e c =
    and_then (hold space e e.holders c) (λ held.
    and_then (need_name space e.at e.name held) (λ ready.
    fine (grow_name e ready)))

-- all events
abbrev pub fill : Room → List Event → Counts → Outcome Counts
fill space [] c = fine c
fill space (e ∷ es) c = and_then (enter space e c) (λ more. fill space es more)

-- 0 or 1
abbrev pub bit : Bool → ℕ
bit b = if b then 1 else 0

-- the row of a name, from 1
abbrev pub row_number : Name → List NameRow → ℕ
row_number n [] = 1
row_number n (r ∷ rs) = if same n r.name then 1 else suc (row_number n rs)

-- the words of declared
abbrev pub declared_in_words : List Name → List ℕ
declared_in_words [] = []
declared_in_words (n ∷ ns) = n.symbol ∷ n.mark ∷ declared_in_words ns

-- the words of names
abbrev pub names_in_words : List NameRow → List ℕ
names_in_words [] = []
names_in_words (r ∷ rs) = r.name.symbol ∷ r.name.mark ∷ r.usage ∷ r.assign ∷ bit r.entry ∷ bit r.counted ∷ names_in_words rs

-- the words of edges, beside names
abbrev pub edges_in_words : List NameRow → List EdgeRow → List ℕ
edges_in_words names [] = []
edges_in_words names (e ∷ es) = row_number e.from names ∷ row_number e.to names ∷ e.usage ∷ e.assign ∷ edges_in_words names es

-- a table of such rows: their words, zeros to the last whole row, and the words past it as they were
abbrev pub table : (width : ℕ) → (rows found : List ℕ) → List ℕ
table width rows found =
    let whole = length found / width * width in
    rows ++ replicate (whole - length rows) 0 ++ drop whole found

-- the declared names that a caller's words hold: a row whose first word is 0 ends the table
abbrev pub read_declared : List ℕ → List Name
read_declared [] = []
read_declared (s ∷ []) = []
read_declared (s ∷ m ∷ words) = if s == 0 then [] else record { symbol = s; mark = m } ∷ read_declared words
