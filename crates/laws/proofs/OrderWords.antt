-- The tables' words: their lengths are the same wherever the rows are equally many and the words found were equally long,
-- and the declared names are read back from the words that they were put into.
--
--   table_sizes                                   tables of equally long rows, put into equally long words
--   declared_words_sizes, names_words_sizes, edges_words_sizes      equally many rows have equally many words
--   length_discounted                             discounting keeps the number of rows
--   declared_read_back                                     the declared names are read back
use Rattle.std.proofs.Common.{◌≡◌, ℕ, zero, suc, ◌+◌, ◌-◌, ◌*◌, ◌/◌, ◌≤◌, List, [], ◌∷◌, ◌++◌, length, drop, replicate, sym, refl, ap, ◌∙◌, ap₂, append_assoc, arith}
use Rattle.std.proofs.lemmas.List.{length-append, length-drop, length-replicate}
use Rattle.rules.specs.Tree.{Name}
use Rattle.rules.specs.Tables.{NameRow, EdgeRow, Counts, declared_width, declared_in_words, names_in_words, edges_in_words, table, read_declared}
use Rattle.rules.specs.Rings.{discount_rows, discount}
use Rattle.laws.proofs.OrderDeclared.{Symbols}

-- SIZES

-- the words of a table, by those of its rows and those found
abbrev words_of : (width rows found : ℕ) → ℕ
words_of width rows found = rows + (found / width * width - rows) + (found - found / width * width)

length_table : (width : ℕ) (rows found : List ℕ) → length (table width rows found) ≡ words_of width (length rows) (length found)
length_table width rows found = simp (length-append, length-replicate, length-drop)

pub table_sizes : (width : ℕ) (rows rows' found found' : List ℕ) → length rows ≡ length rows' → length found ≡ length found' → length (table width rows found) ≡ length (table width rows' found')
table_sizes width rows rows' found found' p q = length_table width rows found ∙ (ap₂ (words_of width) p q ∙ sym (length_table width rows' found'))

length_declared_words : (ns : List Name) → length (declared_in_words ns) ≡ 2 * length ns
length_declared_words [] = refl
length_declared_words (n ∷ ns) = let q = length_declared_words ns in omega arith

length_names_words : (rs : List NameRow) → length (names_in_words rs) ≡ 6 * length rs
length_names_words [] = refl
length_names_words (r ∷ rs) = let q = length_names_words rs in omega arith

length_edges_words : (names : List NameRow) (es : List EdgeRow) → length (edges_in_words names es) ≡ 4 * length es
length_edges_words names [] = refl
length_edges_words names (e ∷ es) = let q = length_edges_words names es in omega arith

pub length_discounted : (c : Counts) (rs : List NameRow) → length (discount_rows c rs) ≡ length rs
length_discounted c [] = refl
length_discounted c (r ∷ rs) = ap suc (length_discounted c rs)

pub declared_words_sizes : (ns ms : List Name) → length ns ≡ length ms → length (declared_in_words ns) ≡ length (declared_in_words ms)
declared_words_sizes ns ms q = length_declared_words ns ∙ (ap (λ (n : ℕ). 2 * n) q ∙ sym (length_declared_words ms))

pub names_words_sizes : (c d : Counts) → length c.names ≡ length d.names → length (names_in_words (discount c)) ≡ length (names_in_words (discount d))
names_words_sizes c d q =
    length_names_words (discount c) ∙ (ap (λ (n : ℕ). 6 * n) (length_discounted c c.names ∙ (q ∙ sym (length_discounted d d.names))) ∙ sym (length_names_words (discount d)))

pub edges_words_sizes : (names names' : List NameRow) (es fs : List EdgeRow) → length es ≡ length fs → length (edges_in_words names es) ≡ length (edges_in_words names' fs)
edges_words_sizes names names' es fs q = length_edges_words names es ∙ (ap (λ (n : ℕ). 4 * n) q ∙ sym (length_edges_words names' fs))

-- READING BACK

read_zero : (words : List ℕ) → read_declared (0 ∷ words) ≡ []
read_zero [] = refl
read_zero (w ∷ words) = refl

read_short : (words : List ℕ) → length words ≤ 1 → read_declared words ≡ []
read_short [] l = refl
read_short (w ∷ []) l = refl
read_short (w ∷ x ∷ words) l = absurd (omega arith)

read_zeros : (k : ℕ) (words : List ℕ) → length words ≤ 1 → read_declared (replicate k 0 ++ words) ≡ []
read_zeros zero words l = read_short words l
read_zeros (suc k) words l = read_zero (replicate k 0 ++ words)

read_rows : (ns : List Name) (words : List ℕ) → Symbols ns → read_declared words ≡ [] → read_declared (declared_in_words ns ++ words) ≡ ns
read_rows [] words s q = q
read_rows (n ∷ ns) words s q = rw s.0 (ap (λ (ms : List Name). n ∷ ms) (read_rows ns words s.1 q))

pub declared_read_back : (ns : List Name) (found : List ℕ) → Symbols ns → read_declared (table declared_width (declared_in_words ns) found) ≡ ns
declared_read_back ns found s =
    let whole = length found / 2 * 2 in
    let rows = declared_in_words ns in
    ap read_declared (append_assoc rows (replicate (whole - length rows) 0) (drop whole found))
    ∙ read_rows ns (replicate (whole - length rows) 0 ++ drop whole found) s
    (read_zeros (whole - length rows) (drop whole found) (let q = length-drop whole found in omega arith))
