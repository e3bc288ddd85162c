-- The filling of the tables for twins: both trees fill them, with rows that tell the same, or neither does.
-- The names that declared holds already stay; else those of the tree are put in, and are read back from the words afterwards.
--
--   HeldAlike                            declared names held alike
--   rows_declared_alike, counts_sizes, fit_alike      the rows of twins, and whether they fit
--   read_after, read_full                what is read back after a pass, and after one that was refused
use Rattle.std.proofs.Common.{◌≡◌, ℕ, ◌&&◌, leb, List, [], ◌∷◌, length, refl, ap, ap₂, arith}
use Rattle.rules.specs.Tree.{Chain, Name}
use Rattle.rules.specs.Grammar.{root}
use Rattle.rules.specs.Held.{Formed}
use Rattle.rules.specs.Names.{among, declared}
use Rattle.rules.specs.Counting.{events_of}
use Rattle.rules.specs.Tables.{declared_width, Room, declared_in_words, read_declared}
use Rattle.rules.specs.Calls.{declared_after}
use Rattle.laws.proofs.TablesRoom.{all_declared}
use Rattle.laws.proofs.TablesPass.{counts, declared_rows, declared_fit, tables_fit}
use Rattle.laws.proofs.AlikeSizes.{tidy_filled, names_sizes, edges_sizes}
use Rattle.laws.proofs.OrderCount.{Turned, counts_turned, names_turned}
use Rattle.laws.proofs.OrderDeclared.{declared_names, declared_sizes, symbols_of_tree}
use Rattle.laws.proofs.OrderWords.{table_sizes, declared_words_sizes, declared_read_back}

-- rows held alike
pub record HeldAlike (held held' : List Name) : Type 0 where
  pub names : (n : Name) → among n held ≡ among n held'
  pub sizes : length held ≡ length held'

pub rows_declared_alike : {c d : Chain} → Turned c d → (held held' : List Name) → HeldAlike held held' → HeldAlike (declared_rows c held) (declared_rows d held')
rows_declared_alike {c} {d} t [] [] h = record {
  names = declared_names (declared c) (declared d) (λ n. names_turned n t);
  sizes = declared_sizes (declared c) (declared d) (λ n. names_turned n t);
}
rows_declared_alike t [] (m ∷ ms) h = absurd (omega (arith, h.sizes))
rows_declared_alike t (n ∷ ns) [] h = absurd (omega (arith, h.sizes))
rows_declared_alike t (n ∷ ns) (m ∷ ms) h = h

declared_fit_alike : (space : Room) {c d : Chain} → Turned c d → (held held' : List Name) → HeldAlike held held' → declared_fit space c held ≡ declared_fit space d held'
declared_fit_alike space {c} {d} t [] [] h = ap (λ (n : ℕ). leb n space.declared) (declared_sizes (declared c) (declared d) (λ n. names_turned n t))
declared_fit_alike space t [] (m ∷ ms) h = absurd (omega (arith, h.sizes))
declared_fit_alike space t (n ∷ ns) [] h = absurd (omega (arith, h.sizes))
declared_fit_alike space t (n ∷ ns) (m ∷ ms) h = refl

pub counts_sizes : {c d : Chain} → Turned c d → (length (counts c).names ≡ length (counts d).names) × (length (counts c).edges ≡ length (counts d).edges)
counts_sizes {c} {d} t = let k = counts_turned t in
    (names_sizes (counts c) (counts d) k (tidy_filled (events_of c)) (tidy_filled (events_of d)), edges_sizes (counts c) (counts d) k (tidy_filled (events_of c)) (tidy_filled (events_of d)))

pub fit_alike : (space : Room) {c d : Chain} → Turned c d → (held held' : List Name) → HeldAlike held held' → tables_fit space c held ≡ tables_fit space d held'
fit_alike space t held held' h = let s = counts_sizes t in
    ap₂ ◌&&◌ (declared_fit_alike space t held held' h) (ap₂ (λ (m n : ℕ). leb m space.names && leb n space.edges) s.0 s.1)

-- THE WORDS OF declared

pub read_after : (c : Chain) → Formed root c → (words : List ℕ) (held : List Name) → read_declared words ≡ held → read_declared (declared_after held (declared_rows c held) words) ≡ declared_rows c held
read_after c p words [] q = declared_read_back (all_declared (declared c) []) words (symbols_of_tree c p)
read_after c p words (n ∷ ns) q = q

pub read_full : (words : List ℕ) (held : List Name) → read_declared words ≡ held → read_declared (declared_after held [] words) ≡ held
read_full words [] q = declared_read_back [] words tt
read_full words (n ∷ ns) q = q

pub after_sizes : (held held' rows rows' : List Name) (words words' : List ℕ) → length held ≡ length held' → length rows ≡ length rows' → length words ≡ length words'
    → length (declared_after held rows words) ≡ length (declared_after held' rows' words')
after_sizes [] [] rows rows' words words' h r w = table_sizes declared_width (declared_in_words rows) (declared_in_words rows') words words' (declared_words_sizes rows rows' r) w
after_sizes [] (m ∷ ms) rows rows' words words' h r w = absurd (omega arith)
after_sizes (n ∷ ns) [] rows rows' words words' h r w = absurd (omega arith)
after_sizes (n ∷ ns) (m ∷ ms) rows rows' words words' h r w = w
