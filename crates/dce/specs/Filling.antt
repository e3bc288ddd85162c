-- What filling the tables from a tree leaves. The contracts of filling cite it.
--
--   FilledTables      declared holds the names of the tree, names and edges the rows of its count
--   Refused           the book refuses to fill the tables
--   FullTables        and names, edges and a declared without rows are left zeroed
use Rattle.std.specs.Prelude.{◌≡◌, ℕ, List, []}
use Rattle.rules.specs.Tree.{Chain}
use Rattle.rules.specs.Refusals.Outcome.{fine, refused}
use Rattle.rules.specs.Tables.{room, names_width, edges_width, read_declared}
use Rattle.rules.specs.Calls.{Filled, fill_tables, declared_after, zeroed}
use Rattle.tables.specs.Ready.{Ready}

-- the tables, found with the words d, n and e, are left with d', n' and e', which hold what the book fills them with
pub record FilledTables (tree : Chain) (d n e d' n' e' : List ℕ) : Type 0 where
  pub filled : Filled
  pub is : fill_tables (room d n e) tree (read_declared d) ≡ fine filled
  pub declared : d' ≡ declared_after (read_declared d) filled.declared d
  pub read : read_declared d' ≡ filled.declared
  pub counts : Ready filled.counts n e n' e'

-- the book refuses to fill them
abbrev pub Refused : (tree : Chain) (d n e : List ℕ) (number at : ℕ) → Type 0
Refused tree d n e number at = fill_tables (room d n e) tree (read_declared d) ≡ refused number at

-- it does, and they are left without rows, but for a declared that had some
pub record FullTables (tree : Chain) (d n e : List ℕ) (number at : ℕ) (d' n' e' : List ℕ) : Type 0 where
  pub is : Refused tree d n e number at
  pub declared : d' ≡ declared_after (read_declared d) [] d
  pub names : n' ≡ zeroed names_width n
  pub edges : e' ≡ zeroed edges_width e
