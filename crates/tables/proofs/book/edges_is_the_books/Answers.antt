use Rattle.tables.proofs.Matched.{edges_words, edges_found, edges_needed, edges_read, edges_changed, edges_change, edges_stay}
use Rattle.tables.proofs.book.edges_is_the_books.Goals as goal

pub returns : goal.returns
returns c = record { words = edges_words; found = edges_found; needed = edges_needed; read = edges_read; changed = edges_changed; change = edges_change; stay = edges_stay }
