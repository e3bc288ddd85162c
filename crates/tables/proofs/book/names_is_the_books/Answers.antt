use Rattle.tables.proofs.Matched.{names_words, names_found, names_numbered, names_needed, names_read, names_changed, names_change}
use Rattle.tables.proofs.book.names_is_the_books.Goals as goal

pub returns : goal.returns
returns c = record { words = names_words; found = names_found; numbered = names_numbered; needed = names_needed; read = names_read; changed = names_changed; change = names_change }
