use Rattle.tables.proofs.Matched.{declared_words, declared_read, declared_back, declared_needed}
use Rattle.tables.proofs.book.declared_is_the_books.Goals as goal

pub returns : goal.returns
returns c = record { words = declared_words; read = declared_read; back = declared_back; needed = declared_needed }
