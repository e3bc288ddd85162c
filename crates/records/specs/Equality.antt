-- What it is to compare kinds and names as the book does.
--
--   KindsByWords      two kinds are equal where their words are one
--   IdsByNames        two names are equal where they have one symbol and one mark
use Rattle.std.specs.Prelude.{◌≡◌, Bool, ◌&&◌, ◌==◌}
use Rattle.records.specs.KindWords.{kind_word}
use Rattle.records.specs.declared.kind.Kind.{Kind}
use Rattle.records.specs.declared.id.Id.{Id}

-- kinds are equal where their first words are
abbrev pub KindsByWords : (Kind → Kind → Bool) → Type 0
KindsByWords eq = (a b : Kind) → eq a b ≡ (kind_word a == kind_word b)

-- names are equal where both symbol and mark are
abbrev pub IdsByNames : (Id → Id → Bool) → Type 0
IdsByNames eq = (a b : Id) → eq a b ≡ (a.symbol == b.symbol && a.mark == b.mark)
