-- The work memory of the calls. The contracts of the calls cite it.
--
--   most_work      what suffices for every call
use Rattle.std.specs.Prelude.{ℕ}

-- five words for each row that names may have, and one for each of edges
abbrev pub most_work : ℕ
most_work = 425984
