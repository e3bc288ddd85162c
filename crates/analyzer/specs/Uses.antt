-- What a reference does with a name. The contracts of references cite it.
--
--   is_write      it writes the name
use Rattle.std.specs.Prelude.{Bool, true, false}
use Rattle.analyzer.specs.declared.reference.Use.{Use}
use Rattle.analyzer.specs.declared.reference.Use.TheVariants.{Reads, Writes}

-- a reference that writes the name
abbrev pub is_write : Use → Bool
is_write Reads = false
is_write Writes = true
