-- What a reader that allocates gives, beside what the text says: that, or want of memory.
--
--   Gives      of a part of a line
--   Finds      of lines, where a problem has its line's number
use Rattle.std.specs.Prelude.{◌≡◌, ◌⊎◌, Ok, Err, Result}
use Rattle.text.specs.declared.fault.Problem.{Problem}
use Rattle.text.specs.declared.fault.Problem.TheVariants.{Memory}
use Rattle.text.specs.declared.fault.TextFault.{TextFault}

-- the result is what is said, as `view` shows it, or memory is wanting
abbrev pub Gives : {A V : Type 0} → (said : Result A Problem) (view : V → A) → Result V Problem → Type 0
Gives said view (Ok value) = said ≡ Ok (view value)
Gives said view (Err problem) = (problem ≡ Memory) ⊎ (said ≡ Err problem)

-- the same with the line's number
abbrev pub Finds : {A V : Type 0} → (said : Result A TextFault) (view : V → A) → Result V TextFault → Type 0
Finds said view (Ok value) = said ≡ Ok (view value)
Finds said view (Err fault) = (fault.problem ≡ Memory) ⊎ (said ≡ Err fault)
