-- What is written of a text.
use Rattle.std.specs.Prelude.{ℕ, List, take, Option, Result, Ok, Err}
use Rattle.std.specs.Io.KnownBytes.{Appends}

-- the whole text is written, or, if the writer fails, a front of it
abbrev pub Puts : {F : Type 0} → Option (List ℕ) → Option (List ℕ) → List ℕ → Result (Unit {0}) F → Type 0
Puts old new text (Ok done) = Appends old new text
Puts old new text (Err fault) = (count : ℕ) × Appends old new (take count text)
