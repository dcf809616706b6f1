-- What is written of a text.
use Rattle.std.specs.Prelude.{◌≡◌, ℕ, List, take, Option, Result, Ok, Err}
use Rattle.std.specs.Io.KnownBytes.{Appends}
use Rattle.xp_exchange.specs.declared.fault.ReplayFault.{ReplayFault}
use Rattle.xp_exchange.specs.declared.fault.ReplayFault.TheVariants.{Write}

-- the whole text is written, or, if the writer fails, a prefix of it
abbrev pub Puts : Option (List ℕ) → Option (List ℕ) → List ℕ → Result (Unit {0}) ReplayFault → Type 0
Puts old new text (Ok done) = Appends old new text
Puts old new text (Err fault) = (fault ≡ Write) × (count : ℕ) × Appends old new (take count text)
