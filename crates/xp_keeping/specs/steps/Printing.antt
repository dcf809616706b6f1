-- For private steps. What is written of further records by a printer.
use Rattle.std.specs.Prelude.{◌≡◌, ℕ, List, Option, Result, Ok, Err}
use Rattle.xp_keeping.specs.declared.keep_fault.KeepFault.{KeepFault}
use Rattle.xp_keeping.specs.Printing.{Prints}

-- after a fault nothing more is written
abbrev pub PrintsOn : Result (Unit {0}) KeepFault → Option (List ℕ) → Option (List ℕ) → List ℕ → Result (Unit {0}) KeepFault → Type 0
PrintsOn (Ok done) old new whole result = Prints old new whole result
PrintsOn (Err fault) old new whole result = (new ≡ old) × (result ≡ Err fault)
