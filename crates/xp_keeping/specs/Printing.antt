-- What is written of charging records that are printed (`IsPrinted`).
use Rattle.std.specs.Prelude.{◌≡◌, ℕ, ◌≤◌, List, ◌++◌, flat_map, length, Option, Result, Ok, Err}
use Rattle.std.specs.Io.KnownBytes.{Appends}
use Rattle.xp_cdr.specs.RecordLine.{record_line}
use Rattle.xp_cdr.specs.declared.ended.EndedCall.{EndedCall}
use Rattle.xp_keeping.specs.declared.keep_fault.KeepFault.{KeepFault}

abbrev pub IsFront : List ℕ → List ℕ → Type 0
IsFront text whole = (rest : List ℕ) × (whole ≡ text ++ rest)

-- a front of the text is written
abbrev pub AppendsFront : Option (List ℕ) → Option (List ℕ) → List ℕ → Type 0
AppendsFront old new whole = (text : List ℕ) × Appends old new text × IsFront text whole

-- all of the text is written, or a front of it where memory was wanting or the writer failed
abbrev pub Prints : {F : Type 0} → Option (List ℕ) → Option (List ℕ) → List ℕ → Result (Unit {0}) F → Type 0
Prints old new whole (Ok done) = Appends old new whole
Prints old new whole (Err fault) = AppendsFront old new whole

-- a printer of charging records
pub record Printer : Type 0 where
  -- all records that it was given
  pub given : List EndedCall
  -- what the writer held before the first of them, and what it holds now
  pub before : Option (List ℕ)
  pub contents : Option (List ℕ)
  -- whether memory was wanting, or the writer failed
  pub outcome : Result (Unit {0}) KeepFault

-- The text of all records that the printer was given is written, or a front of it.
abbrev pub IsPrinted : Printer → Type 0
IsPrinted printer = Prints printer.before printer.contents (flat_map record_line printer.given) printer.outcome

-- The text of the first so many records is written, perhaps of more.
pub record HasPrinted (printer : Printer) (count : ℕ) : Type 0 where
  pub kept : List EndedCall
  pub rest : List EndedCall
  pub given_are : printer.given ≡ kept ++ rest
  pub within : count ≤ length kept
  pub more : List ℕ
  pub written : Appends printer.before printer.contents (flat_map record_line kept ++ more)
