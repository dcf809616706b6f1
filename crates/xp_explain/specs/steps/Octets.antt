-- For private steps. Why a text is not octets.
use Rattle.std.specs.Prelude.{ℕ}
use Rattle.hex.specs.declared.error.FromHexError.{FromHexError}
use Rattle.hex.specs.declared.error.FromHexError.TheVariants.{InvalidHexCharacter, InvalidStringLength, OddLength, OutOfMemory}
use Rattle.xp_explain.specs.declared.octets.OctetsFault.{OctetsFault}
use Rattle.xp_explain.specs.declared.octets.OctetsFault.TheVariants.{Memory, NoDigit, Odd}

-- the fault of a text of so many characters that is not decoded for this reason
abbrev pub fault_by : ℕ → FromHexError → OctetsFault
fault_by count OddLength = Odd count
fault_by count (InvalidHexCharacter found place) = NoDigit found
fault_by count InvalidStringLength = Memory
fault_by count OutOfMemory = Memory
