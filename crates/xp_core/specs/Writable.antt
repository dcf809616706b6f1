-- Every packet that is put out can be encoded on the line that it goes to.
use Rattle.std.specs.Prelude.{◌≡◌, None, List, All}
use Rattle.xp_packets.specs.Encodability.{encoding_fault}
use Rattle.xp_packets.specs.declared.modulus.Modulus.{Modulus}
use Rattle.xp_subs.specs.Tables.{Tables, modulus_of}
use Rattle.xp_step.specs.declared.output.Output.{Output}
use Rattle.xp_step.specs.declared.output.Put.{Put}
use Rattle.xp_step.specs.declared.output.Put.TheVariants.{Send, Close}

module _ {A : Type 0} where
  -- its packet can be encoded by this modulus: only want of memory can prevent that
  abbrev pub IsWritable : Modulus → Put A → Type 0
  IsWritable modulus (Send identifier packet) = encoding_fault modulus identifier packet ≡ None
  IsWritable modulus Close = Unit {0}

  -- each by the modulus of its line
  abbrev pub AreWritable : Tables → List (Output A) → Type 0
  AreWritable tables outputs = All (λ output. IsWritable (modulus_of tables output.line) output.outgoing.put) outputs
