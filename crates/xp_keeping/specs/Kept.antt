-- What is kept of the records of a run by a keeper that is told by what each call ended.
use Rattle.std.specs.Prelude.{◌≡◌, List, Result}
use Rattle.xp_charge.specs.declared.record.Record.{Record}
use Rattle.xp_cdr.specs.Ended.{charging_records}
use Rattle.xp_cdr.specs.declared.ended.EndedCall.{EndedCall}
use Rattle.xp_keeping.specs.declared.keep_fault.KeepFault.{KeepFault}

-- Calls with these records are kept, and this came of it.
abbrev pub KeepsAll : (List EndedCall → Result (Unit {0}) KeepFault → Type 0) → List Record → Result (Unit {0}) KeepFault → Type 0
KeepsAll kept records result = (calls : List EndedCall) × (charging_records calls ≡ records) × kept calls result
