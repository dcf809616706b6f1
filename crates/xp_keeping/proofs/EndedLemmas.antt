-- The charging records of calls that have ended.
use Rattle.std.proofs.Common.{◌≡◌, List, [], ◌∷◌, ◌++◌, Result, ap, map, refl, ◌∙◌}
use Rattle.std.proofs.lemmas.List.{map-append}
use Rattle.xp_charge.specs.declared.record.Record.{Record}
use Rattle.xp_cdr.specs.Ended.{charging_records, ended_as}
use Rattle.xp_cdr.specs.declared.ended.EndedBy.{EndedBy}
use Rattle.xp_cdr.specs.declared.ended.EndedCall.{EndedCall}
use Rattle.xp_keeping.specs.Kept.{KeepsAll}
use Rattle.xp_keeping.specs.declared.keep_fault.KeepFault.{KeepFault}
use Rattle.xp_subs.specs.Tables.{Tables}

-- those of calls that are made of records are these records
pub records_again : (tables : Tables) (by : EndedBy) (records : List Record) → charging_records (map (ended_as tables by) records) ≡ records
records_again tables by [] = refl
records_again tables by (ended ∷ records) = ap (λ more. ended ∷ more) (records_again tables by records)

pub records_more : (tables : Tables) (by : EndedBy) (calls : List EndedCall) (records : List Record)
    → charging_records (calls ++ map (ended_as tables by) records) ≡ charging_records calls ++ records
records_more tables by calls records =
    map-append (λ (call : EndedCall). call.charging) calls (map (ended_as tables by) records) ∙ ap (λ more. charging_records calls ++ more) (records_again tables by records)

-- calls that were made of the last records are kept with the others
pub keeps_all : (kept : List EndedCall → Result (Unit {0}) KeepFault → Type 0) (tables : Tables) (by : EndedBy) (calls : List EndedCall) (records : List Record) (result : Result (Unit {0}) KeepFault)
    → kept (calls ++ map (ended_as tables by) records) result → KeepsAll kept (charging_records calls ++ records) result
keeps_all kept tables by calls records result is = (calls ++ map (ended_as tables by) records, records_more tables by calls records, is)
