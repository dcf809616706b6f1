-- Calls that have ended, each with its lines as subscriptions name them.
use Rattle.std.specs.Prelude.{◌≡◌, ℕ, List, map, option_map}
use Rattle.xp_charge.specs.Text.{name_of}
use Rattle.xp_charge.specs.declared.record.Record.{Record}
use Rattle.xp_subs.specs.Tables.{Tables, address_of}
use Rattle.xp_cdr.specs.declared.ended.EndedBy.{EndedBy}
use Rattle.xp_cdr.specs.declared.ended.EndedCall.{EndedCall}
use Rattle.xp_cdr.specs.declared.ended.NamedLine.{NamedLine}

-- a line as these subscriptions name it
abbrev pub named_line : Tables → ℕ → NamedLine
named_line tables line = record { name = name_of tables line; address = address_of tables line }

-- a call with this charging record, which ended by that, with its lines as these subscriptions name them
abbrev pub ended_as : Tables → EndedBy → Record → EndedCall
ended_as tables by ended = record {
  charging = ended;
  ended_by = by;
  caller = named_line tables ended.caller;
  called = option_map (named_line tables) ended.called;
}

-- the lines of the call are as these subscriptions name them
abbrev pub IsNamedBy : Tables → EndedCall → Type 0
IsNamedBy tables call = call ≡ ended_as tables call.ended_by call.charging

-- the charging records of these calls
abbrev pub charging_records : List EndedCall → List Record
charging_records calls = map (λ call. call.charging) calls
