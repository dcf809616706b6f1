-- What is recorded of a call as it ends (X.25 clauses 4.1.7 and 5.2.4).
use Rattle.std.specs.Prelude.{ℕ, Option, None, Some, List, option_map}
use Rattle.xp_causes.specs.declared.refusal.Refusal.{Refusal}
use Rattle.xp_charge.specs.declared.record.Record.{Record}
use Rattle.xp_packets.specs.declared.end.End.{End}
use Rattle.xp_packets.specs.declared.end.End.TheVariants.{Caller, Called}
use Rattle.xp_machine.specs.declared.agreement.Agreement.{Agreement}
use Rattle.xp_machine.specs.World.{Call}

-- the moment at which a call was connected, if it was
abbrev pub connected_of : Option Agreement → Option ℕ
connected_of agreed = option_map (λ agreement. agreement.connected) agreed

-- the record of a call that was put to a line and ended at a moment, with these segments from each end
abbrev pub record_of : ℕ → Call → (End → ℕ) → ℕ → ℕ → ℕ → Record
record_of number call counted ended cause diagnostic = record {
  number = number;
  caller = call.caller;
  called = Some call.called;
  dialled = call.dialled;
  payer = call.setup.payer;
  from_caller = counted Caller;
  from_called = counted Called;
  cause = cause;
  diagnostic = diagnostic;
  requested = call.requested;
  connected = connected_of call.agreed;
  ended = ended;
}

-- the record of a call request that was refused at a moment: it was requested, and ended, at that moment
abbrev pub refused_record : ℕ → ℕ → ℕ → List ℕ → Refusal → Record
refused_record number moment caller dialled why = record {
  number = number;
  caller = caller;
  called = None;
  dialled = dialled;
  payer = Caller;
  from_caller = 0;
  from_called = 0;
  cause = why.cause;
  diagnostic = why.diagnostic;
  requested = moment;
  connected = None;
  ended = moment;
}
