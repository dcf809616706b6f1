-- What can be seen of a line, and of the call that it is in.
use Rattle.std.specs.Prelude.{ℕ, Option, None, Some, option_map, List}
use Rattle.xp_packets.specs.declared.end.End.TheVariants.{Caller, Called}
use Rattle.xp_relay.specs.Coupled.{state_at}
use Rattle.xp_relay.specs.declared.state.FlowState.{FlowState}
use Rattle.xp_subs.specs.Tables.{Tables}
use Rattle.xp_core.specs.declared.call_view.CallView.{CallView}
use Rattle.xp_step.specs.declared.entry.Entry.{Entry}
use Rattle.xp_step.specs.RelayedPackets.{directions}
use Rattle.xp_step.specs.Segments.{segments_of}
use Rattle.xp_machine.specs.CallEnds.{end_of}
use Rattle.xp_machine.specs.World.{Call, World, call_on}

-- the state of flow control of a line of this call, where it is connected (X.25 clause 4.4.3)
abbrev pub flow_in : {A : Type 0} → Tables → List (Entry A) → ℕ → Option (ℕ × Call) → Option FlowState
flow_in tables history line None = None
flow_in tables history line (Some found) =
    option_map (λ agreement. state_at (end_of found.1 line) (directions tables history found.0 found.1 agreement)) found.1.agreed

abbrev pub flow_at : {A : Type 0} → Tables → List (Entry A) → World → ℕ → Option FlowState
flow_at tables history world line = flow_in tables history line (call_on world line)

-- a live call: its lines, what was dialled, who pays, the moments of its request and of its answer, and the segments accepted from each end so far
abbrev pub call_view : {A : Type 0} → Tables → List (Entry A) → ℕ × Call → CallView
call_view tables history found = record {
  number = found.0;
  caller = found.1.caller;
  called = found.1.called;
  dialled = found.1.dialled;
  payer = found.1.setup.payer;
  requested = found.1.requested;
  connected = option_map (λ agreement. agreement.connected) found.1.agreed;
  from_caller = segments_of tables history found.0 found.1 Caller;
  from_called = segments_of tables history found.0 found.1 Called;
}

-- the call that a line is in
abbrev pub call_seen_on : {A : Type 0} → Tables → List (Entry A) → World → ℕ → Option CallView
call_seen_on tables history world line = option_map (call_view tables history) (call_on world line)
