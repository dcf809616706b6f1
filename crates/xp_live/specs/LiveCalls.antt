-- The calls that are connected, as they would have ended if the exchange died now (`live_calls`).
use Rattle.std.specs.Prelude.{ℕ, zero, suc, ◌==◌, ◌&&◌, nat_lt, Bool, if◌then◌else◌, Option, None, Some, List, [], ◌∷◌, ◌++◌, is_some, length, slice_get}
use Rattle.xp_causes.specs.declared.clearing_cause.TheConstants.{OUT_OF_ORDER}
use Rattle.xp_causes.specs.declared.diagnostic.TheConstants.{NO_ADDITIONAL_INFORMATION}
use Rattle.xp_cdr.specs.Ended.{ended_as}
use Rattle.xp_cdr.specs.declared.ended.EndedBy.TheVariants.{Partial}
use Rattle.xp_cdr.specs.declared.ended.EndedCall.{EndedCall}
use Rattle.xp_charge.specs.declared.record.Record.{Record}
use Rattle.xp_core.specs.declared.call_view.CallView.{CallView}
use Rattle.xp_subs.specs.Tables.{Tables, line_count}
use Rattle.xp_view.specs.declared.view.LineWithCall.{LineWithCall}

-- the record of a call that the end of its exchange cuts off at a moment: out of order, and no additional information
abbrev pub partial_record : ℕ → CallView → Record
partial_record moment call = record {
  number = call.number;
  caller = call.caller;
  called = Some call.called;
  dialled = call.dialled;
  payer = call.payer;
  from_caller = call.from_caller;
  from_called = call.from_called;
  cause = OUT_OF_ORDER;
  diagnostic = NO_ADDITIONAL_INFORMATION;
  requested = call.requested;
  connected = call.connected;
  ended = moment;
}

-- told by these subscriptions
abbrev pub partial_call : Tables → ℕ → CallView → EndedCall
partial_call tables moment call = ended_as tables Partial (partial_record moment call)

-- whether a call is connected, this line is its caller's, and both of its lines are among so many
abbrev pub is_live : ℕ → ℕ → CallView → Bool
is_live lines line call = is_some call.connected && call.caller == line && nat_lt call.caller lines && nat_lt call.called lines

-- the call that a line is in, if it is so; a call is seen at both of its lines, and taken at its caller's
abbrev pub live_call : Tables → ℕ → ℕ → Option CallView → List EndedCall
live_call tables moment line None = []
live_call tables moment line (Some call) = if is_live (line_count tables) line call then partial_call tables moment call ∷ [] else []

abbrev pub live_call_at : Tables → ℕ → ℕ → Option LineWithCall → List EndedCall
live_call_at tables moment line None = []
live_call_at tables moment line (Some seen) = live_call tables moment line seen.call

-- those of the first `count` lines, in the order of lines
abbrev pub live_calls_of : Tables → ℕ → List LineWithCall → ℕ → List EndedCall
live_calls_of tables moment seen zero = []
live_calls_of tables moment seen (suc line) = live_calls_of tables moment seen line ++ live_call_at tables moment line (slice_get seen line)

-- those of all lines that are seen
abbrev pub live_calls : Tables → ℕ → List LineWithCall → List EndedCall
live_calls tables moment seen = live_calls_of tables moment seen (length seen)
