-- The changes that an event makes, by its action in the table and by what was settled.
use Rattle.std.specs.Prelude.{ℕ, Option, None, Some, List, [], ◌∷◌, ◌++◌}
use Rattle.xp_causes.specs.Indicated.{indicated_cause, indicated_diagnostic}
use Rattle.xp_causes.specs.declared.clearing_cause.TheConstants.{NETWORK_CONGESTION, NUMBER_BUSY, OUT_OF_ORDER, REMOTE_PROCEDURE_ERROR}
use Rattle.xp_causes.specs.declared.diagnostic.TheConstants.{CALL_COLLISION, NO_ADDITIONAL_INFORMATION, TIMER_EXPIRED_FOR_INCOMING_CALL}
use Rattle.xp_channel.specs.declared.action.Action.{Action}
use Rattle.xp_channel.specs.declared.action.Action.TheVariants.{Nothing, Rise, Fall, NewCall, Collision, Answer, Confirm, Free, Error, Relayed, Expired}
use Rattle.xp_subs.specs.Tables.{Tables}
use Rattle.xp_step.specs.declared.entry.Entry.{Entry}
use Rattle.xp_step.specs.declared.event.What.{What}
use Rattle.xp_step.specs.declared.outcome.Outcome.{Outcome}
use Rattle.xp_step.specs.declared.outcome.Outcome.TheVariants.{Plain, Put, Refused, Connected, Declined, Exceeded}
use Rattle.xp_machine.specs.Changes.{Change, Rises, Leaves, Begins, IsRefused, Connects, Ends, NoCallState, GoesOut, IsFree, IsCleared}
use Rattle.xp_step.specs.StepContext.{StepContext, step_context}
use Rattle.xp_step.specs.Table.{CallRequest, ClearRequest, action_at, clear_in, request_in}
use Rattle.xp_machine.specs.World.{Call, World, call_on}

-- the line leaves the call that it is in, if it is in one, and that call ends
abbrev pub leaves : ℕ → NoCallState → ℕ → ℕ → Option (ℕ × Call) → Change
leaves line way cause diagnostic None = Leaves line way
leaves line way cause diagnostic (Some found) = Ends found.0 found.1 line way cause diagnostic

-- the call that was put to the line is cancelled
abbrev pub cancels : ℕ → Option (ℕ × Call) → List Change
cancels line None = []
cancels line (Some found) = Ends found.0 found.1 line IsFree NUMBER_BUSY CALL_COLLISION ∷ []

-- an incoming call is answered, as was settled
abbrev pub answers : ℕ → Option (ℕ × Call) → Outcome → List Change
answers line None outcome = []
answers line (Some found) (Connected agreement) = Connects found.0 found.1 agreement ∷ []
answers line (Some found) (Declined diagnostic) = leaves line IsCleared REMOTE_PROCEDURE_ERROR diagnostic (Some found) ∷ []
answers line (Some found) Plain = []
answers line (Some found) (Put called setup) = []
answers line (Some found) (Refused why) = []
answers line (Some found) Exceeded = []

-- a packet of a line in data transfer: the call ends if its data would have gone past the segment limit
abbrev pub carries : ℕ → Option (ℕ × Call) → Outcome → List Change
carries line found Exceeded = leaves line IsCleared NETWORK_CONGESTION NO_ADDITIONAL_INFORMATION found ∷ []
carries line found Plain = []
carries line found (Put called setup) = []
carries line found (Refused why) = []
carries line found (Connected agreement) = []
carries line found (Declined diagnostic) = []

module _ {A : Type 0} where
  -- a call request of this moment is put to a line, or refused, as was settled
  abbrev pub requests : ℕ → ℕ → Option (CallRequest A) → Outcome → List Change
  requests line moment None outcome = []
  requests line moment (Some request) (Put called setup) = Begins line request.identifier called request.block.called setup moment ∷ []
  requests line moment (Some request) (Refused why) = IsRefused line request.identifier request.block.called why ∷ []
  requests line moment (Some request) Plain = []
  requests line moment (Some request) (Connected agreement) = []
  requests line moment (Some request) (Declined diagnostic) = []
  requests line moment (Some request) Exceeded = []

  -- the call that was put to the line is cancelled, and the line's own request is put to a line, or refused
  abbrev pub collides : ℕ → ℕ → Option (CallRequest A) → Option (ℕ × Call) → Outcome → List Change
  collides line moment None found outcome = []
  collides line moment (Some request) found outcome = cancels line found ++ requests line moment (Some request) outcome

  -- a clear request: the line leaves the call that it is in, if it is in one
  abbrev pub confirms : ℕ → Option (ClearRequest A) → Option (ℕ × Call) → List Change
  confirms line None found = []
  confirms line (Some clear) found = leaves line IsFree (indicated_cause clear.cause) (indicated_diagnostic clear.diagnostic) found ∷ []

  -- the changes that an action makes, by its event and by what was settled
  abbrev pub effects_of : StepContext A → What A → Action → Outcome → List Change
  effects_of at what Nothing outcome = []
  effects_of at what Rise outcome = Rises at.line ∷ []
  effects_of at what Fall outcome = leaves at.line GoesOut OUT_OF_ORDER NO_ADDITIONAL_INFORMATION (call_on at.world at.line) ∷ []
  effects_of at what NewCall outcome = requests at.line at.moment (request_in what) outcome
  effects_of at what Collision outcome = collides at.line at.moment (request_in what) (call_on at.world at.line) outcome
  effects_of at what Answer outcome = answers at.line (call_on at.world at.line) outcome
  effects_of at what Confirm outcome = confirms at.line (clear_in what) (call_on at.world at.line)
  effects_of at what Free outcome = Leaves at.line IsFree ∷ []
  effects_of at what (Error diagnostic) outcome = leaves at.line IsCleared REMOTE_PROCEDURE_ERROR diagnostic (call_on at.world at.line) ∷ []
  effects_of at what Relayed outcome = carries at.line (call_on at.world at.line) outcome
  effects_of at what Expired outcome = leaves at.line IsCleared REMOTE_PROCEDURE_ERROR TIMER_EXPIRED_FOR_INCOMING_CALL (call_on at.world at.line) ∷ []

  -- the changes that an entry makes
  abbrev pub changes_of : Tables → List (Entry A) → World → Entry A → List Change
  changes_of tables before world entry =
      effects_of (step_context tables before world entry.event.line entry.event.moment) entry.event.what (action_at world entry.event) entry.outcome
