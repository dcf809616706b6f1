-- What is seen of the call that a line is in.
use Rattle.std.proofs.Common.{◌≡◌, ◌∙◌, ℕ, List, None, Some, ap, option_map, sym}
use Rattle.xp_charge.specs.Counted.{Counted}
use Rattle.xp_core.specs.declared.call_view.CallView.{CallView}
use Rattle.xp_step.specs.declared.entry.Entry.{Entry}
use Rattle.xp_step.specs.declared.plan.event_line.MeteredCall.{MeteredCall}
use Rattle.xp_step.specs.StepContext.{step_context}
use Rattle.xp_core.specs.View.{call_seen_on, call_view}
use Rattle.xp_step.specs.EventLine.{IsMeteredCall}
use Rattle.xp_machine.specs.World.{World}
use Rattle.xp_machine.specs.declared.call.LiveCall.{LiveCall}
use Rattle.xp_subs.specs.Tables.{Tables}

-- what is shown of a live call of which this was counted
abbrev pub shown_of : LiveCall → Counted → CallView
shown_of call counted = record {
  number = call.number;
  caller = call.caller;
  called = call.called;
  dialled = call.dialled;
  payer = call.setup.payer;
  requested = call.requested;
  connected = option_map (λ agreement. agreement.connected) call.agreed;
  from_caller = counted.from_caller;
  from_called = counted.from_called;
}

module _ {A : Type 0} (tables : Tables) (history : List (Entry A)) (world : World) (line moment : ℕ) where
  pub seen_in_none : IsMeteredCall (step_context tables history world line moment) None → None ≡ call_seen_on tables history world line
  seen_in_none is = ap (option_map (call_view tables history)) (sym is)

  pub seen_in_call : (found : MeteredCall) → IsMeteredCall (step_context tables history world line moment) (Some found)
      → Some (shown_of found.call.now found.meter) ≡ call_seen_on tables history world line
  seen_in_call found is = ap (λ counted. Some (shown_of found.call.now counted)) is.1 ∙ ap (option_map (call_view tables history)) (sym is.0)
