-- What is planned for a packet of a line.
use Rattle.std.proofs.Common.{arith, ◌≡◌, ◌∙◌, ℕ, Bool, true, false, Result, Ok, Err, IfOk, Option, Some, None, option_map, is_none, List, [], ◌∷◌, map, refl, ap, sym, subst}
use Rattle.xp_causes.specs.declared.clearing_cause.TheConstants.{NETWORK_CONGESTION}
use Rattle.xp_causes.specs.declared.diagnostic.TheConstants.{NO_ADDITIONAL_INFORMATION}
use Rattle.xp_charge.specs.Counted.{Counted}
use Rattle.xp_charge.specs.Meter.{counted_from}
use Rattle.xp_charge.specs.declared.meter.OverLimit.{OverLimit}
use Rattle.xp_packets.specs.declared.packet.Packet.{Packet}
use Rattle.xp_relay.specs.Coupled.{Coupled, received_by, sent_by}
use Rattle.xp_relay.specs.StoredCoupled.{Follows, StoredDirections, RepresentsCall}
use Rattle.xp_relay.specs.Turns.{turn_of}
use Rattle.xp_relay.specs.declared.moves.Move.{Move}
use Rattle.xp_machine.specs.declared.call.LiveCall.{LiveCall}
use Rattle.xp_step.specs.declared.event.What.{What}
use Rattle.xp_machine.specs.declared.agreement.Agreement.{Agreement}
use Rattle.xp_step.specs.declared.outcome.Outcome.{Outcome}
use Rattle.xp_step.specs.declared.outcome.Outcome.TheVariants.{Plain, Exceeded}
use Rattle.xp_step.specs.declared.output.Output.{Output}
use Rattle.xp_step.specs.declared.plan.Plan.{Plan}
use Rattle.xp_machine.specs.declared.relays.MeteredRelay.{MeteredRelay}
use Rattle.xp_step.specs.Acts.{Carries, CarriesAs, outputs_of_excess}
use Rattle.xp_step.specs.RelayedPackets.{RelayedPacket, relayed_by, directions, turn_of_relayed}
use Rattle.xp_machine.specs.CallEnds.{end_of}
use Rattle.xp_machine.specs.Changes.{IsCleared}
use Rattle.xp_step.specs.Effects.{carries, leaves}
use Rattle.xp_machine.specs.StoredState.{call_of_stored, entry_of}
use Rattle.xp_step.specs.Plan.{IsPlan, applied_by}
use Rattle.xp_step.specs.steps.Branches.{PlansRelayed}
use Rattle.xp_machine.specs.AppliedChange.{applied_if_any, freed_if_any}
use Rattle.xp_step.specs.Relays.{RelaysRepresentCalls, IsRepresentedBy, Relays, RelaysFor, RelaysOn, counted_by}
use Rattle.xp_machine.specs.Relays.{Counts, relay_under}
use Rattle.xp_machine.specs.Segments.{goes_past, judged}
use Rattle.xp_step.specs.Segments.{is_past_limit, judged_at}
use Rattle.xp_step.specs.StepContext.{StepContext}
use Rattle.xp_step.specs.Table.{packet_in}
use Rattle.xp_step.specs.EventOutputs.{EventOutputs, outputs_of_relayed, no_outputs, send_on}
use Rattle.xp_machine.specs.World.{Call, call_on}
use Rattle.xp_step.proofs.RelayedPackets.{carried_alone}
use Rattle.xp_step.proofs.Counting.{counted_here}
use Rattle.xp_machine.proofs.InCall.{shown_on}

pub some_of : {X : Type 0} (x : Option X) → is_none x ≡ false → (y : X) × (x ≡ Some y)
some_of x is = grind arith

pub none_of : {X : Type 0} (x : Option X) → is_none x ≡ true → x ≡ None
none_of x is = grind arith

-- two facts of a result
pub both_ok : {X E : Type 0} (result : Result X E) (P Q R : X → Type 0) → ((x : X) → P x → Q x → R x) → IfOk result P → IfOk result Q → IfOk result R
both_ok result P Q R leads one other = grind arith

module _ {A : Type 0} where
  abbrev carried_of : ℕ → ℕ × Call → Agreement → Packet A → RelayedPacket A
  carried_of line found agreement packet =
      record { number = found.0; call = found.1; agreement = agreement; arrival = record { here = end_of found.1 line; packet = packet } }

  no_packet : (line : ℕ) (found : Option (ℕ × Call)) → relayed_by {A = A} line found None ≡ None
  no_packet line found = grind arith

  -- the relay of a connected call is kept
  kept_under : (at : StepContext A) (call : LiveCall) → call_on at.world at.line ≡ Some (entry_of call) → (agreement : Agreement) → call.agreed ≡ Some agreement
      → (relays : List (Option (MeteredRelay A))) → RelaysRepresentCalls at.tables at.before at.world relays
      → IsRepresentedBy (relay_under relays call.caller) (directions at.tables at.before call.number (call_of_stored call) agreement) (counted_by at.tables at.before call.number (call_of_stored call) (Some agreement))
  kept_under at call on agreement agreed relays carried =
      carried call.number (call_of_stored call) agreement (shown_on at.world at.line (entry_of call) on).1 agreed

  pub never_lost : (at : StepContext A) (call : LiveCall) → call_on at.world at.line ≡ Some (entry_of call) → (agreement : Agreement) → call.agreed ≡ Some agreement
      → (relays : List (Option (MeteredRelay A))) → RelaysRepresentCalls at.tables at.before at.world relays → None ≡ relay_under relays call.caller → ⊥
  never_lost at call on agreement agreed relays carried none =
      let P : Option (MeteredRelay A) → Type 0 =
      λ r. IsRepresentedBy r (directions at.tables at.before call.number (call_of_stored call) agreement) (counted_by at.tables at.before call.number (call_of_stored call) (Some agreement)) in
      subst P (sym none) (kept_under at call on agreement agreed relays carried)

  module _ (at : StepContext A) (what : What A) (plan : Plan A) where
    abbrev by : Option (RelayedPacket A)
    by = relayed_by at.line (call_on at.world at.line) (packet_in what)

    -- what is planned for a packet, or for none
    abbrev Planned : Option (RelayedPacket A) → Type 0
    Planned c =
        (told : EventOutputs A) × Carries at c plan.outcome told × Relays at.tables at.before c (carries at.line (call_on at.world at.line) plan.outcome) plan.relay_update
        × IsPlan plan at told (carries at.line (call_on at.world at.line) plan.outcome)

    planned_so : (c : Option (RelayedPacket A)) → by ≡ c → Planned c → PlansRelayed at what plan
    planned_so c is planned = grind arith

    -- nothing changes
    abbrev quietly : EventOutputs A → Type 0
    quietly told = IsPlan plan at told (carries at.line (call_on at.world at.line) plan.outcome)

    still : (told : EventOutputs A) → plan.outcome ≡ Plain → IsPlan plan at told [] → quietly told
    still told plain planned = grind arith

    nothing_carried : by ≡ None → plan.outcome ≡ Plain → plan.relay_update ≡ None → IsPlan plan at no_outputs [] → PlansRelayed at what plan
    nothing_carried none plain quiet planned =
        let R : Outcome → Type 0 = λ o. RelaysFor at.tables (carries at.line (call_on at.world at.line) o) plan.relay_update in
        planned_so None none (no_outputs, (plain, refl), subst R (sym plain) quiet, still no_outputs plain planned)

    -- a line in no call
    pub in_no_call : call_on at.world at.line ≡ None → plan.outcome ≡ Plain → plan.relay_update ≡ None → IsPlan plan at no_outputs [] → PlansRelayed at what plan
    in_no_call is = nothing_carried (ap (λ found. relayed_by at.line found (packet_in what)) is)

    -- no packet
    pub of_no_packet : None ≡ packet_in what → plan.outcome ≡ Plain → plan.relay_update ≡ None → IsPlan plan at no_outputs [] → PlansRelayed at what plan
    of_no_packet is = nothing_carried (ap (relayed_by at.line (call_on at.world at.line)) (sym is) ∙ no_packet at.line (call_on at.world at.line))

    module _ (call : LiveCall) (on : call_on at.world at.line ≡ Some (entry_of call)) (packet : Packet A) (is : Some packet ≡ packet_in what) where
      by_this : by ≡ option_map (λ agreement. carried_of at.line (entry_of call) agreement packet) call.agreed
      by_this = ap (λ found. relayed_by at.line found (packet_in what)) on ∙ ap (relayed_by at.line (Some (entry_of call))) (sym is)

      -- a call that is not connected
      pub unconnected : call.agreed ≡ None → plan.outcome ≡ Plain → plan.relay_update ≡ None → IsPlan plan at no_outputs [] → PlansRelayed at what plan
      unconnected none = nothing_carried (by_this ∙ ap (option_map (λ agreement. carried_of at.line (entry_of call) agreement packet)) none)

      module _ (agreement : Agreement) (agreed : call.agreed ≡ Some agreement) (relays : List (Option (MeteredRelay A))) (carried : RelaysRepresentCalls at.tables at.before at.world relays)
          (kept : MeteredRelay A) (under : Some kept ≡ relay_under relays call.caller) where
        abbrev its : RelayedPacket A
        its = carried_of at.line (entry_of call) agreement packet

        abbrev shown : Coupled A
        shown = directions at.tables at.before call.number (call_of_stored call) agreement

        abbrev meter : Counted
        meter = counted_by at.tables at.before call.number (call_of_stored call) (Some agreement)

        abbrev judged_it : Option ℕ
        judged_it = judged_at shown its.arrival

        it_shows : IsRepresentedBy (Some kept) shown meter
        it_shows =
            let P : Option (MeteredRelay A) → Type 0 = λ r. IsRepresentedBy r shown meter in
            subst P (sym under) (kept_under at call on agreement agreed relays carried)

        it_is : by ≡ Some its
        it_is = by_this ∙ ap (option_map (λ a. carried_of at.line (entry_of call) a packet)) agreed

        -- its meter says whether the packet is past the limit
        abbrev Counting : Result Counted OverLimit → Type 0
        Counting result = (before : Coupled A) → RepresentsCall kept.relay before
            → Counts kept.meter its.arrival.here (judged packet (sent_by its.arrival.here before) (received_by its.arrival.here before)) result

        counted_so : (result : Result Counted OverLimit) → Counting result → Counts meter its.arrival.here judged_it result
        counted_so result counts = grind (arith, it_shows)

        past_is : (past : Bool) → goes_past at.tables.segment_limit (counted_from its.arrival.here meter) judged_it ≡ past
            → is_past_limit at.tables at.before (Some its) ≡ past
        past_is past is' = ap (λ n. goes_past at.tables.segment_limit n judged_it) (sym (counted_here at.tables at.before call.number (call_of_stored call) (Some agreement) its.arrival.here)) ∙ is'

        pub goes_through : (result : Result Counted OverLimit) (counted : Counted) → result ≡ Ok counted → Counting result
            → (relay : StoredDirections A) (moves : List (Move A))
            → ((before : Coupled A) → RepresentsCall kept.relay before → Follows its.arrival.here (turn_of its.arrival.here packet) before relay moves)
            → plan.outcome ≡ Plain → plan.relay_update ≡ Some (record { caller = call.caller; metered = record { relay = relay; meter = counted } })
            → plan.outputs.outputs ≡ map (send_on at.world (call_of_stored call)) moves → plan.cancelled ≡ None → plan.change ≡ None → plan.records.items ≡ []
            → PlansRelayed at what plan
        goes_through result counted ok counts relay moves follows plain relay_update outputs uncancelled unchanged none =
            let C : Result Counted OverLimit → Type 0 = λ r. Counts meter its.arrival.here judged_it r in
            let within = subst C ok (counted_so result counts) in
            let past : is_past_limit at.tables at.before (Some its) ≡ false = past_is false within.0 in
            let it = follows shown it_shows.0 in
            let told : EventOutputs A = outputs_of_relayed at.tables at.before at.world (Some its) in
            let A' : Bool → Type 0 = λ b. CarriesAs at (Some its) b plan.outcome told in
            let R' : Bool → Type 0 = λ b. RelaysOn at.tables at.before its b plan.relay_update in
            let sent : List (Output A) = map (send_on at.world (call_of_stored call)) (turn_of_relayed at.tables at.before its).moves in
            planned_so (Some its) it_is (
              told,
              subst A' (sym past) (plain, refl),
              subst R' (sym past) (record { metered = record { relay = relay; meter = counted }; kept = relay_update; shows = (it.shown, within.1) }),
              still told plain (record {
                outputs = outputs ∙ ap (map (send_on at.world (call_of_stored call))) it.moves ∙ carried_alone sent;
                records = none;
                does = planned_nothing uncancelled unchanged;
              }),
            )
          where
            planned_nothing : plan.cancelled ≡ None → plan.change ≡ None → applied_by plan at.world ≡ at.world
            planned_nothing uncancelled unchanged = ap (λ c. applied_if_any c (freed_if_any plan.cancelled at.world)) unchanged ∙ ap (λ l. freed_if_any l at.world) uncancelled

        pub goes_beyond : (result : Result Counted OverLimit) (over : OverLimit) → result ≡ Err over → Counting result
            → plan.outcome ≡ Exceeded → plan.relay_update ≡ None
            → IsPlan plan at (outputs_of_excess at) (leaves at.line IsCleared NETWORK_CONGESTION NO_ADDITIONAL_INFORMATION (call_on at.world at.line) ∷ [])
            → PlansRelayed at what plan
        goes_beyond result over err counts exceeded quiet planned =
            let C : Result Counted OverLimit → Type 0 = λ r. Counts meter its.arrival.here judged_it r in
            let past : is_past_limit at.tables at.before (Some its) ≡ true = past_is true (subst C err (counted_so result counts)) in
            let A' : Bool → Type 0 = λ b. CarriesAs at (Some its) b plan.outcome (outputs_of_excess at) in
            let R' : Bool → Type 0 = λ b. RelaysOn at.tables at.before its b plan.relay_update in
            let P : Outcome → Type 0 = λ o. IsPlan plan at (outputs_of_excess at) (carries at.line (call_on at.world at.line) o) in
            planned_so (Some its) it_is (
              outputs_of_excess at,
              subst A' (sym past) (exceeded, refl),
              subst R' (sym past) quiet,
              subst P (sym exceeded) planned,
            )
