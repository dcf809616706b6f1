-- What the entries of a history show of a connected call is what its relay was handed, and what it put out.
use Rattle.std.proofs.Common.{arith, ◌≡◌, ◌≢◌, ◌∙◌, ℕ, Bool, true, false, Option, Some, None, option_map, List, [], ◌∷◌, ◌++◌, append-nil, length, map, refl, ap, sym, subst, inl, inr}
use Rattle.std.proofs.lemmas.List.{map-append}
use Rattle.std.proofs.lemmas.Bool.{cases_eq, cond-false, cond-true, eq-eqb, ne_eqb}
use Rattle.xp_causes.specs.Indicated.{indicated_cause, indicated_diagnostic}
use Rattle.xp_causes.specs.declared.clearing_cause.TheConstants.{OUT_OF_ORDER, REMOTE_PROCEDURE_ERROR}
use Rattle.xp_causes.specs.declared.diagnostic.TheConstants.{NO_ADDITIONAL_INFORMATION}
use Rattle.xp_channel.specs.declared.action.Action.{Action}
use Rattle.xp_channel.specs.declared.action.Action.TheVariants.{Nothing, Fall, Confirm, Error, Relayed}
use Rattle.xp_packets.specs.declared.end.End.{End}
use Rattle.xp_packets.specs.declared.packet.Packet.{Packet}
use Rattle.xp_packets.specs.declared.packet.Packet.TheVariants as packets
use Rattle.xp_packets.specs.Diagnostics.{diagnostic_of}
use Rattle.xp_relay.specs.declared.moves.Move.{Move}
use Rattle.xp_relay.specs.declared.terms.Terms.{Terms}
use Rattle.xp_relay.specs.Coupled.{Coupled, after, coupled}
use Rattle.xp_relay.specs.Observed.{Observed, nothing_observed, observe_arrival, observe_moves, observed, observed_over}
use Rattle.xp_relay.specs.Runs.{Arrival, Handled, handled_over, run as run_of, turn_on}
use Rattle.xp_subs.specs.Tables.{Tables, line_count}
use Rattle.xp_step.specs.declared.entry.Entry.{Entry}
use Rattle.xp_step.specs.declared.event.What.{What}
use Rattle.xp_step.specs.declared.event.What.TheVariants as events
use Rattle.xp_step.specs.Acts.{Acts, CarriesAs}
use Rattle.xp_step.specs.Effects.{changes_of, effects_of, leaves}
use Rattle.xp_step.specs.EventOutputs.{outputs_of, send_on}
use Rattle.xp_step.specs.RelayedPackets.{RelayedPacket, arrivals, relay_terms, relayed_as, relayed_by, relayed_in, directions}
use Rattle.xp_step.specs.Run.{Run}
use Rattle.xp_step.specs.Segments.{is_past_limit}
use Rattle.xp_step.specs.Step.{Step}
use Rattle.xp_step.specs.StepContext.{StepContext, step_context}
use Rattle.xp_step.specs.Table.{action_at, action_in, packet_in}
use Rattle.xp_machine.specs.declared.agreement.Agreement.{Agreement}
use Rattle.xp_machine.specs.CallEnds.{end_of as which_end, line_at_end}
use Rattle.xp_machine.specs.Changes.{Connects, Ends, NoCallState, GoesOut, IsCleared, IsFree}
use Rattle.xp_machine.specs.Channel.{Talking, call_of, channel_of}
use Rattle.xp_machine.specs.Coupling.{IsEnd, IsHeld}
use Rattle.xp_machine.specs.World.{Call, World, call_numbered, call_on, numbered, opening, state_at}
use Rattle.std.specs.FinMap.{get-empty}
use Rattle.std.specs.Ordering.{nat_cmp}
use Rattle.xp_core.specs.Delivered.{arrival_of, came_in, end_at, handled_in, move_to, put_out_to}
use Rattle.xp_core.specs.Records.{Connects as HasConnected, Moment}
use Rattle.xp_step.proofs.RelayedPackets.{arrivals_on, arrivals_still, carried_alone, is_relayed, of_carried}
use Rattle.xp_step.proofs.RunLemmas.{run_keeps, run_push}
use Rattle.xp_machine.proofs.InCall.{end_of, shown_on}
use Rattle.xp_machine.proofs.Maps.{get_gone}
use Rattle.xp_core.proofs.Elsewhere.{all_off, no_end_here, nothing_put_out}
use Rattle.xp_core.proofs.Ledger.{here, lift}
use Rattle.xp_core.proofs.Live.{begun, joined, same, was}
use Rattle.xp_core.proofs.Moments.{connected_here}
use Rattle.xp_core.proofs.Relaying.{run_unused}
use Rattle.xp_core.proofs.Sounds.{IsRight, run_right}
use Rattle.xp_core.proofs.Worlds.{run_world}

-- ---- the ends of a call

end_of_line : (call : Call) (line : ℕ) → call.caller ≢ call.called → IsEnd call line → end_at call line ≡ Some (which_end call line)
end_of_line call line one other = grind (arith, cond-false, cond-true, eq-eqb, ne_eqb)

end_of_side : (call : Call) (side : End) → call.caller ≢ call.called → end_at call (line_at_end call side) ≡ Some side
end_of_side call side one = grind (arith, cond-false, cond-true, eq-eqb, ne_eqb)

module _ {A : Type 0} where
  -- ---- lists of what is handled

  abbrev handling : Option (Arrival A) → List (Move A) → Handled A
  handling came moves = record { came = came; moves = moves }

  abbrev nothing : Handled A
  nothing = record { came = None; moves = [] }

  observed_more : (terms : Terms) (sender : End) (seen : Observed A) (handled : List (Handled A)) (last : Handled A)
      → observed_over terms sender seen (handled ++ last ∷ [])
      ≡ observe_moves sender (observe_arrival terms sender (observed_over terms sender seen handled) last.came) last.moves
  observed_more terms sender seen [] last = refl
  observed_more terms sender seen (first ∷ rest) last =
      observed_more terms sender (observe_moves sender (observe_arrival terms sender seen first.came) first.moves) rest last

  handled_more : (call : Coupled A) (before : List (Arrival A)) (arrival : Arrival A) → handled_over call (before ++ arrival ∷ [])
      ≡ handled_over call before ++ record { came = Some arrival; moves = (turn_on (run_of call before) arrival).moves } ∷ []
  handled_more call [] arrival = refl
  handled_more call (first ∷ rest) arrival =
      ap (λ more. handling (Some first) (turn_on call first).moves ∷ more) (handled_more (after first.here (turn_on call first)) rest arrival)

  -- where nothing comes and nothing is put out, nothing is seen
  nothing_more : (sender : End) (seen : Observed A) → observe_moves sender seen [] ≡ seen
  nothing_more sender seen = grind (arith, append-nil)

  -- what is put out for a call is the moves of its relay
  put_out_moves : (world : World) (call : Call) → call.caller ≢ call.called → (moves : List (Move A)) → put_out_to call (map (send_on world call) moves) ≡ moves
  put_out_moves world call two [] = refl
  put_out_moves world call two (move ∷ moves) =
      ap (λ end. move_to end (send_on world call move).outgoing.put ++ put_out_to call (map (send_on world call) moves)) (end_of_side call move.side two)
      ∙ ap (λ rest. move ∷ rest) (put_out_moves world call two moves)

  arrival_none : (end : Option End) → arrival_of {A = A} end None ≡ None
  arrival_none end = grind arith

  -- ---- one entry, of a connected call that stays live

  -- it is nothing for the call, or one packet of it that is relayed
  pub data IsHandled (tables : Tables) (before : List (Entry A)) (entry : Entry A) (number : ℕ) (call : Call) (agreement : Agreement) : Type 0 where
    still : handled_in call entry ≡ nothing → arrivals tables (before ++ entry ∷ []) number ≡ arrivals tables before number → IsHandled tables before entry number call agreement
    one : (arrival : Arrival A) → handled_in call entry ≡ record { came = Some arrival; moves = (turn_on (directions tables before number call agreement) arrival).moves }
        → arrivals tables (before ++ entry ∷ []) number ≡ arrivals tables before number ++ arrival ∷ [] → IsHandled tables before entry number call agreement

  module _ (tables : Tables) (before : List (Entry A)) (world : World) (entry : Entry A) (next : World) (run : Run tables before world)
      (step : Step tables before world entry next) (number : ℕ) (call : Call) (agreement : Agreement)
      (there : call_numbered world number ≡ Some call) (agreed : call.agreed ≡ Some agreement) (live : call_numbered next number ≡ Some call) where
    abbrev line : ℕ
    line = entry.event.line

    abbrev at : StepContext A
    at = step_context tables before world line entry.event.moment

    abbrev grown : List (Entry A)
    grown = before ++ entry ∷ []

    abbrev Result : Type 0
    Result = IsHandled tables before entry number call agreement

    right : IsRight tables (length before) world
    right = run_right tables before world run

    held : IsHeld tables world number call
    held = right.coupled.held number call there

    -- both lines are in data transfer
    talks : (state_at world call.caller ≡ Talking number) × (state_at world call.called ≡ Talking number)
    talks = elim held.stage [
      | inl put ↦ let none : call.agreed ≡ None = put.2 in absurd (cc)
      | inr accepted ↦ (accepted.0, accepted.1)
    ]

    -- ---- an event of another line

    module _ (outside : call_of (state_at world line) ≡ Some number → ⊥) where
      none_carried : (c : RelayedPacket A) → relayed_in world entry.event ≡ Some c → number ≢ c.number
      none_carried c by is = grind (arith, is_relayed, of_carried, shown_on)

      elsewhere : Result
      elsewhere =
          let came : came_in call entry.event ≡ None =
          ap (λ end. arrival_of end (packet_in entry.event.what)) (no_end_here at entry.event.what right.coupled number outside call held) in
          let silent : put_out_to call entry.outputs ≡ [] =
          ap (put_out_to call) step.outputs ∙ nothing_put_out at entry.event.what right.coupled number outside call held step.told
          (all_off at entry.event.what right.coupled number outside (action_at world entry.event) entry.outcome step.told step.acts) in
          still (ap (λ c. handling c (put_out_to call entry.outputs)) came ∙ ap (λ ms. handling None ms) silent)
          (arrivals_still tables before world entry number (run_world tables before world run) none_carried)

    -- ---- an event of one of its lines

    module _ (shows : call_of (state_at world line) ≡ Some number) where
      end : IsEnd call line
      end = end_of tables world right.coupled line number call shows there

      talking : state_at world line ≡ Talking number
      talking = grind (arith, end, talks)

      on : call_on world line ≡ Some (number, call)
      on = ap (numbered world) shows ∙ ap (option_map (λ c. (number, c))) there

      -- the call does not end
      not_ended : (way : NoCallState) (cause diagnostic : ℕ) → changes_of tables before world entry ≡ Ends number call line way cause diagnostic ∷ [] → ⊥
      not_ended way cause diagnostic ends = grind (arith, get_gone)

      -- ---- by its action

      module _ (what : What A) (is : entry.event.what ≡ what) where
        action_of : (action : Action) → action_in (channel_of (Talking number)) what ≡ action → action_at world entry.event ≡ action
        action_of action cell_is = grind (arith, talking)

        changes_are : (action : Action) → action_at world entry.event ≡ action → changes_of tables before world entry ≡ effects_of at what action entry.outcome
        changes_are action action_is = grind arith

        leaving : (way : NoCallState) (cause diagnostic : ℕ) → changes_of tables before world entry ≡ leaves line way cause diagnostic (call_on world line) ∷ [] → Result
        leaving way cause diagnostic changes = grind (arith, not_ended)

        acts_as : (action : Action) → action_at world entry.event ≡ action → Acts at what action entry.outcome step.told
        acts_as action action_is = grind arith

        -- nothing is done
        idle : action_at world entry.event ≡ Nothing → packet_in what ≡ None → Result
        idle action_is none = grind (arith, acts_as, arrival_none, arrivals_still, run_world)

        -- a packet is relayed
        module _ (packet : Packet A) (action_is : action_at world entry.event ≡ Relayed) (brings : packet_in what ≡ Some packet) where
          abbrev arrival : Arrival A
          arrival = record { here = which_end call line; packet = packet }

          abbrev c : RelayedPacket A
          c = record { number = number; call = call; agreement = agreement; arrival = arrival }

          abbrev agreed_on : Agreement → RelayedPacket A
          agreed_on a = record { number = number; call = call; agreement = a; arrival = arrival }

          by_line : relayed_by line (call_on world line) (packet_in what) ≡ Some c
          by_line = grind arith

          by : relayed_in world entry.event ≡ Some c
          by = grind (arith, by_line)

          abbrev moves : List (Move A)
          moves = (turn_on (directions tables before number call agreement) arrival).moves

          carried : (past : Bool) → CarriesAs at (Some c) past entry.outcome step.told → Result
          carried true acts = grind (arith, changes_are, not_ended)
          carried false acts =
              let came : came_in call entry.event ≡ Some arrival = grind (arith, end, end_of_line) in
              let outputs : put_out_to call entry.outputs ≡ moves =
              ap (put_out_to call) (step.outputs ∙ ap outputs_of acts.1 ∙ sym (carried_alone (map (send_on world call) moves)))
              ∙ put_out_moves world call held.two moves in
              one arrival (ap (λ a. handling a (put_out_to call entry.outputs)) came ∙ ap (λ ms. handling (Some arrival) ms) outputs)
              (arrivals_on tables before world entry c (run_world tables before world run) by)

          relays : Result
          relays = carried (is_past_limit tables before (Some c))
              (subst (λ r. CarriesAs at r (is_past_limit tables before r) entry.outcome step.told) by_line (acts_as Relayed action_is))

      errs : (what : What A) (is : entry.event.what ≡ what) (diagnostic : ℕ) → action_in (channel_of (Talking number)) what ≡ Error diagnostic → Result
      errs what is diagnostic cell_is =
          leaving what is IsCleared REMOTE_PROCEDURE_ERROR diagnostic (changes_are what is (Error diagnostic) (action_of what is (Error diagnostic) cell_is))

      falls : (what : What A) (is : entry.event.what ≡ what) → action_in (channel_of (Talking number)) what ≡ Fall → Result
      falls what is cell_is =
          leaving what is GoesOut OUT_OF_ORDER NO_ADDITIONAL_INFORMATION (changes_are what is Fall (action_of what is Fall cell_is))

      relays_it : (identifier : ℕ) (packet : Packet A) → entry.event.what ≡ events.Frame identifier packet
          → action_in (channel_of (Talking number)) (events.Frame identifier packet) ≡ Relayed → Result
      relays_it identifier packet is cell_is =
          relays (events.Frame identifier packet) is packet (action_of (events.Frame identifier packet) is Relayed cell_is) refl

      by_packet : (identifier : ℕ) (packet : Packet A) → entry.event.what ≡ events.Frame identifier packet → Result
      by_packet identifier (packets.Call d block) is = errs (events.Frame identifier (packets.Call d block)) is 23 refl
      by_packet identifier (packets.Accepted d block) is = errs (events.Frame identifier (packets.Accepted d block)) is 23 refl
      by_packet identifier (packets.ClearConfirm block) is = errs (events.Frame identifier (packets.ClearConfirm block)) is 23 refl
      by_packet identifier (packets.Clear cause diagnostic block) is =
          let what : What A = events.Frame identifier (packets.Clear cause diagnostic block) in
          leaving what is IsFree (indicated_cause cause) (indicated_diagnostic diagnostic) (changes_are what is Confirm (action_of what is Confirm refl))
      by_packet identifier (packets.DataPacket q d more ps pr octets) is = relays_it identifier (packets.DataPacket q d more ps pr octets) is refl
      by_packet identifier (packets.Ready pr) is = relays_it identifier (packets.Ready pr) is refl
      by_packet identifier (packets.NotReady pr) is = relays_it identifier (packets.NotReady pr) is refl
      by_packet identifier (packets.Reject pr) is = relays_it identifier (packets.Reject pr) is refl
      by_packet identifier (packets.Interrupt octets) is = relays_it identifier (packets.Interrupt octets) is refl
      by_packet identifier packets.InterruptConfirm is = relays_it identifier packets.InterruptConfirm is refl
      by_packet identifier (packets.Reset cause diagnostic) is = relays_it identifier (packets.Reset cause diagnostic) is refl
      by_packet identifier packets.ResetConfirm is = relays_it identifier packets.ResetConfirm is refl

      by_what : (what : What A) → entry.event.what ≡ what → Result
      by_what events.Up is = idle events.Up is (action_of events.Up is Nothing refl) refl
      by_what events.Expire is = idle events.Expire is (action_of events.Expire is Nothing refl) refl
      by_what events.Reload is = idle events.Reload is (action_of events.Reload is Nothing refl) refl
      by_what events.Down is = falls events.Down is refl
      by_what events.Stall is = falls events.Stall is refl
      by_what (events.WrongFrame wrong) is = errs (events.WrongFrame wrong) is (diagnostic_of wrong) refl
      by_what (events.Frame identifier packet) is = by_packet identifier packet is

      within : Result
      within = by_what entry.event.what refl

    pub handled : Result
    handled = by (call_of (state_at world line)) refl where
      by : (shown : Option ℕ) → call_of (state_at world line) ≡ shown → Result
      by None none = elsewhere (λ shows. let never : None ≡ Some number = sym none ∙ shows in absurd (cc))
      by (Some other) shows = elim (cases_eq other number) [
        | inl is ↦ within (shows ∙ ap Some is)
        | inr differs ↦ elsewhere (λ mine. let both : Some other ≡ Some number = sym shows ∙ mine in differs (cc))
      ]

  -- ---- whole histories

  -- what the entries since a place show of a call is what its relay was handed and put out
  pub record IsSeen (tables : Tables) (before : List (Entry A)) (number : ℕ) (call : Call) (agreement : Agreement) : Type 0 where
    pub connecting : Moment tables before
    pub connects : HasConnected connecting number
    pub seen : (sender : End) → observed (relay_terms tables call agreement) sender (map (handled_in call) connecting.rest)
        ≡ observed (relay_terms tables call agreement) sender (handled_over (coupled (relay_terms tables call agreement)) (arrivals tables before number))

  abbrev AreSeen : Tables → List (Entry A) → World → Type 0
  AreSeen tables before world =
      (number : ℕ) (call : Call) (agreement : Agreement) → call_numbered world number ≡ Some call → call.agreed ≡ Some agreement → IsSeen tables before number call agreement

  module _ (tables : Tables) (before : List (Entry A)) (world : World) (entry : Entry A) (next : World) (run : Run tables before world)
      (step : Step tables before world entry next) (old : AreSeen tables before world) where
    -- one entry more of a call that was connected
    module _ (number : ℕ) (call : Call) (agreement : Agreement) (there : call_numbered world number ≡ Some call) (agreed : call.agreed ≡ Some agreement)
        (live : call_numbered next number ≡ Some call) where
      abbrev terms : Terms
      terms = relay_terms tables call agreement

      abbrev was_seen : IsSeen tables before number call agreement
      was_seen = old number call agreement there agreed

      abbrev so_far : End → Observed A
      so_far sender = observed terms sender (handled_over (coupled terms) (arrivals tables before number))

      led_on : (sender : End) → IsHandled tables before entry number call agreement
          → observe_moves sender (observe_arrival terms sender (so_far sender) (handled_in call entry).came) (handled_in call entry).moves
          ≡ observed terms sender (handled_over (coupled terms) (arrivals tables (before ++ entry ∷ []) number))
      led_on sender (still is unchanged) =
          ap (λ h. observe_moves sender (observe_arrival terms sender (so_far sender) h.came) h.moves) is
          ∙ nothing_more sender (so_far sender)
          ∙ ap (λ xs. observed terms sender (handled_over (coupled terms) xs)) (sym unchanged)
      led_on sender (one arrival is more) = grind (arith, handled_more, observed_more)

      seen_on : IsSeen tables (before ++ entry ∷ []) number call agreement
      seen_on = record {
        connecting = lift tables before (before ++ entry ∷ []) (entry ∷ []) refl was_seen.connecting;
        connects = record { answers = was_seen.connects.answers; rings = was_seen.connects.rings; agreement = was_seen.connects.agreement; settled = was_seen.connects.settled };
        seen = λ sender.
            ap (observed terms sender) (map-append (handled_in call) was_seen.connecting.rest (entry ∷ []))
            ∙ observed_more terms sender nothing_observed (map (handled_in call) was_seen.connecting.rest) (handled_in call entry)
            ∙ ap (λ seen. observe_moves sender (observe_arrival terms sender seen (handled_in call entry).came) (handled_in call entry).moves) (was_seen.seen sender)
            ∙ led_on sender (handled tables before world entry next run step number call agreement there agreed live);
      }

    -- a call that the entry connects
    seen_first : (number : ℕ) (call first : Call) (agreement a : Agreement) → call_numbered world number ≡ Some first → first.agreed ≡ None
        → changes_of tables before world entry ≡ Connects number first a ∷ [] → IsSeen tables (before ++ entry ∷ []) number call agreement
    seen_first number call first agreement a there unagreed connects =
        let joins = connected_here tables before world entry next run (run_right tables before world run) step number first a connects in
        let none : relayed_in world entry.event ≡ None =
        ap (λ action. relayed_as action (relayed_by entry.event.line (call_on world entry.event.line) (packet_in entry.event.what))) joins.0.answers in
        let empty : arrivals tables (before ++ entry ∷ []) number ≡ [] = grind (arith, arrivals_still, by, run_unused, run_world) in
        record {
          connecting = here tables before world entry next run step;
          connects = joins.0;
          seen = λ sender. ap (λ xs. observed (relay_terms tables call agreement) sender (handled_over (coupled (relay_terms tables call agreement)) xs)) (sym empty);
        }

    seen_next : AreSeen tables (before ++ entry ∷ []) next
    seen_next number call agreement live agreed = elim (was tables before world entry next (length before) (run_right tables before world run) step number call live) [
      | same there other ↦ seen_on number call agreement there agreed live
      | begun number_is none ↦ absurd (cc)
      | joined first a there unagreed connects becomes ↦ seen_first number call first agreement a there unagreed connects
    ]

  pub run_seen : (tables : Tables) (history : List (Entry A)) (world : World) → Run tables history world → AreSeen tables history world
  run_seen tables history world run =
      (run_keeps (λ before w. AreSeen tables before w × Run tables before w) tables
      (λ before w entry next old step. (
        seen_next tables before w entry next old.1 step old.0,
        run_push tables [] (opening (line_count tables)) before w entry next old.1 step,
      ))
      [] (opening (line_count tables)) history world
      (λ number call agreement live agreed. let none : call_numbered (opening (line_count tables)) number ≡ None = get-empty nat_cmp number in absurd (cc), refl) run).0
