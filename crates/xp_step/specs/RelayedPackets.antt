-- What connected calls carry: the packets that their lines sent, and the two directions that these led to.
use Rattle.std.specs.Prelude.{ℕ, ◌==◌, if◌then◌else◌, Option, None, Some, option_map, List, [], ◌∷◌, ◌++◌}
use Rattle.xp_channel.specs.declared.action.Action.{Action}
use Rattle.xp_channel.specs.declared.action.Action.TheVariants.{Relayed}
use Rattle.xp_packets.specs.declared.packet.Packet.{Packet}
use Rattle.xp_relay.specs.Coupled.{Coupled, coupled}
use Rattle.xp_relay.specs.Runs.{Arrival, run, turn_on}
use Rattle.xp_relay.specs.Turns.{Turn}
use Rattle.xp_relay.specs.declared.terms.Terms.{Terms}
use Rattle.xp_subs.specs.Tables.{Tables, line_count, modulus_of}
use Rattle.xp_step.specs.declared.entry.Entry.{Entry}
use Rattle.xp_step.specs.declared.event.Event.{Event}
use Rattle.xp_machine.specs.declared.agreement.Agreement.{Agreement}
use Rattle.xp_step.specs.Table.{action_at, packet_in}
use Rattle.xp_machine.specs.World.{Call, World, call_on, opening}
use Rattle.xp_step.specs.Worlds.{world_next}
use Rattle.xp_machine.specs.CallEnds.{end_of}
use Rattle.xp_machine.specs.RelayTerms.{terms_of}

-- what was agreed for the data of a call, with the numbering of both lines
abbrev pub relay_terms : Tables → Call → Agreement → Terms
relay_terms tables call agreement = terms_of agreement (modulus_of tables call.caller) (modulus_of tables call.called)

-- a packet for a connected call
pub record RelayedPacket (A : Type 0) : Type 0 where
  pub number : ℕ
  pub call : Call
  pub agreement : Agreement
  pub arrival : Arrival A

module _ {A : Type 0} where
  -- the packet of a line is for the call that the line is in, if that call is connected
  abbrev pub relayed_by : ℕ → Option (ℕ × Call) → Option (Packet A) → Option (RelayedPacket A)
  relayed_by line None packet = None
  relayed_by line (Some found) None = None
  relayed_by line (Some found) (Some packet) = option_map (λ agreement. record {
    number = found.0;
    call = found.1;
    agreement = agreement;
    arrival = record { here = end_of found.1 line; packet = packet };
  }) found.1.agreed

  -- if the action of the table is to relay it
  abbrev pub relayed_as : Action → Option (RelayedPacket A) → Option (RelayedPacket A)
  relayed_as Relayed carried = carried
  relayed_as action carried = None

  -- the packet for a connected call that an event brings, if it brings one
  abbrev pub relayed_in : World → Event A → Option (RelayedPacket A)
  relayed_in world event = relayed_as (action_at world event) (relayed_by event.line (call_on world event.line) (packet_in event.what))

  -- the packet, if it is for the call of this number
  abbrev pub arrival_for : ℕ → Option (RelayedPacket A) → List (Arrival A)
  arrival_for number None = []
  arrival_for number (Some carried) = if carried.number == number then carried.arrival ∷ [] else []

  -- the packets for the call of this number that these entries bring, from the state that the entries before them led
  -- to
  abbrev pub arrivals_from : ℕ → Tables → List (Entry A) → World → List (Entry A) → List (Arrival A)
  arrivals_from number tables before world [] = []
  arrivals_from number tables before world (entry ∷ entries) =
      arrival_for number (relayed_in world entry.event)
      ++ arrivals_from number tables (before ++ entry ∷ []) (world_next tables before world entry) entries

  -- the packets for the call of this number that a history brings
  abbrev pub arrivals : Tables → List (Entry A) → ℕ → List (Arrival A)
  arrivals tables history number = arrivals_from number tables [] (opening (line_count tables)) history

  -- the two directions of the call of this number, which its packets led to
  abbrev pub directions : Tables → List (Entry A) → ℕ → Call → Agreement → Coupled A
  directions tables history number call agreement = run (coupled (relay_terms tables call agreement)) (arrivals tables history number)

  -- what one more packet leads to
  abbrev pub turn_of_relayed : Tables → List (Entry A) → RelayedPacket A → Turn A
  turn_of_relayed tables before carried = turn_on (directions tables before carried.number carried.call carried.agreement) carried.arrival
