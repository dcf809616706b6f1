-- The packets that a readable history brought can be encoded, and so can those that are carried on.
use Rattle.std.proofs.Common.{◌≡◌, ℕ, ◌<◌, Option, Some, List, [], ◌∷◌, ◌++◌, All, arith, refl, subst}
use Rattle.std.proofs.lemmas.Bool.{cond_both}
use Rattle.std.proofs.lemmas.List.Elements.{All-append, All-contains, All-head, All-nil, All-tail}
use Rattle.std.specs.List.{Contains}
use Rattle.xp_packets.specs.Encodability.{CanBeEncoded}
use Rattle.xp_packets.specs.declared.end.End.{End}
use Rattle.xp_packets.specs.declared.modulus.Modulus.{Modulus}
use Rattle.xp_packets.specs.declared.modulus.Modulus.TheVariants.{Long}
use Rattle.xp_packets.specs.declared.packet.Packet.{Packet}
use Rattle.xp_relay.proofs.Encodable.{puts_out_encodable}
use Rattle.xp_relay.specs.Encodable.{CameEncoded}
use Rattle.xp_relay.specs.Terms.{modulus_at}
use Rattle.xp_relay.specs.declared.moves.Move.{Move}
use Rattle.xp_relay.specs.declared.terms.Terms.{Terms}
use Rattle.xp_subs.specs.Tables.{Tables, line_count, modulus_of}
use Rattle.xp_step.specs.declared.entry.Entry.{Entry}
use Rattle.xp_step.specs.declared.event.What.{What}
use Rattle.xp_step.specs.RelayedPackets.{RelayedPacket, arrival_for, arrivals, arrivals_from, relay_terms, relayed_by, relayed_in, turn_of_relayed}
use Rattle.xp_step.specs.Exchange.{IsReadable}
use Rattle.xp_step.specs.StepContext.{StepContext}
use Rattle.xp_step.specs.Table.{packet_in}
use Rattle.xp_machine.specs.CallEnds.{line_at_end}
use Rattle.xp_machine.specs.World.{Call, World, call_on, opening}
use Rattle.xp_machine.specs.declared.agreement.Agreement.{Agreement}
use Rattle.xp_step.specs.Worlds.{world_next}
use Rattle.xp_core.specs.steps.Writable.{AreReadable}
use Rattle.xp_step.proofs.RelayedPackets.{is_relayed, of_carried}

-- the modulus of a call's line at an end
modulus_there : (tables : Tables) (call : Call) (agreement : Agreement) (end : End) → modulus_at end (relay_terms tables call agreement) ≡ modulus_of tables (line_at_end call end)
modulus_there tables call agreement end = grind arith

module _ {A : Type 0} where
  packet_can : (what : What A) (packet : Packet A) → packet_in what ≡ Some packet → IsReadable what → (identifier : ℕ) × CanBeEncoded Long identifier packet
  packet_can what packet is readable = grind arith

  pub carried_can : (line : ℕ) (found : Option (ℕ × _)) (what : What A) (carried : RelayedPacket A) → relayed_by line found (packet_in what) ≡ Some carried → IsReadable what → CameEncoded carried.arrival
  carried_can line found what carried is readable = packet_can what carried.arrival.packet (of_carried line found (packet_in what) carried is).arrives readable

  arrival_can : (world : World) (entry : Entry A) (number : ℕ) (carried : Option (RelayedPacket A)) → relayed_in world entry.event ≡ carried → IsReadable entry.event.what
      → All CameEncoded (arrival_for number carried)
  arrival_can world entry number carried is readable = grind (arith, carried_can, cond_both, is_relayed)

  came_from : (number : ℕ) (tables : Tables) (before : List (Entry A)) (world : World) (entries : List (Entry A)) → AreReadable entries
      → All CameEncoded (arrivals_from number tables before world entries)
  came_from number tables before world [] readable = All-nil CameEncoded
  came_from number tables before world (entry ∷ entries) readable =
      All-append CameEncoded (arrival_for number (relayed_in world entry.event)) _
      (arrival_can world entry number (relayed_in world entry.event) refl (All-head (λ e. IsReadable e.event.what) entry entries readable))
      (came_from number tables (before ++ entry ∷ []) (world_next tables before world entry) entries (All-tail (λ e. IsReadable e.event.what) entry entries readable))

  -- each move that a packet leads to can be encoded
  pub move_can : (at : StepContext A) (what : What A) (carried : RelayedPacket A) (move : Move A) → AreReadable at.before → IsReadable what
      → relayed_by at.line (call_on at.world at.line) (packet_in what) ≡ Some carried → Contains (turn_of_relayed at.tables at.before carried).moves move
      → (identifier : ℕ) → identifier < 4096 → CanBeEncoded (modulus_of at.tables (line_at_end carried.call move.side)) identifier move.packet
  move_can at what carried move before readable by in_it identifier narrow =
      let terms : Terms = relay_terms at.tables carried.call carried.agreement in
      let P : Modulus → Type 0 = λ m. CanBeEncoded m identifier move.packet in
      subst P (modulus_there at.tables carried.call carried.agreement move.side)
      (All-contains (λ (m : Move A). CanBeEncoded (modulus_at m.side terms) identifier m.packet) (turn_of_relayed at.tables at.before carried).moves move
      (puts_out_encodable terms (arrivals at.tables at.before carried.number) carried.arrival
      (came_from carried.number at.tables [] (opening (line_count at.tables)) at.before before)
      (carried_can at.line (call_on at.world at.line) what carried by readable) identifier (omega (arith, narrow))) in_it)
