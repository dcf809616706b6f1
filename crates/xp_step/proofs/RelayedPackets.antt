-- What is known of a packet for a connected call, and of the packets of a history that grows.
use Rattle.std.proofs.Common.{arith, ◌≡◌, ◌≢◌, ◌∙◌, ℕ, eqb, Option, Some, None, option_map, List, [], ◌∷◌, ◌++◌, append_assoc, append-nil, refl, ap, sym}
use Rattle.std.proofs.lemmas.Bool.{cond-false, cond-true, eq-eqb, ne_eqb}
use Rattle.xp_channel.specs.declared.action.Action.{Action}
use Rattle.xp_channel.specs.declared.action.Action.TheVariants.{Relayed}
use Rattle.xp_packets.specs.declared.packet.Packet.{Packet}
use Rattle.xp_relay.proofs.Extends.{run_more}
use Rattle.xp_relay.specs.Coupled.{after}
use Rattle.xp_subs.specs.Tables.{Tables}
use Rattle.xp_step.specs.declared.entry.Entry.{Entry}
use Rattle.xp_machine.specs.declared.agreement.Agreement.{Agreement}
use Rattle.xp_step.specs.RelayedPackets.{RelayedPacket, arrival_for, arrivals, arrivals_from, relayed_as, relayed_by, relayed_in, directions, turn_of_relayed}
use Rattle.xp_machine.specs.CallEnds.{end_of}
use Rattle.xp_machine.specs.World.{Call, World}
use Rattle.xp_step.specs.Worlds.{world_after, world_from, world_next}

-- only what is carried is put out
pub carried_alone : {X : Type 0} (xs : List X) → xs ≡ ((xs ++ []) ++ []) ++ []
carried_alone xs = sym (append-nil ((xs ++ []) ++ []) ∙ append-nil (xs ++ []) ∙ append-nil xs)

module _ {A : Type 0} where
  -- where a packet for a connected call comes from
  pub record IsOf (line : ℕ) (found : Option (ℕ × Call)) (packet : Option (Packet A)) (carried : RelayedPacket A) : Type 0 where
    pub on : found ≡ Some (carried.number, carried.call)
    pub agreed : carried.call.agreed ≡ Some carried.agreement
    pub arrives : packet ≡ Some carried.arrival.packet
    pub here : carried.arrival.here ≡ end_of carried.call line

  agreed_of : (line : ℕ) (found : ℕ × Call) (packet : Packet A) (carried : RelayedPacket A) (agreed : Option Agreement) → found.1.agreed ≡ agreed
      → option_map (λ agreement. record {
        number = found.0;
        call = found.1;
        agreement = agreement;
        arrival = record { here = end_of found.1 line; packet = packet };
      }) agreed ≡ Some carried → IsOf line (Some found) (Some packet) carried
  agreed_of line found packet carried agreed some is = grind arith

  pub of_carried : (line : ℕ) (found : Option (ℕ × Call)) (packet : Option (Packet A)) (carried : RelayedPacket A) → relayed_by line found packet ≡ Some carried
      → IsOf line found packet carried
  of_carried line found packet carried is = grind (arith, agreed_of)

  -- it is relayed
  pub is_relayed : (action : Action) (by : Option (RelayedPacket A)) (carried : RelayedPacket A) → relayed_as action by ≡ Some carried → (action ≡ Relayed) × (by ≡ Some carried)
  is_relayed action by carried is = grind arith

  -- ---- a history that grows

  arrivals_from_more : (number : ℕ) (tables : Tables) (before : List (Entry A)) (world : World) (entries : List (Entry A)) (entry : Entry A)
      → arrivals_from number tables before world (entries ++ entry ∷ [])
      ≡ arrivals_from number tables before world entries ++ arrival_for number (relayed_in (world_from tables before world entries) entry.event)
  arrivals_from_more number tables before world [] entry = append-nil (arrival_for number (relayed_in world entry.event))
  arrivals_from_more number tables before world (first ∷ entries) entry =
      let mine = arrival_for number (relayed_in world first.event) in
      let next = world_next tables before world first in
      ap (λ rest. mine ++ rest) (arrivals_from_more number tables (before ++ first ∷ []) next entries entry)
      ∙ sym (append_assoc mine (arrivals_from number tables (before ++ first ∷ []) next entries)
      (arrival_for number (relayed_in (world_from tables (before ++ first ∷ []) next entries) entry.event)))

  pub arrivals_more : (tables : Tables) (before : List (Entry A)) (world : World) (entry : Entry A) (number : ℕ) → world ≡ world_after tables before
      → arrivals tables (before ++ entry ∷ []) number ≡ arrivals tables before number ++ arrival_for number (relayed_in world entry.event)
  arrivals_more tables before world entry number is = grind (arith, arrivals_from_more)

  -- no packet for a call of another number
  pub arrivals_still : (tables : Tables) (before : List (Entry A)) (world : World) (entry : Entry A) (number : ℕ) → world ≡ world_after tables before
      → ((carried : RelayedPacket A) → relayed_in world entry.event ≡ Some carried → number ≢ carried.number)
      → arrivals tables (before ++ entry ∷ []) number ≡ arrivals tables before number
  arrivals_still tables before world entry number is other =
      arrivals_more tables before world entry number is
      ∙ ap (λ more. arrivals tables before number ++ more) (none (relayed_in world entry.event) other)
      ∙ append-nil (arrivals tables before number)
    where
      none : (carried : Option (RelayedPacket A)) → ((c : RelayedPacket A) → carried ≡ Some c → number ≢ c.number) → arrival_for number carried ≡ []
      none None differs = refl
      none (Some c) differs = cond-false (eqb c.number number) (c.arrival ∷ []) [] (ne_eqb c.number number (λ same. differs c refl (sym same)))

  pub directions_still : (tables : Tables) (before : List (Entry A)) (world : World) (entry : Entry A) (number : ℕ) (call : Call) (agreement : Agreement) → world ≡ world_after tables before
      → ((carried : RelayedPacket A) → relayed_in world entry.event ≡ Some carried → number ≢ carried.number)
      → directions tables (before ++ entry ∷ []) number call agreement ≡ directions tables before number call agreement
  directions_still tables before world entry number call agreement is other = grind (arith, arrivals_still)

  -- one packet more for this call
  pub arrivals_on : (tables : Tables) (before : List (Entry A)) (world : World) (entry : Entry A) (carried : RelayedPacket A) → world ≡ world_after tables before
      → relayed_in world entry.event ≡ Some carried
      → arrivals tables (before ++ entry ∷ []) carried.number ≡ arrivals tables before carried.number ++ carried.arrival ∷ []
  arrivals_on tables before world entry carried is by =
      arrivals_more tables before world entry carried.number is
      ∙ ap (λ c. arrivals tables before carried.number ++ arrival_for carried.number c) by
      ∙ ap (λ more. arrivals tables before carried.number ++ more)
      (cond-true (eqb carried.number carried.number) (carried.arrival ∷ []) [] (eq-eqb carried.number carried.number refl))

  pub directions_on : (tables : Tables) (before : List (Entry A)) (world : World) (entry : Entry A) (carried : RelayedPacket A) → world ≡ world_after tables before
      → relayed_in world entry.event ≡ Some carried
      → directions tables (before ++ entry ∷ []) carried.number carried.call carried.agreement ≡ after carried.arrival.here (turn_of_relayed tables before carried)
  directions_on tables before world entry carried is by = grind (arith, arrivals_on, run_more)
