-- What the relays and meters of the connected calls show of the history.
use Rattle.std.specs.Prelude.{◌≡◌, ℕ, Bool, true, false, Option, None, Some, List, [], ◌∷◌}
use Rattle.xp_charge.specs.Counted.{Counted}
use Rattle.xp_charge.specs.Meter.{opening}
use Rattle.xp_packets.specs.declared.end.End.TheVariants.{Caller, Called}
use Rattle.xp_relay.specs.Coupled.{Coupled, after, coupled}
use Rattle.xp_relay.specs.StoredCoupled.{RepresentsCall}
use Rattle.xp_subs.specs.Tables.{Tables}
use Rattle.xp_step.specs.declared.entry.Entry.{Entry}
use Rattle.xp_machine.specs.declared.agreement.Agreement.{Agreement}
use Rattle.xp_machine.specs.declared.relays.RelayUpdate.{RelayUpdate}
use Rattle.xp_machine.specs.declared.relays.MeteredRelay.{MeteredRelay}
use Rattle.xp_step.specs.RelayedPackets.{RelayedPacket, directions, relay_terms, turn_of_relayed}
use Rattle.xp_machine.specs.Changes.{Change, Rises, Leaves, Begins, IsRefused, Connects, Ends}
use Rattle.xp_step.specs.Segments.{is_past_limit, judged_at, segments_from}
use Rattle.xp_machine.specs.World.{Call, World, call_numbered}
use Rattle.xp_machine.specs.Relays.{counting, relay_under}

module _ {A : Type 0} where
  -- there is a relay that shows these directions, with a meter that counted this
  abbrev pub IsRepresentedBy : Option (MeteredRelay A) → Coupled A → Counted → Type 0
  IsRepresentedBy None call counted = ⊥
  IsRepresentedBy (Some kept) call counted = RepresentsCall kept.relay call × (kept.meter ≡ counted)

  -- what is counted of a connected call
  abbrev pub counted_by : Tables → List (Entry A) → ℕ → Call → Option Agreement → Counted
  counted_by tables history number call agreed = record {
    limit = tables.segment_limit;
    from_caller = segments_from tables history number call agreed Caller;
    from_called = segments_from tables history number call agreed Called;
  }

  -- the relay of each connected call shows what its packets led to, and its meter the segments that were accepted
  abbrev pub RelaysRepresentCalls : Tables → List (Entry A) → World → List (Option (MeteredRelay A)) → Type 0
  RelaysRepresentCalls tables history world relays =
      (number : ℕ) (call : Call) (agreement : Agreement) → call_numbered world number ≡ Some call → call.agreed ≡ Some agreement
      → IsRepresentedBy (relay_under relays call.caller) (directions tables history number call agreement) (counted_by tables history number call (Some agreement))

  -- from now on a call has a relay that shows these directions, with a meter that counted this
  pub record IsRelayed (call : Call) (shown : Coupled A) (counted : Counted) (relay_update : Option (RelayUpdate A)) : Type 0 where
    pub metered : MeteredRelay A
    pub kept : relay_update ≡ Some (record { caller = call.caller; metered = metered })
    pub shows : IsRepresentedBy (Some metered) shown counted

  -- the relay that these changes need: that of a call that is connected
  abbrev pub RelaysFor : Tables → List Change → Option (RelayUpdate A) → Type 0
  RelaysFor tables [] relay_update = relay_update ≡ None
  RelaysFor tables (Connects number call agreement ∷ changes) relay_update =
      IsRelayed call (coupled (relay_terms tables call agreement)) (opening tables.segment_limit) relay_update
  RelaysFor tables (Rises line ∷ changes) relay_update = relay_update ≡ None
  RelaysFor tables (Leaves line way ∷ changes) relay_update = relay_update ≡ None
  RelaysFor tables (Begins line identifier called dialled setup requested ∷ changes) relay_update = relay_update ≡ None
  RelaysFor tables (IsRefused line identifier dialled why ∷ changes) relay_update = relay_update ≡ None
  RelaysFor tables (Ends number call line way cause diagnostic ∷ changes) relay_update = relay_update ≡ None

  -- what is counted with a packet that is not past the segment limit
  abbrev pub counted_with : Tables → List (Entry A) → RelayedPacket A → Counted
  counted_with tables before carried =
      counting carried.arrival.here (judged_at (directions tables before carried.number carried.call carried.agreement) carried.arrival)
      (counted_by tables before carried.number carried.call (Some carried.agreement))

  -- a packet for a connected call leads its relay on, unless it is past the segment limit
  abbrev pub RelaysOn : Tables → List (Entry A) → RelayedPacket A → Bool → Option (RelayUpdate A) → Type 0
  RelaysOn tables before carried true relay_update = relay_update ≡ None
  RelaysOn tables before carried false relay_update =
      IsRelayed carried.call (after carried.arrival.here (turn_of_relayed tables before carried)) (counted_with tables before carried) relay_update

  abbrev pub Relays : Tables → List (Entry A) → Option (RelayedPacket A) → List Change → Option (RelayUpdate A) → Type 0
  Relays tables before (Some carried) changes relay_update = RelaysOn tables before carried (is_past_limit tables before (Some carried)) relay_update
  Relays tables before None changes relay_update = RelaysFor tables changes relay_update
