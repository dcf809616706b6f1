-- The relays go on to show what the packets of their calls led to.
use Rattle.std.proofs.Common.{◌≡◌, ◌≢◌, ◌∙◌, ◌<◌, ◌≤◌, ◌⊎◌, ℕ, Bool, true, false, Option, Some, None, List, [], ◌∷◌, ◌++◌, length, set, get_or-set_other, refl, ap, sym, subst, inl, inr, arith}
use Rattle.std.proofs.lemmas.Bool.{cases_eq}
use Rattle.std.proofs.lemmas.Grind.{get_or-set_at}
use Rattle.xp_charge.specs.Counted.{Counted}
use Rattle.xp_charge.specs.Meter.{opening as opening_meter}
use Rattle.xp_relay.specs.Coupled.{Coupled, after, coupled}
use Rattle.xp_relay.specs.Runs.{run as run_of}
use Rattle.xp_subs.specs.Tables.{Tables, line_count}
use Rattle.xp_step.specs.declared.entry.Entry.{Entry}
use Rattle.xp_machine.specs.declared.agreement.Agreement.{Agreement}
use Rattle.xp_step.specs.declared.outcome.Outcome.TheVariants.{Exceeded}
use Rattle.xp_machine.specs.declared.relays.RelayUpdate.{RelayUpdate}
use Rattle.xp_machine.specs.declared.relays.MeteredRelay.{MeteredRelay}
use Rattle.xp_step.specs.Acts.{CarriesAs}
use Rattle.xp_step.specs.RelayedPackets.{RelayedPacket, arrivals, relay_terms, relayed_in, directions, turn_of_relayed}
use Rattle.xp_machine.specs.Changes.{Change, Connects}
use Rattle.xp_step.specs.Effects.{carries, changes_of, effects_of}
use Rattle.xp_step.specs.Relays.{RelaysRepresentCalls, IsRelayed, IsRepresentedBy, Relays, RelaysFor, RelaysOn, counted_by, counted_with}
use Rattle.xp_machine.specs.Relays.{relay_under, relays_with}
use Rattle.xp_step.specs.Run.{Run}
use Rattle.xp_step.specs.Segments.{is_past_limit}
use Rattle.xp_step.specs.StepContext.{StepContext, step_context}
use Rattle.xp_step.specs.Step.{Step}
use Rattle.xp_step.specs.Table.{action_at}
use Rattle.xp_core.specs.steps.PreparedEntry.{RelaysAdvance}
use Rattle.xp_machine.specs.World.{Call, World, call_numbered, call_on, opening}
use Rattle.xp_step.specs.Worlds.{world_after}
use Rattle.xp_step.proofs.RelayedPackets.{arrivals_still, directions_on, directions_still, is_relayed, of_carried}
use Rattle.xp_step.proofs.Counting.{counted_none, counted_on, counted_still}
use Rattle.xp_machine.proofs.InCall.{caller_shows, same_number, shown_on}
use Rattle.xp_core.proofs.Live.{Connected, same, begun, connects_live, joined, next_grows, was}
use Rattle.xp_machine.proofs.Maps.{get_gone}
use Rattle.xp_step.proofs.RunLemmas.{run_keeps, run_push}
use Rattle.xp_core.proofs.Sounds.{IsRight, run_right}
use Rattle.xp_core.proofs.Worlds.{run_world}

-- live calls of one caller are of one number
one_caller : (tables : Tables) (entries : ℕ) (world : World) (right : IsRight tables entries world) (number other : ℕ) (call its : Call)
    → call_numbered world number ≡ Some call → call_numbered world other ≡ Some its → call.caller ≡ its.caller → number ≡ other
one_caller tables entries world right number other call its is is' at =
    same_number world its.caller call.caller number other (sym at)
    (caller_shows tables world other its (right.coupled.held other its is'))
    (caller_shows tables world number call (right.coupled.held number call is))

-- changes that need a relay connect a call
asks : {A : Type 0} (tables : Tables) (changes : List Change) (relay_update : Option (RelayUpdate A)) → RelaysFor tables changes relay_update
    → (relay_update ≡ None) ⊎ ((number : ℕ) × (call : Call) × (agreement : Agreement) × (rest : List Change) × (changes ≡ Connects number call agreement ∷ rest)
    × IsRelayed call (coupled (relay_terms tables call agreement)) (opening_meter tables.segment_limit) relay_update)
asks tables changes relay_update relayed = grind arith

module _ {A : Type 0} where
  -- ---- no packet comes for a call that is not connected

  pub record AreUnused (tables : Tables) (history : List (Entry A)) (world : World) : Type 0 where
    pub unconnected : (number : ℕ) (call : Call) → call_numbered world number ≡ Some call → call.agreed ≡ None → arrivals tables history number ≡ []
    pub fresh : (number : ℕ) → world.next ≤ number → arrivals tables history number ≡ []

  -- the call of a packet is live and connected
  pub carried_live : (world : World) (entry : Entry A) (carried : RelayedPacket A) → relayed_in world entry.event ≡ Some carried
      → (call_numbered world carried.number ≡ Some carried.call) × (carried.call.agreed ≡ Some carried.agreement)
      × ((tables : Tables) (before : List (Entry A)) → changes_of tables before world entry ≡ carries entry.event.line (Some (carried.number, carried.call)) entry.outcome)
  carried_live world entry carried is =
      let relayed = is_relayed (action_at world entry.event) _ carried is in
      let it = of_carried entry.event.line (call_on world entry.event.line) _ carried relayed.1 in (
        (shown_on world entry.event.line (carried.number, carried.call) it.on).1,
        it.agreed,
        λ tables before.
            ap (λ action. effects_of (step_context tables before world entry.event.line entry.event.moment) entry.event.what action entry.outcome) relayed.0
            ∙ ap (λ found. carries entry.event.line found entry.outcome) it.on,
      )

  module _ (tables : Tables) (before : List (Entry A)) (world : World) (entry : Entry A) (next : World) (run : Run tables before world)
      (step : Step tables before world entry next) where
    abbrev led : world ≡ world_after tables before
    led = run_world tables before world run

    abbrev right : IsRight tables (length before) world
    right = run_right tables before world run

    unused_next : AreUnused tables before world → AreUnused tables (before ++ entry ∷ []) next
    unused_next old = record {
      unconnected = λ number call is none. elim (was tables before world entry next (length before) right step number call is) [
        | same live other ↦
            arrivals_still tables before world entry number led (λ carried by number_is.
            let it = carried_live world entry carried by in
            let there : call_numbered world number ≡ Some carried.call = ap (call_numbered world) number_is ∙ it.0 in
            let one : carried.call ≡ call = cc in
            let some : call.agreed ≡ Some carried.agreement = ap (λ c. c.agreed) (sym one) ∙ it.1 in absurd (cc))
            ∙ old.unconnected number call live none
        | begun number_is none' ↦ new number number_is
        | joined c a live unagreed connects becomes ↦ let some : call.agreed ≡ Some a = ap (λ k. k.agreed) becomes in absurd (cc)
      ];
      fresh = λ number past. later number (omega (arith, past, next_grows tables before world entry next (length before) right step));
    } where
      later : (number : ℕ) → world.next ≤ number → arrivals tables (before ++ entry ∷ []) number ≡ []
      later number past =
          arrivals_still tables before world entry number led (λ carried by number_is.
          let it = carried_live world entry carried by in
          let gone : call_numbered world number ≡ None = right.sound.fresh number past in
          let there : call_numbered world number ≡ Some carried.call = ap (call_numbered world) number_is ∙ it.0 in absurd (cc))
          ∙ old.fresh number past

      new : (number : ℕ) → number ≡ world.next → arrivals tables (before ++ entry ∷ []) number ≡ []
      new number is = later number (omega (arith, is))

  pub run_unused : (tables : Tables) (history : List (Entry A)) (world : World) → Run tables history world → AreUnused tables history world
  run_unused tables history world run =
      (run_keeps (λ before w. Run tables before w × AreUnused tables before w) tables
      (λ before w entry next old step. (run_push tables [] (opening (line_count tables)) before w entry next old.0 step, unused_next tables before w entry next old.0 step old.1))
      [] (opening (line_count tables)) history world
      (refl, record { unconnected = λ number call is none. refl; fresh = λ number past. refl }) run).1

  -- ---- the relays

  under_new : (relays : List (Option (MeteredRelay A))) (caller : ℕ) (kept : MeteredRelay A) → caller < length relays
      → relay_under (set relays caller (Some kept)) caller ≡ Some kept
  under_new relays caller kept within = get_or-set_at relays caller caller (Some kept) None refl within

  under_other : (relays : List (Option (MeteredRelay A))) (caller line : ℕ) (kept : MeteredRelay A) → line ≢ caller
      → relay_under (set relays caller (Some kept)) line ≡ relay_under relays line
  under_other relays caller line kept other = get_or-set_other relays caller line (Some kept) None other

  -- a relay that a call has from now on
  module _ (relays later : List (Option (MeteredRelay A))) (call : Call) (shown : Coupled A) (counted : Counted) (relay_update : Option (RelayUpdate A))
      (become : later ≡ relays_with relay_update relays) (relayed : IsRelayed call shown counted relay_update) where
    abbrev set_relays : List (Option (MeteredRelay A))
    set_relays = set relays call.caller (Some relayed.metered)

    becomes : later ≡ set_relays
    becomes = become ∙ ap (λ c. relays_with c relays) relayed.kept

    shown_now : call.caller < length relays → IsRepresentedBy (relay_under later call.caller) shown counted
    shown_now within = grind (arith, becomes, under_new)

    still_under : (line : ℕ) → line ≢ call.caller → relay_under later line ≡ relay_under relays line
    still_under line other = ap (λ rs. relay_under rs line) becomes ∙ under_other relays call.caller line relayed.metered other

  module _ (tables : Tables) (before : List (Entry A)) (world : World) (entry : Entry A) (next : World) (run : Run tables before world)
      (step : Step tables before world entry next) (relays later : List (Option (MeteredRelay A))) (carried : RelaysRepresentCalls tables before world relays)
      (places : length relays ≡ line_count tables) (on : RelaysAdvance tables before world entry.event entry.outcome relays later) where
    here : world ≡ world_after tables before
    here = run_world tables before world run

    its : IsRight tables (length before) world
    its = run_right tables before world run

    caller_within : (number : ℕ) (call : Call) → call_numbered world number ≡ Some call → call.caller < length relays
    caller_within number call live = omega (arith, places, (its.coupled.held number call live).caller)

    abbrev ShownAs : ℕ → ℕ → Call → Agreement → Type 0
    ShownAs line number call agreement =
        IsRepresentedBy (relay_under later line) (directions tables (before ++ entry ∷ []) number call agreement) (counted_by tables (before ++ entry ∷ []) number call (Some agreement))

    abbrev Shown : ℕ → Call → Agreement → Type 0
    Shown number call agreement = ShownAs call.caller number call agreement

    -- a call whose relay and packets stay
    stays : (number : ℕ) (call : Call) (agreement : Agreement) → call_numbered world number ≡ Some call → call.agreed ≡ Some agreement
        → ((c : RelayedPacket A) → relayed_in world entry.event ≡ Some c → number ≢ c.number) → relay_under later call.caller ≡ relay_under relays call.caller → Shown number call agreement
    stays number call agreement live agreed other under = grind (arith, counted_still, directions_still, here)

    -- a packet came for a call
    module _ (c : RelayedPacket A) (by : relayed_in world entry.event ≡ Some c) where
      abbrev at : StepContext A
      at = step_context tables before world entry.event.line entry.event.moment

      its_acts : CarriesAs at (Some c) (is_past_limit tables before (Some c)) entry.outcome step.told
      its_acts = grind (arith, is_relayed)

      connects_none : (past : Bool) → CarriesAs at (Some c) past entry.outcome step.told → (number : ℕ) (call : Call) (agreement : Agreement)
          → changes_of tables before world entry ≡ Connects number call agreement ∷ [] → ⊥
      connects_none false acts number call agreement connects = grind (arith, carried_live)
      connects_none true acts number call agreement connects = grind (arith, carried_live)

      -- that is within the limit
      module _ (past : is_past_limit tables before (Some c) ≡ false)
          (relayed : IsRelayed c.call (after c.arrival.here (turn_of_relayed tables before c)) (counted_with tables before c) on.relay_update) where
        led_on : (number : ℕ) (call : Call) (agreement : Agreement) → call_numbered world number ≡ Some call → call.agreed ≡ Some agreement → Shown number call agreement
        led_on number call agreement live agreed = elim (cases_eq number c.number) [
          | inl is ↦ grind (arith, caller_within, carried_live, counted_on, directions_on, here, later, shown_now)
          | inr other ↦
              let it = carried_live world entry c by in
              stays number call agreement live agreed (λ c' by' number_is.
              let both : Some c ≡ Some c' = sym by ∙ by' in
              let one : c ≡ c' = cc in other (number_is ∙ ap (λ k. k.number) (sym one)))
              (still_under relays later c.call (after c.arrival.here (turn_of_relayed tables before c)) (counted_with tables before c) on.relay_update on.become relayed call.caller
              (λ same_line. other (one_caller tables (length before) world its number c.number call c.call live it.0 same_line)))
        ]

      -- that is past the limit: its call ended
      ended : entry.outcome ≡ Exceeded → call_numbered next c.number ≡ None
      ended outcome = grind (arith, carried_live, get_gone)

      others_on : entry.outcome ≡ Exceeded → on.relay_update ≡ None → (number : ℕ) (call : Call) (agreement : Agreement) → call_numbered next number ≡ Some call
          → call_numbered world number ≡ Some call → call.agreed ≡ Some agreement → Shown number call agreement
      others_on outcome none number call agreement still live agreed = grind (arith, ended, stays)

    -- no packet came for a call
    module _ (nothing : relayed_in world entry.event ≡ None) (relays_for : RelaysFor tables (changes_of tables before world entry) on.relay_update) where
      none_came : (number : ℕ) (c : RelayedPacket A) → relayed_in world entry.event ≡ Some c → number ≢ c.number
      none_came number c by = absurd (cc)

      kept_on : (number : ℕ) (call : Call) (agreement : Agreement) → call_numbered world number ≡ Some call → call.agreed ≡ Some agreement
          → (Connected (changes_of tables before world entry) number → ⊥) → Shown number call agreement
      kept_on number call agreement live agreed other = grind (arith, asks, cases_eq, connects_live, its, later, none_came, one_caller, stays, still_under)

      joined_on : (number : ℕ) (call c : Call) (agreement a : Agreement) → call_numbered world number ≡ Some c → c.agreed ≡ None
          → changes_of tables before world entry ≡ Connects number c a ∷ [] → call ≡ record c { agreed = Some a } → call.agreed ≡ Some agreement → Shown number call agreement
      joined_on number call c agreement a live none connects becomes agreed =
          let P : List Change → Type 0 = λ cs. RelaysFor tables cs on.relay_update in
          let relayed = subst P connects relays_for in
          let some : call.agreed ≡ Some a = ap (λ k. k.agreed) becomes in
          let agreement_is : a ≡ agreement = cc in
          let nothing_yet : arrivals tables (before ++ entry ∷ []) number ≡ [] =
          arrivals_still tables before world entry number here (none_came number) ∙ (run_unused tables before world run).unconnected number c live none in
          let shows = shown_now relays later c (coupled (relay_terms tables c a)) (opening_meter tables.segment_limit) on.relay_update on.become relayed (caller_within number c live) in
          let D : Coupled A → Type 0 = λ d. IsRepresentedBy (relay_under later c.caller) d (opening_meter tables.segment_limit) in
          let M : Counted → Type 0 = λ m. IsRepresentedBy (relay_under later c.caller) (directions tables (before ++ entry ∷ []) number c a) m in
          let K : Call → Type 0 = λ k. Shown number k a in
          let R : Agreement → Type 0 = λ b. Shown number call b in
          subst R agreement_is (subst K (sym becomes) (subst M (sym (counted_none tables (before ++ entry ∷ []) number c a nothing_yet))
          (subst D (sym (ap (run_of (coupled (relay_terms tables c a))) nothing_yet)) shows)))

    pub carried_next : RelaysRepresentCalls tables (before ++ entry ∷ []) next later
    carried_next number call agreement live agreed = by (relayed_in world entry.event) refl on.is
      where
        by_limit : (c : RelayedPacket A) → relayed_in world entry.event ≡ Some c → (past : Bool) → is_past_limit tables before (Some c) ≡ past
            → RelaysOn tables before c past on.relay_update → CarriesAs (step_context tables before world entry.event.line entry.event.moment) (Some c) past entry.outcome step.told → Shown number call agreement
        by_limit c is false past relayed acts = elim (was tables before world entry next (length before) its step number call live) [
          | same there other ↦ led_on c is past relayed number call agreement there agreed
          | begun number_is none ↦ absurd (cc)
          | joined k a there none connects becomes ↦ absurd (connects_none c is false acts number k a connects)
        ]
        by_limit c is true past none acts = elim (was tables before world entry next (length before) its step number call live) [
          | same there other ↦ others_on c is acts.0 none number call agreement live there agreed
          | begun number_is none' ↦ absurd (cc)
          | joined k a there none' connects becomes ↦ absurd (connects_none c is true acts number k a connects)
        ]

        by : (c : Option (RelayedPacket A)) → relayed_in world entry.event ≡ c → Relays tables before c (changes_of tables before world entry) on.relay_update → Shown number call agreement
        by (Some c) is relayed = by_limit c is (is_past_limit tables before (Some c)) refl relayed (its_acts c is)
        by None is relays_for = elim (was tables before world entry next (length before) its step number call live) [
          | same there other ↦ kept_on is relays_for number call agreement there agreed other
          | begun number_is none ↦ absurd (cc)
          | joined k a there none connects becomes ↦ joined_on is relays_for number call k agreement a there none connects becomes agreed
        ]
