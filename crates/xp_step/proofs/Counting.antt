-- The segments of the calls, as a history grows.
use Rattle.std.proofs.Common.{◌≡◌, ◌≢◌, ◌∙◌, ℕ, ◌+◌, ◌≤◌, leb, ltb, cond, false, Option, Some, None, option_to_list, List, [], ◌∷◌, ◌++◌, refl, ap, sym, arith, append_assoc, append-nil}
use Rattle.std.proofs.lemmas.Bool.{cond_both, cond-true, le-leb, leb-true, ltb-false}
use Rattle.xp_answer.specs.ForwardedClear.{IsInRange}
use Rattle.xp_charge.specs.Counted.{Counted}
use Rattle.xp_charge.specs.Meter.{counted_from, opening}
use Rattle.xp_packets.specs.declared.end.End.{End}
use Rattle.xp_packets.specs.declared.end.End.TheVariants.{Caller, Called}
use Rattle.xp_relay.specs.Coupled.{Coupled, after, coupled}
use Rattle.xp_relay.specs.Contents.{same_end}
use Rattle.xp_relay.specs.Runs.{Arrival, run, turn_on}
use Rattle.xp_subs.specs.Sound.{IsSound}
use Rattle.xp_subs.specs.Tables.{Tables}
use Rattle.xp_step.specs.declared.entry.Entry.{Entry}
use Rattle.xp_machine.specs.declared.agreement.Agreement.{Agreement}
use Rattle.xp_step.specs.RelayedPackets.{RelayedPacket, arrivals, relay_terms, relayed_in, directions}
use Rattle.xp_step.specs.Relays.{counted_by, counted_with}
use Rattle.xp_machine.specs.Relays.{counting}
use Rattle.xp_step.specs.Segments.{all_judged_from, is_past_limit, judged_at, judged_from, segments_from, segments_of, sum_within}
use Rattle.xp_machine.specs.Segments.{goes_past}
use Rattle.xp_machine.specs.Information.{information_as, information_for}
use Rattle.xp_step.specs.StepContext.{StepContext}
use Rattle.xp_step.specs.EventOutputs.{far_information, own_information}
use Rattle.xp_machine.specs.World.{Call, World}
use Rattle.xp_step.specs.Worlds.{world_after}
use Rattle.xp_step.proofs.RelayedPackets.{arrivals_on, arrivals_still}

-- ---- sums

sum_few : (limit sum : ℕ) (more : List ℕ) → sum ≤ limit → sum_within limit sum more ≤ limit
sum_few limit sum [] few = few
sum_few limit sum (one ∷ more) few = sum_few limit (cond (leb (sum + one) limit) (sum + one) sum) more
    (cond_both (leb (sum + one) limit) (sum + one) sum (λ n. n ≤ limit) (λ within. leb-true (sum + one) limit within) (λ past. few))

sum_more : (limit sum : ℕ) (some more : List ℕ) → sum_within limit sum (some ++ more) ≡ sum_within limit (sum_within limit sum some) more
sum_more limit sum [] more = refl
sum_more limit sum (one ∷ some) more = sum_more limit (cond (leb (sum + one) limit) (sum + one) sum) some more

-- a packet that is within the limit is counted for its end, and for no other
within : (limit sum more : ℕ) → ltb limit (sum + more) ≡ false → cond (leb (sum + more) limit) (sum + more) sum ≡ sum + more
within limit sum more past = cond-true (leb (sum + more) limit) (sum + more) sum (le-leb (sum + more) limit (ltb-false limit (sum + more) past))

abbrev mine : End → End → Option ℕ → List ℕ
mine end here more = option_to_list (cond (same_end end here) more None)

grown : (counted : Counted) (here : End) (more : Option ℕ) → goes_past counted.limit (counted_from here counted) more ≡ false
    → record {
      limit = counted.limit;
      from_caller = sum_within counted.limit counted.from_caller (mine Caller here more);
      from_called = sum_within counted.limit counted.from_called (mine Called here more);
    } ≡ counting here more counted
grown counted here more past = grind (arith, within)

-- ---- what is told

told_counts : (call : Call) (counted : End → ℕ) (ended : ℕ) (end : End) (agreed : Option Agreement) → ((e : End) → counted e ≤ 99_999_999) → IsInRange (information_as call counted ended end agreed)
told_counts call counted ended end agreed few = grind (arith, cond_both)

module _ {A : Type 0} where
  segments_few : (tables : Tables) (history : List (Entry A)) (number : ℕ) (call : Call) (agreed : Option Agreement) (end : End) → segments_from tables history number call agreed end ≤ tables.segment_limit
  segments_few tables history number call agreed end = grind (arith, sum_few)

  information_counts : (tables : Tables) → IsSound tables → (history : List (Entry A)) (number : ℕ) (call : Call) (ended : ℕ) (end : End)
      → IsInRange (information_for call (segments_of tables history number call) ended end)
  information_counts tables sound history number call ended end = grind (arith, segments_few, told_counts)

  pub own_counts : (at : StepContext A) → IsSound at.tables → (found : Option (ℕ × Call)) → IsInRange (own_information at found)
  own_counts at sound one = grind (arith, information_counts)

  pub far_counts : (at : StepContext A) → IsSound at.tables → (found : Option (ℕ × Call)) → IsInRange (far_information at found)
  far_counts at sound one = grind (arith, information_counts)

  -- ---- one entry more

  judged_more : (end : End) (call : Coupled A) (came : List (Arrival A)) (arrival : Arrival A)
      → all_judged_from end call (came ++ arrival ∷ []) ≡ all_judged_from end call came ++ option_to_list (judged_from end (run call came) arrival)
  judged_more end call [] arrival = append-nil (option_to_list (judged_from end call arrival))
  judged_more end call (first ∷ came) arrival =
      ap (λ rest. option_to_list (judged_from end call first) ++ rest) (judged_more end (after first.here (turn_on call first)) came arrival)
      ∙ sym (append_assoc (option_to_list (judged_from end call first)) (all_judged_from end (after first.here (turn_on call first)) came)
      (option_to_list (judged_from end (run (after first.here (turn_on call first)) came) arrival)))

  -- what a meter has for an end
  pub counted_here : (tables : Tables) (history : List (Entry A)) (number : ℕ) (call : Call) (agreed : Option Agreement) (end : End)
      → counted_from end (counted_by tables history number call agreed) ≡ segments_from tables history number call agreed end
  counted_here tables history number call agreed end = grind arith

  -- what is counted of packets
  abbrev count_of : Tables → Call → Agreement → List (Arrival A) → Counted
  count_of tables call agreement came = record {
    limit = tables.segment_limit;
    from_caller = sum_within tables.segment_limit 0 (all_judged_from Caller (coupled (relay_terms tables call agreement)) came);
    from_called = sum_within tables.segment_limit 0 (all_judged_from Called (coupled (relay_terms tables call agreement)) came);
  }

  pub counted_none : (tables : Tables) (history : List (Entry A)) (number : ℕ) (call : Call) (agreement : Agreement) → arrivals tables history number ≡ []
      → counted_by tables history number call (Some agreement) ≡ opening tables.segment_limit
  counted_none tables history number call agreement none = ap (count_of tables call agreement) none

  module _ (tables : Tables) (before : List (Entry A)) (world : World) (entry : Entry A) (led : world ≡ world_after tables before) where
    -- no packet for a call of this number
    pub counted_still : (number : ℕ) (call : Call) (agreement : Agreement) → ((carried : RelayedPacket A) → relayed_in world entry.event ≡ Some carried → number ≢ carried.number)
        → counted_by tables (before ++ entry ∷ []) number call (Some agreement) ≡ counted_by tables before number call (Some agreement)
    counted_still number call agreement other = grind (arith, arrivals_still)

    -- one for it that is within the limit
    module _ (c : RelayedPacket A) (by : relayed_in world entry.event ≡ Some c) where
      abbrev start : Coupled A
      start = coupled (relay_terms tables c.call c.agreement)

      segments_on : (end : End) → segments_from tables (before ++ entry ∷ []) c.number c.call (Some c.agreement) end
          ≡ sum_within tables.segment_limit (segments_from tables before c.number c.call (Some c.agreement) end)
          (option_to_list (judged_from end (directions tables before c.number c.call c.agreement) c.arrival))
      segments_on end = grind (arith, arrivals_on, judged_more, sum_more)

      pub counted_on : is_past_limit tables before (Some c) ≡ false
          → counted_by tables (before ++ entry ∷ []) c.number c.call (Some c.agreement) ≡ counted_with tables before c
      counted_on past =
          ap (λ n. record { limit = tables.segment_limit; from_caller = n; from_called = segments_from tables (before ++ entry ∷ []) c.number c.call (Some c.agreement) Called }) (segments_on Caller)
          ∙ ap (λ n. record {
            limit = tables.segment_limit;
            from_caller = sum_within tables.segment_limit (segments_from tables before c.number c.call (Some c.agreement) Caller)
                (option_to_list (judged_from Caller (directions tables before c.number c.call c.agreement) c.arrival));
            from_called = n;
          }) (segments_on Called)
          ∙ grown (counted_by tables before c.number c.call (Some c.agreement)) c.arrival.here (judged_at (directions tables before c.number c.call c.agreement) c.arrival)
          (ap (λ n. goes_past tables.segment_limit n (judged_at (directions tables before c.number c.call c.agreement) c.arrival))
          (counted_here tables before c.number c.call (Some c.agreement) c.arrival.here) ∙ past)
