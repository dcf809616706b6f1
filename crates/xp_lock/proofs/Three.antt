-- Whom a step puts something out to: its line, the far end of the call that it is in, and a line that a new call is put to. No
-- other line changes, and none comes into service but by an Up of its own.
use Rattle.std.proofs.Common.{◌≡◌, ◌≢◌, ◌⊎◌, ℕ, ◌<◌, Bool, true, false, cond, eqb, Option, Some, None, List, [], ◌∷◌, ◌++◌, All, filter, length, map, refl, ap, sym, subst, ◌∙◌, inl, inr, arith}
use Rattle.std.specs.Option.{unwrap_or}
use Rattle.std.proofs.lemmas.Bool.{cases_Bool, cases_eq, cond_both, ne_eqb}
use Rattle.std.proofs.lemmas.List.Elements.{All-append, All-from_recursion, All-head, All-tail}
use Rattle.std.specs.List.{AllByRecursion}
use Rattle.xp_causes.specs.declared.clearing_cause.TheConstants.{NETWORK_CONGESTION}
use Rattle.xp_causes.specs.declared.diagnostic.TheConstants.{NO_ADDITIONAL_INFORMATION}
use Rattle.xp_channel.specs.declared.action.Action.{Action}
use Rattle.xp_channel.specs.declared.action.Action.TheVariants.{Nothing, Rise}
use Rattle.xp_channel.specs.declared.channel.Channel.TheVariants as channels
use Rattle.xp_channel.specs.Kinds.{kind_of as packet_kind}
use Rattle.xp_channel.specs.Table.{cell}
use Rattle.xp_packets.specs.declared.end.End.{End}
use Rattle.xp_packets.specs.declared.end.End.TheVariants.{Caller, Called}
use Rattle.xp_packets.specs.declared.packet.Packet.{Packet}
use Rattle.xp_subs.specs.Tables.{Tables}
use Rattle.xp_step.specs.declared.entry.Entry.{Entry}
use Rattle.xp_step.specs.declared.event.What.{What}
use Rattle.xp_step.specs.declared.event.What.TheVariants as events
use Rattle.xp_step.specs.declared.outcome.Outcome.{Outcome}
use Rattle.xp_step.specs.declared.output.Output.{Output}
use Rattle.xp_step.specs.Acts.{Acts, Answers, CarriesAs, Confirms, Requests, closed, outputs_to_both}
use Rattle.xp_step.specs.RelayedPackets.{RelayedPacket, relayed_by, turn_of_relayed}
use Rattle.xp_machine.specs.CallEnds.{line_at_end}
use Rattle.xp_machine.specs.Channel.{State, Off, Ready, channel_of, is_off}
use Rattle.xp_machine.specs.Coupling.{AreCoupled, IsEnd}
use Rattle.xp_step.specs.Outcomes.{taken_by}
use Rattle.xp_step.specs.Run.{Run}
use Rattle.xp_step.specs.StepContext.{StepContext, step_context}
use Rattle.xp_step.specs.Step.{Step}
use Rattle.xp_step.specs.Table.{CallAccepted, CallRequest, ClearRequest, action_at, action_in, packet_in}
use Rattle.xp_step.specs.EventOutputs.{EventOutputs, no_outputs, outputs_of, send_far, send_on}
use Rattle.xp_machine.specs.World.{Call, World, call_on, far_end, line_at, state_at}
use Rattle.xp_step.proofs.RelayedPackets.{of_carried}
use Rattle.xp_core.proofs.Idle.{taken_ready}
use Rattle.xp_core.proofs.OtherStates.{others_follow}
use Rattle.xp_core.proofs.Sounds.{IsRight, run_right}
use Rattle.xp_machine.proofs.InCall.{end_of, pair, shown_on}
use Rattle.xp_lock.specs.Outgoing.{to_line}
use Rattle.xp_lock.specs.Locked.{is_up}
use Rattle.xp_lock.proofs.Among.{Among, among_or_not}

-- the far end of the call that a line is in, or else the line
abbrev pub far_from : ℕ → Option (ℕ × Call) → ℕ
far_from line None = line
far_from line (Some found) = far_end found.1 line

-- the line of an event, the far end of its call, and the line that is taken, where there are such
abbrev pub trio : World → ℕ → Outcome → List ℕ
trio world line outcome = line ∷ far_from line (call_on world line) ∷ unwrap_or (taken_by outcome) line ∷ []

module _ {A : Type 0} (at : StepContext A) where
  abbrev found_here : Option (ℕ × Call)
  found_here = call_on at.world at.line

  -- one of the three
  abbrev IsOne : Outcome → ℕ → Type 0
  IsOne outcome line = Among (trio at.world at.line outcome) line

  abbrev AreTo : Outcome → List (Output A) → Type 0
  AreTo outcome outputs = AllByRecursion (λ (o : Output A). IsOne outcome o.line) outputs

  -- whom an event tells what, and that a line that a call is put to was ready
  pub record Goes (outcome : Outcome) (told : EventOutputs A) : Type 0 where
    pub carried : AreTo outcome told.carried
    pub own : AreTo outcome told.own
    pub far : AreTo outcome told.far
    pub taken : AreTo outcome told.taken
    pub ready : (called : ℕ) → taken_by outcome ≡ Some called → state_at at.world called ≡ Ready

  untaken : (outcome : Outcome) (carried own far : List (Output A)) (told : EventOutputs A) → taken_by outcome ≡ None
      → told ≡ record { carried = carried; own = own; far = far; taken = [] } → AreTo outcome carried → AreTo outcome own → AreTo outcome far → Goes outcome told
  untaken outcome carried own far told none is of_carried of_own of_far = grind (arith, of_carried)

  to_far : (outcome : Outcome) (found : Option (ℕ × Call)) → found_here ≡ found → (packet : Packet A) → AreTo outcome (send_far at.world at.line found packet)
  to_far outcome None on packet = tt
  to_far outcome (Some found) on packet = (inr (inl (sym (ap (far_from at.line) on))), tt)

  all_to : {X : Type 0} (outcome : Outcome) (f : X → Output A) → ((x : X) → IsOne outcome (f x).line) → (xs : List X) → AreTo outcome (map f xs)
  all_to outcome f to [] = tt
  all_to outcome f to (x ∷ xs) = (to x, all_to outcome f to xs)

  none_go : (outcome : Outcome) (told : EventOutputs A) → taken_by outcome ≡ None → told ≡ no_outputs → Goes outcome told
  none_go outcome told none is = untaken outcome [] [] [] told none is tt tt tt

  both_go : (outcome : Outcome) (near far diagnostic : ℕ) (told : EventOutputs A) → taken_by outcome ≡ None → told ≡ outputs_to_both at near far diagnostic → Goes outcome told
  both_go outcome near far diagnostic told none is = untaken outcome [] _ _ told none is tt (inl refl, tt) (to_far outcome found_here refl _)

  closes : (outcome : Outcome) (event : What A) → AreTo outcome (closed at.world at.line event)
  closes outcome events.Stall = (inl refl, tt)
  closes outcome event = tt

  requests_go : (far : List (Output A)) (asked : Option (CallRequest A)) (outcome : Outcome) (told : EventOutputs A) → AreTo outcome far
      → Requests at.force at.world at.line far asked outcome told → Goes outcome told
  requests_go far asked outcome told of_far is = grind (arith, none_go, taken_ready, untaken)

  confirms_go : (clear : Option (ClearRequest A)) (found : Option (ℕ × Call)) (outcome : Outcome) (told : EventOutputs A) → found_here ≡ found
      → Confirms at clear found outcome told → Goes outcome told
  confirms_go clear found outcome told one is = grind (arith, none_go, to_far, untaken)

  module _ (what : What A) (coupled : AreCoupled at.tables at.world) where
    -- an end of the line's call
    to_end : (outcome : Outcome) (found : ℕ × Call) → found_here ≡ Some found → (line : ℕ) → IsEnd found.1 line → IsOne outcome line
    to_end outcome found on line end = grind (arith, end_of, pair, shown_on)

    answers_go : (accepted : Option (CallAccepted A)) (found : Option (ℕ × Call)) (outcome : Outcome) (told : EventOutputs A) → found_here ≡ found
        → Answers at accepted found outcome told → Goes outcome told
    answers_go accepted found outcome told one is = grind (arith, both_go, none_go, to_end, untaken)

    carries_go : (carried : Option (RelayedPacket A)) → relayed_by at.line found_here (packet_in what) ≡ carried → (past : Bool) (outcome : Outcome) (told : EventOutputs A)
        → CarriesAs at carried past outcome told → Goes outcome told
    carries_go carried by true outcome told is = both_go outcome NETWORK_CONGESTION NETWORK_CONGESTION NO_ADDITIONAL_INFORMATION told (ap taken_by is.0) is.1
    carries_go None by false outcome told is = none_go outcome told (ap taken_by is.0) is.1
    carries_go (Some carried) by false outcome told is =
        untaken outcome _ [] [] told (ap taken_by is.0) is.1
        (all_to outcome (send_on at.world carried.call) (λ move. to_side move.side) (turn_of_relayed at.tables at.before carried).moves) tt tt
      where
        to_side : (end : End) → IsOne outcome (line_at_end carried.call end)
        to_side Caller = to_end outcome (carried.number, carried.call) (of_carried at.line found_here (packet_in what) carried by).on carried.call.caller (inl refl)
        to_side Called = to_end outcome (carried.number, carried.call) (of_carried at.line found_here (packet_in what) carried by).on carried.call.called (inr refl)

    pub goes : (action : Action) (outcome : Outcome) (told : EventOutputs A) → Acts at what action outcome told → Goes outcome told
    goes action outcome told acts = grind (arith, answers_go, both_go, carries_go, closes, confirms_go, none_go, requests_go, to_far, untaken)

-- ---- a line out of service

off_is : (state : State) → is_off state ≡ true → state ≡ Off
off_is state off = grind arith

off_frame : {A : Type 0} (packet : Packet A) → cell channels.Off (packet_kind packet) ≡ Nothing
off_frame packet = grind arith

-- only an Up does something there
at_off : {A : Type 0} (what : What A) → ((is_up what ≡ true) × (action_in channels.Off what ≡ Rise)) ⊎ (action_in channels.Off what ≡ Nothing)
at_off events.Up = inl (refl, refl)
at_off (events.Frame identifier packet) = inr (off_frame packet)
at_off what = inr refl

module _ {A : Type 0} where
  -- outputs to such lines go to no other
  sent_to : (P : ℕ → Type 0) (outputs : List (Output A)) → All (λ (o : Output A). P o.line) outputs → (l : ℕ) → 0 < length (to_line l outputs) → P l
  sent_to P [] all l some = absurd (omega (arith, some))
  sent_to P (output ∷ outputs) all l some = elim (cases_eq output.line l) [
    | inl same ↦ subst P same (All-head (λ (o : Output A). P o.line) output outputs all)
    | inr other ↦ sent_to P outputs (All-tail (λ (o : Output A). P o.line) output outputs all) l
        (subst (λ b. 0 < length (map (λ (o : Output A). o.outgoing) (cond b (output ∷ filter (λ o. eqb o.line l) outputs) (filter (λ o. eqb o.line l) outputs)))) (ne_eqb output.line l other) some)
  ]

module _ {A : Type 0} (tables : Tables) (before : List (Entry A)) (world : World) (run : Run tables before world) (entry : Entry A) (next : World)
    (step : Step tables before world entry next) where
  abbrev line : ℕ
  line = entry.event.line

  abbrev here : StepContext A
  here = step_context tables before world line entry.event.moment

  abbrev action : Action
  action = action_at world entry.event

  abbrev right : IsRight tables (length before) world
  right = run_right tables before world run

  pub goes_here : Goes here entry.outcome step.told
  goes_here = goes here entry.event.what right.coupled action entry.outcome step.told step.acts

  abbrev three : List ℕ
  three = trio world line entry.outcome

  pub taken_three : (l : ℕ) → taken_by entry.outcome ≡ Some l → Among three l
  taken_three l took = inr (inr (inl (sym (ap (λ t. unwrap_or t line) took))))

  -- all that is put out goes to the three
  pub goes_to : (l : ℕ) → 0 < length (to_line l entry.outputs) → Among three l
  goes_to l some =
      let In : Output A → Type 0 = λ (o : Output A). Among three o.line in
      let told = step.told in
      let all : All In (outputs_of told) =
      All-append In (told.carried ++ told.own ++ told.far) told.taken
      (All-append In (told.carried ++ told.own) told.far
      (All-append In told.carried told.own (All-from_recursion In told.carried goes_here.carried) (All-from_recursion In told.own goes_here.own))
      (All-from_recursion In told.far goes_here.far)) (All-from_recursion In told.taken goes_here.taken) in
      sent_to (Among three) (outputs_of told) all l (subst (λ os. 0 < length (to_line l os)) step.outputs some)

  -- ---- who is in service

  abbrev IsOn : World → ℕ → Type 0
  IsOn w l = is_off (state_at w l) ≡ false

  far_on : (found : Option (ℕ × Call)) → call_on world line ≡ found → (l : ℕ) → l ≢ line → l ≡ far_from line found → IsOn world l
  far_on None on l apart is = absurd (apart is)
  far_on (Some found) on l apart is =
      subst (IsOn world) (sym is) (elim (right.coupled.held found.0 found.1 (shown_on world line found on).1).stage [
        | inl put ↦ cond_both (eqb found.1.caller line) found.1.called found.1.caller (IsOn world) (λ first. ap is_off put.1) (λ second. ap is_off put.0)
        | inr accepted ↦ cond_both (eqb found.1.caller line) found.1.called found.1.caller (IsOn world) (λ first. ap is_off accepted.1) (λ second. ap is_off accepted.0)
      ])

  taken_on : (taken : Option ℕ) → taken_by entry.outcome ≡ taken → (l : ℕ) → l ≢ line → l ≡ unwrap_or taken line → IsOn world l
  taken_on taken took l apart is = grind (arith, goes_here)

  -- the others of the three are in service
  three_on : (l : ℕ) → l ≢ line → Among three l → IsOn world l
  three_on l apart one = grind (arith, far_on, taken_on)

  -- of a line out of service
  module _ (off : is_off (state_at world line) ≡ true) where
    action_is : (then : Action) → action_in channels.Off entry.event.what ≡ then → action ≡ then
    action_is then is = ap (λ s. action_in (channel_of s) entry.event.what) (off_is (state_at world line) off) ∙ is

    silent : step.told ≡ no_outputs
    silent = grind (arith, action_is, at_off)

    rises_itself : IsOn next line → is_up entry.event.what ≡ true
    rises_itself on = grind (arith, action_is, at_off)

  -- a line that something is put out to is in service
  pub served : (l : ℕ) → 0 < length (to_line l entry.outputs) → is_off (state_at world l) ≡ false
  served l some = grind (arith, cases_Bool, cases_eq, goes_to, silent, three_on)

  -- no line comes into service but by an Up of its own
  pub rises : (l : ℕ) → is_off (state_at next l) ≡ false → (is_off (state_at world l) ≡ false) ⊎ ((is_up entry.event.what ≡ true) × (l ≡ line))
  rises l on = elim (cases_eq l line) [
    | inl same ↦ grind (arith, cases_Bool, rises_itself)
    | inr other ↦ elim (among_or_not three l) [
      | inl there ↦ inl (three_on l other there)
      | inr out ↦
          let stays : line_at next l ≡ line_at world l =
          (others_follow tables before world entry next run step).rest l other (λ took. out (taken_three l took))
          (λ number call in_call is. out (inr (inl (is ∙ sym (ap (far_from line) in_call))))) in
          inl (ap (λ k. is_off k.state) (sym stays) ∙ on)
    ]
  ]
