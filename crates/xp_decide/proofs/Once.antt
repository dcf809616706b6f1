-- A call request has one answer, but for the line: the whole decision.
use Rattle.std.proofs.Common.{◌≡◌, ℕ, ◌≤◌, true, false, List, length, Result, Ok, Err, ◌⊎◌, inl, inr, refl, sym, ◌∙◌, ap, arith, subst}
use Rattle.xp_facilities.proofs.OneReading.{Means-unique, Means-faultless, IsFaulty-unique}
use Rattle.xp_facilities.specs.Requested.{Means, IsFaulty}
use Rattle.xp_facilities.specs.declared.requested.RequestedFacilities.{RequestedFacilities}
use Rattle.xp_facilities.specs.declared.fault.FacilityFault.{FacilityFault}
use Rattle.xp_facilities.specs.declared.fault.FacilityFault.TheVariants.{Length, Code, Param, Memory}
use Rattle.xp_groups.proofs.Determined.{intent_determined}
use Rattle.xp_groups.specs.Intends.{Intends}
use Rattle.xp_groups.specs.declared.intention.Intent.{Intent}
use Rattle.xp_causes.specs.declared.refusal.Refusal.{Refusal}
use Rattle.xp_causes.specs.declared.refusal.TheConstants.Refusal.{FACILITY_LENGTH, FACILITY_NOT_ALLOWED, FACILITY_PARAMETER, USER_DATA_TOO_LONG, ACCESS_BARRED}
use Rattle.xp_hunt.specs.declared.lines.LineState.{LineState}
use Rattle.xp_packets.specs.declared.block.Block.{Block}
use Rattle.xp_subs.specs.Tables.{Tables, modulus_of}
use Rattle.xp_decide.proofs.Determined.{refuses_at_same, takes_at_same, taken_or_refused, follows_same, follows_longer}
use Rattle.xp_decide.specs.Asks.{station_of_line, windows_fit, HasRoom, HasNoRoom, Asks, MayNotAsk, wanted_of}
use Rattle.xp_decide.specs.Asks as asks
use Rattle.xp_decide.specs.Decided.{Decided}
use Rattle.xp_decide.specs.Decided as decided
use Rattle.xp_decide.specs.Laws.{IsSameButLine}
use Rattle.xp_decide.specs.IncomingCalls.{incoming_call_of}
use Rattle.xp_decide.specs.Routes.{Hop, first_reason, IsLast, Reaches, RefusesAt, TakesAt, Follows}
use Rattle.xp_decide.specs.Routes as routes
use Rattle.xp_decide.specs.LinesForCaller.{state_for_caller}
use Rattle.xp_decide.specs.declared.acceptance.Wanted.{Wanted}
use Rattle.xp_decide.specs.declared.request.Request.{Request}
use Rattle.xp_decide.specs.declared.route.Destination.{Destination}
use Rattle.xp_decide.specs.declared.verdict.Verdict.{Verdict}
use Rattle.xp_decide.specs.declared.verdict.Verdict.TheVariants.{Take}

-- a relation of two values, by what they are
along : {X : Type 0} (R : X → X → Type 0) (one other a b : X) → one ≡ a → other ≡ b → R a b → R one other
along {X} R one other a b is also holds =
    let P : X → Type 0 = λ x. R x other in subst P (sym is) (subst (R a) (sym also) holds)

-- two ends of the way

abbrev pub IsSameEnd : Result Destination Refusal → Result Destination Refusal → Type 0
IsSameEnd (Ok end) (Ok other) = (end.admission ≡ other.admission) × (end.reason ≡ other.reason)
IsSameEnd (Err refusal) (Err other) = refusal ≡ other
IsSameEnd (Ok end) (Err other) = ⊥
IsSameEnd (Err refusal) (Ok other) = ⊥

module _ (tables : Tables) (states : ℕ → LineState) (wanted : Wanted) (dialled : List ℕ) where
  too_far : (hops hops' : List Hop) (last last' : List ℕ)
      → Follows tables states wanted dialled hops last → length hops ≤ 4 → IsLast tables states wanted last
      → Follows tables states wanted dialled hops' last' → length hops' ≡ 5 → ⊥
  too_far hops hops' last last' way few end way' five =
      let longer = follows_longer tables states wanted dialled hops hops' last last' way end way' in omega arith

  pub reaches_same : (one other : Result Destination Refusal)
      → Reaches tables states wanted dialled one → Reaches tables states wanted dialled other → IsSameEnd one other
  reaches_same one other (routes.taken hops last line admission way few end takes is) (routes.taken hops' last' line' admission' way' few' end' takes' also) =
      let same = follows_same tables states wanted dialled hops hops' last last' way end way' end' in
      let P : List ℕ → Type 0 = λ l. TakesAt tables states wanted l line admission in
      along IsSameEnd _ _ _ _ is also
      (takes_at_same tables states wanted last' line line' admission admission' (subst P same.same_last takes) takes', ap first_reason same.same_hops)
  reaches_same one other (routes.taken hops last line admission way few end takes is) (routes.refused hops' last' refusal way' few' end' refuses also) =
      let same = follows_same tables states wanted dialled hops hops' last last' way end way' end' in
      let P : List ℕ → Type 0 = λ l. TakesAt tables states wanted l line admission in
      absurd (taken_or_refused tables states wanted last' line admission refusal (subst P same.same_last takes) refuses)
  reaches_same one other (routes.taken hops last _ _ way few end _ _) (routes.too_many hops' last' way' five _) =
      absurd (too_far hops hops' last last' way few end way' five)
  reaches_same one other (routes.refused hops last refusal way few end refuses is) (routes.taken hops' last' line admission way' few' end' takes also) =
      let same = follows_same tables states wanted dialled hops hops' last last' way end way' end' in
      let P : List ℕ → Type 0 = λ l. RefusesAt tables states wanted l refusal in
      absurd (taken_or_refused tables states wanted last' line admission refusal takes (subst P same.same_last refuses))
  reaches_same one other (routes.refused hops last refusal way few end refuses is) (routes.refused hops' last' refusal' way' few' end' refuses' also) =
      let same = follows_same tables states wanted dialled hops hops' last last' way end way' end' in
      let P : List ℕ → Type 0 = λ l. RefusesAt tables states wanted l refusal in
      along IsSameEnd _ _ _ _ is also (refuses_at_same tables states wanted last' refusal refusal' (subst P same.same_last refuses) refuses')
  reaches_same one other (routes.refused hops last _ way few end _ _) (routes.too_many hops' last' way' five _) =
      absurd (too_far hops hops' last last' way few end way' five)
  reaches_same one other (routes.too_many hops last way five _) (routes.taken hops' last' _ _ way' few' end' _ _) =
      absurd (too_far hops' hops last' last way' few' end' way five)
  reaches_same one other (routes.too_many hops last way five _) (routes.refused hops' last' _ way' few' end' _ _) =
      absurd (too_far hops' hops last' last way' few' end' way five)
  reaches_same one other (routes.too_many _ _ _ _ is) (routes.too_many _ _ _ _ also) = along IsSameEnd _ _ _ _ is also refl

-- two openings

abbrev fault_refusal : FacilityFault → Refusal
fault_refusal Length = FACILITY_LENGTH
fault_refusal Code = FACILITY_NOT_ALLOWED
fault_refusal Param = FACILITY_PARAMETER
fault_refusal Memory = FACILITY_LENGTH

module _ {A : Type 0} (tables : Tables) (from : ℕ) (block : Block A) where
  abbrev request_of : RequestedFacilities A → Intent → Request A
  request_of asked intent = record { asked = asked; intent = intent }

  -- a fault of the field, or what stands against what it means
  record IsFault (refusal : Refusal) : Type 0 where
    fault : FacilityFault
    faulty : IsFaulty block.facilities fault
    told : refusal ≡ fault_refusal fault

  data StandsAgainst (asked : RequestedFacilities A) (refusal : Refusal) : Type 0 where
    window : windows_fit (modulus_of tables from) asked.window ≡ false → refusal ≡ FACILITY_PARAMETER → StandsAgainst asked refusal
    no_room : windows_fit (modulus_of tables from) asked.window ≡ true → HasNoRoom block asked → refusal ≡ USER_DATA_TOO_LONG
        → StandsAgainst asked refusal
    outgoing_barred : windows_fit (modulus_of tables from) asked.window ≡ true → HasRoom block asked
        → (station_of_line tables from).facilities.outgoing_barred ≡ true → refusal ≡ ACCESS_BARRED
        → StandsAgainst asked refusal
    not_intended : windows_fit (modulus_of tables from) asked.window ≡ true → HasRoom block asked
        → (station_of_line tables from).facilities.outgoing_barred ≡ false
        → Intends (station_of_line tables from) asked.selection (Err refusal) → StandsAgainst asked refusal

  record IsAgainst (refusal : Refusal) : Type 0 where
    asked : RequestedFacilities A
    means : Means block.facilities asked
    against : StandsAgainst asked refusal

  kind : (refusal : Refusal) → MayNotAsk tables from block refusal → IsFault refusal ⊎ IsAgainst refusal
  kind refusal (asks.facility_length faulty is) = inl (record { fault = Length; faulty = faulty; told = is })
  kind refusal (asks.facility_code faulty is) = inl (record { fault = Code; faulty = faulty; told = is })
  kind refusal (asks.facility_parameter faulty is) = inl (record { fault = Param; faulty = faulty; told = is })
  kind refusal (asks.window asked means wide is) = inr (record { asked = asked; means = means; against = window wide is })
  kind refusal (asks.user_data asked means fits none is) = inr (record { asked = asked; means = means; against = no_room fits none is })
  kind refusal (asks.outgoing_barred asked means fits room barred is) =
      inr (record { asked = asked; means = means; against = outgoing_barred fits room barred is })
  kind refusal (asks.not_intended asked means fits room not_barred intends) =
      inr (record { asked = asked; means = means; against = not_intended fits room not_barred intends })

  room_or_none : (asked : RequestedFacilities A) → HasRoom block asked → HasNoRoom block asked → ⊥
  room_or_none asked (inl few) none = omega arith
  room_or_none asked (inr fast) none = cc

  against_same : (asked : RequestedFacilities A) (one other : Refusal) → StandsAgainst asked one → StandsAgainst asked other → one ≡ other
  against_same asked one other (window _ is) (window _ also) = is ∙ sym also
  against_same asked one other (window wide _) (no_room fits _ _) = cc
  against_same asked one other (window wide _) (outgoing_barred fits _ _ _) = cc
  against_same asked one other (window wide _) (not_intended fits _ _ _) = cc
  against_same asked one other (no_room fits _ _) (window wide _) = cc
  against_same asked one other (no_room _ _ is) (no_room _ _ also) = is ∙ sym also
  against_same asked one other (no_room _ none _) (outgoing_barred _ room _ _) = absurd (room_or_none asked room none)
  against_same asked one other (no_room _ none _) (not_intended _ room _ _) = absurd (room_or_none asked room none)
  against_same asked one other (outgoing_barred fits _ _ _) (window wide _) = cc
  against_same asked one other (outgoing_barred _ room _ _) (no_room _ none _) = absurd (room_or_none asked room none)
  against_same asked one other (outgoing_barred _ _ _ is) (outgoing_barred _ _ _ also) = is ∙ sym also
  against_same asked one other (outgoing_barred _ _ barred _) (not_intended _ _ not_barred _) = cc
  against_same asked one other (not_intended fits _ _ _) (window wide _) = cc
  against_same asked one other (not_intended _ room _ _) (no_room _ none _) = absurd (room_or_none asked room none)
  against_same asked one other (not_intended _ _ not_barred _) (outgoing_barred _ _ barred _) = cc
  against_same asked one other (not_intended _ _ _ first) (not_intended _ _ _ second) =
      let same : ◌≡◌ {A = Result Intent Refusal} (Err one) (Err other) =
      intent_determined (station_of_line tables from) asked.selection (Err one) (Err other) first second in cc

  may_not_same : (one other : Refusal) → MayNotAsk tables from block one → MayNotAsk tables from block other → one ≡ other
  may_not_same one other first second = by (kind one first) (kind other second) where
    by : IsFault one ⊎ IsAgainst one → IsFault other ⊎ IsAgainst other → one ≡ other
    by (inl f) (inl g) = f.told ∙ ap fault_refusal (IsFaulty-unique block.facilities f.fault g.fault f.faulty g.faulty) ∙ sym g.told
    by (inl f) (inr g) = absurd (Means-faultless block.facilities g.asked f.fault g.means f.faulty)
    by (inr f) (inl g) = absurd (Means-faultless block.facilities f.asked g.fault f.means g.faulty)
    by (inr f) (inr g) =
        let P : RequestedFacilities A → Type 0 = λ a. StandsAgainst a one in
        against_same g.asked one other (subst P (Means-unique block.facilities f.asked g.asked f.means g.means) f.against) g.against

  asked_or_not : (request : Request A) (refusal : Refusal) → Asks tables from block request → MayNotAsk tables from block refusal → ⊥
  asked_or_not request refusal may may_not = by (kind refusal may_not) where
    at : StandsAgainst request.asked refusal → ⊥
    at (window wide _) = cc (may.window)
    at (no_room _ none _) = room_or_none request.asked may.room none
    at (outgoing_barred _ _ barred _) = cc (may.outgoing)
    at (not_intended _ _ _ intends) =
        let same : ◌≡◌ {A = Result Intent Refusal} (Ok request.intent) (Err refusal) =
        intent_determined (station_of_line tables from) request.asked.selection (Ok request.intent) (Err refusal) may.intends intends in cc

    by : IsFault refusal ⊎ IsAgainst refusal → ⊥
    by (inl f) = Means-faultless block.facilities request.asked f.fault may.means f.faulty
    by (inr f) =
        let P : RequestedFacilities A → Type 0 = λ a. StandsAgainst a refusal in
        at (subst P (Means-unique block.facilities f.asked request.asked f.means may.means) f.against)

  asks_same : (one other : Request A) → Asks tables from block one → Asks tables from block other → one ≡ other
  asks_same one other first second =
      let asked : one.asked ≡ other.asked = Means-unique block.facilities one.asked other.asked first.means second.means in
      let P : RequestedFacilities A → Type 0 = λ a. Intends (station_of_line tables from) a.selection (Ok one.intent) in
      let intents : ◌≡◌ {A = Result Intent Refusal} (Ok one.intent) (Ok other.intent) =
      intent_determined (station_of_line tables from) other.asked.selection (Ok one.intent) (Ok other.intent) (subst P asked first.intends) second.intends in
      let intent : one.intent ≡ other.intent = cc in
      ap (λ (a : RequestedFacilities A). request_of a one.intent) asked ∙ ap (request_of other.asked) intent

-- the decision

module _ {A : Type 0} (tables : Tables) (states : ℕ → LineState) (from : ℕ) (block : Block A) where
  ends_same : (request : Request A) (end end' : Destination) → (end.admission ≡ end'.admission) × (end.reason ≡ end'.reason)
      → IsSameButLine tables (Take (incoming_call_of (modulus_of tables end.line) request.asked end block.called))
      (Take (incoming_call_of (modulus_of tables end'.line) request.asked end' block.called))
  ends_same request end end' same = record {
    told = λ modulus. cc (modulus, same.0, same.1);
    told_besides = cc (same.0, same.1);
    asked = refl;
    reason = same.1;
  }

  way : (request request' : Request A) (result : Result Destination Refusal) → request ≡ request'
      → Reaches tables (state_for_caller from states) (wanted_of request) block.called result
      → Reaches tables (state_for_caller from states) (wanted_of request') block.called result
  way request request' result same reaches =
      let P : Request A → Type 0 = λ r. Reaches tables (state_for_caller from states) (wanted_of r) block.called result in subst P same reaches

  pub decided_same : (one other : Verdict A) → Decided tables states from block one → Decided tables states from block other → IsSameButLine tables one other
  decided_same one other (decided.not_asked refusal may_not is) (decided.not_asked refusal' may_not' also) =
      along (IsSameButLine tables) _ _ _ _ is also (may_not_same tables from block refusal refusal' may_not may_not')
  decided_same one other (decided.not_asked refusal may_not _) (decided.not_reached request _ may _ _) =
      absurd (asked_or_not tables from block request refusal may may_not)
  decided_same one other (decided.not_asked refusal may_not _) (decided.reached request _ may _ _) =
      absurd (asked_or_not tables from block request refusal may may_not)
  decided_same one other (decided.not_reached request _ may _ _) (decided.not_asked refusal may_not _) =
      absurd (asked_or_not tables from block request refusal may may_not)
  decided_same one other (decided.not_reached request refusal may reaches is) (decided.not_reached request' refusal' may' reaches' also) =
      let same = asks_same tables from block request request' may may' in
      along (IsSameButLine tables) _ _ _ _ is also
      (reaches_same tables (state_for_caller from states) (wanted_of request') block.called (Err refusal) (Err refusal') (way request request' _ same reaches) reaches')
  decided_same one other (decided.not_reached request refusal may reaches _) (decided.reached request' end may' reaches' _) =
      let same = asks_same tables from block request request' may may' in
      absurd (reaches_same tables (state_for_caller from states) (wanted_of request') block.called (Err refusal) (Ok end) (way request request' _ same reaches) reaches')
  decided_same one other (decided.reached request _ may _ _) (decided.not_asked refusal may_not _) =
      absurd (asked_or_not tables from block request refusal may may_not)
  decided_same one other (decided.reached request end may reaches _) (decided.not_reached request' refusal may' reaches' _) =
      let same = asks_same tables from block request request' may may' in
      absurd (reaches_same tables (state_for_caller from states) (wanted_of request') block.called (Ok end) (Err refusal) (way request request' _ same reaches) reaches')
  decided_same one other (decided.reached request end may reaches is) (decided.reached request' end' may' reaches' also) =
      let same = asks_same tables from block request request' may may' in
      let ends = reaches_same tables (state_for_caller from states) (wanted_of request') block.called (Ok end) (Ok end') (way request request' _ same reaches) reaches' in
      let R : Request A → Type 0 = λ r. one ≡ Take (incoming_call_of (modulus_of tables end.line) r.asked end block.called) in
      along (IsSameButLine tables) _ _ _ _ (subst R same is) also (ends_same request' end end' ends)
