-- Every call request has an answer.
use Rattle.std.proofs.Common.{◌≡◌, ℕ, zero, suc, ◌<◌, ◌≤◌, Bool, true, false, List, [], ◌∷◌, length, Result, Ok, Err, ◌⊎◌, inl, inr, refl, arith}
use Rattle.std.proofs.lemmas.Bool.{cases_lt}
use Rattle.xp_facilities.proofs.OneReading.{some_reading}
use Rattle.xp_facilities.specs.Requested.{Means, IsFaulty}
use Rattle.xp_facilities.specs.declared.requested.RequestedFacilities.{RequestedFacilities}
use Rattle.xp_facilities.specs.declared.fault.FacilityFault.{FacilityFault}
use Rattle.xp_facilities.specs.declared.fault.FacilityFault.TheVariants.{Length, Code, Param, Memory}
use Rattle.xp_facilities.specs.declared.redirection.Reason.{Reason}
use Rattle.xp_groups.proofs.Exists.{intends_some}
use Rattle.xp_groups.specs.Intends.{Intends}
use Rattle.xp_groups.specs.declared.admission.Admission.{Admission}
use Rattle.xp_groups.specs.declared.intention.Intent.{Intent}
use Rattle.xp_causes.specs.declared.refusal.Refusal.{Refusal}
use Rattle.xp_causes.specs.declared.refusal.TheConstants.Refusal.{FACILITY_LENGTH, FACILITY_NOT_ALLOWED, FACILITY_PARAMETER, USER_DATA_TOO_LONG, ACCESS_BARRED, TOO_MANY_REDIRECTIONS}
use Rattle.xp_hunt.specs.declared.lines.LineState.{LineState}
use Rattle.xp_packets.specs.declared.block.Block.{Block}
use Rattle.xp_subs.specs.Tables.{Tables, modulus_of}
use Rattle.xp_decide.proofs.AtAddress.{Answers, answered}
use Rattle.xp_decide.proofs.AtAddress as here
use Rattle.xp_decide.specs.Asks.{station_of_line, is_fast, windows_fit, HasRoom, HasNoRoom, Asks, MayNotAsk, wanted_of}
use Rattle.xp_decide.specs.Asks as asks
use Rattle.xp_decide.specs.Decided as decided
use Rattle.xp_decide.specs.Laws.{HasVerdict}
use Rattle.xp_decide.specs.IncomingCalls.{incoming_call_of}
use Rattle.xp_decide.specs.Routes.{Hop, first_reason, Follows, IsLast, LeavesAt, Reaches, RefusesAt, TakesAt}
use Rattle.xp_decide.specs.Routes as routes
use Rattle.xp_decide.specs.LinesForCaller.{state_for_caller}
use Rattle.xp_decide.specs.declared.acceptance.Wanted.{Wanted}
use Rattle.xp_decide.specs.declared.request.Request.{Request}
use Rattle.xp_decide.specs.declared.route.Destination.{Destination}
use Rattle.xp_decide.specs.declared.verdict.Verdict.TheVariants.{Take, Refuse}

-- the way along the redirections ends, or goes on past the last that is followed

module _ (tables : Tables) (states : ℕ → LineState) (wanted : Wanted) where
  data Way (most : ℕ) (address : List ℕ) : Type 0 where
    taken : (hops : List Hop) (last : List ℕ) (line : ℕ) (admission : Admission)
        → Follows tables states wanted address hops last → length hops ≤ most → IsLast tables states wanted last
        → TakesAt tables states wanted last line admission → Way most address
    refused : (hops : List Hop) (last : List ℕ) (refusal : Refusal)
        → Follows tables states wanted address hops last → length hops ≤ most → IsLast tables states wanted last
        → RefusesAt tables states wanted last refusal → Way most address
    goes_on : (hops : List Hop) (last : List ℕ)
        → Follows tables states wanted address hops last → length hops ≡ suc most → Way most address

  abbrev hop : List ℕ → Reason → Hop
  hop address reason = record { address = address; reason = reason }

  follow : (most : ℕ) (address to : List ℕ) (reason : Reason) → LeavesAt tables states wanted address reason to → Way most to → Way (suc most) address
  follow most address to reason leaves (taken hops last line admission follows few end takes) =
      taken (hop address reason ∷ hops) last line admission (refl, to, leaves, follows) (omega (arith, few)) end takes
  follow most address to reason leaves (refused hops last refusal follows few end refuses) =
      refused (hop address reason ∷ hops) last refusal (refl, to, leaves, follows) (omega (arith, few)) end refuses
  follow most address to reason leaves (goes_on hops last follows all) =
      goes_on (hop address reason ∷ hops) last (refl, to, leaves, follows) (omega (arith, all))

  from_here : (most : ℕ) (address : List ℕ)
      → ((reason : Reason) (to : List ℕ) → LeavesAt tables states wanted address reason to → Way most address)
      → Answers tables states wanted address → Way most address
  from_here most address on (here.leaves reason to leaves) = on reason to leaves
  from_here most address on (here.takes line admission end takes) = taken [] address line admission refl (omega arith) end takes
  from_here most address on (here.refuses refusal end refuses) = refused [] address refusal refl (omega arith) end refuses

  way : (most : ℕ) (address : List ℕ) → Way most address
  way zero address =
      from_here zero address
      (λ reason to leaves. goes_on (hop address reason ∷ []) to (refl, to, leaves, refl) refl)
      (answered tables states wanted address)
  way (suc most) address =
      from_here (suc most) address
      (λ reason to leaves. follow most address to reason leaves (way most to))
      (answered tables states wanted address)

  reached_some : (dialled : List ℕ) → (result : Result Destination Refusal) × Reaches tables states wanted dialled result
  reached_some dialled = elim (way 4 dialled) [
    | taken hops last line admission follows few end takes ↦
        (Ok (record { line = line; admission = admission; reason = first_reason hops }), routes.taken hops last line admission follows few end takes refl)
    | refused hops last refusal follows few end refuses ↦ (Err refusal, routes.refused hops last refusal follows few end refuses refl)
    | goes_on hops last follows five ↦ (Err TOO_MANY_REDIRECTIONS, routes.too_many hops last follows five refl)
  ]

-- what is asked may be asked or not

module _ {A : Type 0} (tables : Tables) (from : ℕ) (block : Block A) where
  data Opened : Type 0 where
    may : (request : Request A) → Asks tables from block request → Opened
    may_not : (refusal : Refusal) → MayNotAsk tables from block refusal → Opened

  room_or_none : (asked : RequestedFacilities A) → HasRoom block asked ⊎ HasNoRoom block asked
  room_or_none asked = by (cases_lt 16 (length block.user)) (is_fast asked.fast) refl where
    by : (16 < length block.user) ⊎ (length block.user ≤ 16) → (fast : Bool) → is_fast asked.fast ≡ fast → HasRoom block asked ⊎ HasNoRoom block asked
    by (inr few) fast is = inl (inl few)
    by (inl many) true is = inl (inr is)
    by (inl many) false is = inr (many, is)

  intended : (asked : RequestedFacilities A) → Means block.facilities asked
      → windows_fit (modulus_of tables from) asked.window ≡ true → HasRoom block asked
      → (station_of_line tables from).facilities.outgoing_barred ≡ false
      → (result : Result Intent Refusal) → Intends (station_of_line tables from) asked.selection result → Opened
  intended asked means fits room not_barred (Ok intent) intends =
      may (record { asked = asked; intent = intent }) (record { means = means; window = fits; room = room; outgoing = not_barred; intends = intends })
  intended asked means fits room not_barred (Err refusal) intends = may_not refusal (asks.not_intended asked means fits room not_barred intends)

  with_room : (asked : RequestedFacilities A) → Means block.facilities asked
      → windows_fit (modulus_of tables from) asked.window ≡ true → HasRoom block asked
      → (barred : Bool) → (station_of_line tables from).facilities.outgoing_barred ≡ barred → Opened
  with_room asked means fits room true barred = may_not ACCESS_BARRED (asks.outgoing_barred asked means fits room barred refl)
  with_room asked means fits room false not_barred =
      let some = intends_some (station_of_line tables from) asked.selection in intended asked means fits room not_barred some.0 some.1

  faulty : (fault : FacilityFault) → IsFaulty block.facilities fault → Opened
  faulty Length is = may_not FACILITY_LENGTH (asks.facility_length is refl)
  faulty Code is = may_not FACILITY_NOT_ALLOWED (asks.facility_code is refl)
  faulty Param is = may_not FACILITY_PARAMETER (asks.facility_parameter is refl)
  faulty Memory never = absurd never

  opened : Opened
  opened = by (some_reading block.facilities) where
    fitting : (asked : RequestedFacilities A) → Means block.facilities asked
        → windows_fit (modulus_of tables from) asked.window ≡ true → HasRoom block asked ⊎ HasNoRoom block asked → Opened
    fitting asked means fits (inl room) = with_room asked means fits room (station_of_line tables from).facilities.outgoing_barred refl
    fitting asked means fits (inr none) = may_not USER_DATA_TOO_LONG (asks.user_data asked means fits none refl)

    read : (asked : RequestedFacilities A) → Means block.facilities asked
        → (fit : Bool) → windows_fit (modulus_of tables from) asked.window ≡ fit → Opened
    read asked means true fits = fitting asked means fits (room_or_none asked)
    read asked means false wide = may_not FACILITY_PARAMETER (asks.window asked means wide refl)

    by : ((asked : RequestedFacilities A) × Means block.facilities asked) ⊎ ((fault : FacilityFault) × IsFaulty block.facilities fault) → Opened
    by (inl (asked, means)) = read asked means (windows_fit (modulus_of tables from) asked.window) refl
    by (inr (fault, is)) = faulty fault is

-- the decision

module _ {A : Type 0} (tables : Tables) (states : ℕ → LineState) (from : ℕ) (block : Block A) where
  ended : (request : Request A) → Asks tables from block request → (result : Result Destination Refusal)
      → Reaches tables (state_for_caller from states) (wanted_of request) block.called result → HasVerdict tables states from block
  ended request asked (Ok end) reaches =
      record { verdict = Take (incoming_call_of (modulus_of tables end.line) request.asked end block.called); decided = decided.reached request end asked reaches refl }
  ended request asked (Err refusal) reaches =
      record { verdict = Refuse refusal; decided = decided.not_reached request refusal asked reaches refl }

  pub has_verdict : HasVerdict tables states from block
  has_verdict = elim (opened tables from block) [
    | may request asked ↦
        let some = reached_some tables (state_for_caller from states) (wanted_of request) block.called in ended request asked some.0 some.1
    | may_not refusal not_asked ↦ record { verdict = Refuse refusal; decided = decided.not_asked refusal not_asked refl }
  ]
