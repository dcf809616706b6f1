-- Every answer has an outcome, and every clear request an indication.
use Rattle.std.proofs.Common.{◌≡◌, ◌≢◌, ℕ, Bool, true, false, List, [], ◌∷◌, Option, None, Some, refl, Decides, ◌⊎◌, inl, inr}
use Rattle.std.proofs.lemmas.Bool.{false≢true}
use Rattle.std.proofs.lemmas.Slice.Eq.{bytes_eq-Decides}
use Rattle.std.specs.Prelude.{unwrap_or}
use Rattle.xp_causes.specs.Indicated.{indicated_cause, indicated_diagnostic}
use Rattle.xp_causes.specs.declared.diagnostic.TheConstants.{NOT_COMPATIBLE_WITH_FACILITY, INVALID_FACILITY_LENGTH, FACILITY_CODE_NOT_ALLOWED, FACILITY_PARAMETER_NOT_ALLOWED, PACKET_TOO_LONG}
use Rattle.xp_decide.specs.Asks.{is_fast}
use Rattle.xp_facilities.proofs.OneReading.{some_reading}
use Rattle.xp_facilities.specs.Requested.{Means, IsFaulty}
use Rattle.xp_facilities.specs.declared.requested.RequestedFacilities.{RequestedFacilities}
use Rattle.xp_facilities.specs.declared.fast_select.FastSelect.{FastSelect}
use Rattle.xp_facilities.specs.declared.fast_select.FastSelect.TheVariants.{No, Unrestricted, Restricted}
use Rattle.xp_facilities.specs.declared.fault.FacilityFault.{FacilityFault}
use Rattle.xp_facilities.specs.declared.fault.FacilityFault.TheVariants.{Length, Code, Param, Memory}
use Rattle.xp_facilities.specs.declared.redirection.Reason.{Reason}
use Rattle.xp_facilities.specs.declared.redirection.Reason.TheVariants.{Distribution}
use Rattle.xp_facilities.specs.declared.charging_information.ChargingInformation.{ChargingInformation}
use Rattle.xp_packets.specs.declared.block.Block.{Block}
use Rattle.xp_packets.specs.declared.modulus.Modulus.TheVariants.{Long}
use Rattle.xp_packets.specs.declared.packet.Packet.{Packet}
use Rattle.xp_packets.specs.declared.packet.Packet.TheVariants.{Accepted, Clear}
use Rattle.xp_answer.proofs.Once.{answers_same, indications_same}
use Rattle.xp_answer.proofs.Tellable.{connected_told, cleared_told}
use Rattle.xp_answer.specs.Answered.{Names, IsDiagnosedBy, MayCarry, MayNotCarry, Accepts, Declines, Connects, Answered}
use Rattle.xp_answer.specs.Answered as answered
use Rattle.xp_answer.specs.Blocks.{facilities_in, user_in}
use Rattle.xp_answer.specs.ForwardedClear.{IsInRange, ForwardedClear, Carries, TakesOver, block_with}
use Rattle.xp_answer.specs.ForwardedClear as carried
use Rattle.xp_answer.specs.Laws.{HasOneAnswer, HasOneIndication}
use Rattle.xp_answer.specs.Terms.{AreTerms, are_offered, settled}
use Rattle.xp_answer.specs.declared.answer.Answer.{Answer}
use Rattle.xp_answer.specs.declared.answer.Answer.TheVariants.{Connected, Refused}
use Rattle.xp_answer.specs.declared.connection.Connection.{Connection}
use Rattle.xp_answer.specs.declared.setup.Setup.{Setup}

-- the called line is named in some way
record IsNamed (address dialled : List ℕ) (reason : Option Reason) : Type 0 where
  called : List ℕ
  modified : Option Reason
  names : Names address dialled reason called modified

named : (address dialled : List ℕ) (reason : Option Reason) → IsNamed address dialled reason
named address dialled reason = by_test _ (bytes_eq-Decides address dialled) where
  by_test : (same : Bool) → Decides same (address ≡ dialled) → IsNamed address dialled reason
  by_test true decides = record { called = []; modified = None; names = answered.as_dialled (decides.0 refl) refl refl }
  by_test false decides = record {
    called = address;
    modified = Some (unwrap_or reason Distribution);
    names = answered.another (λ same. false≢true (decides.1 same)) refl refl;
  }

-- fast select is restricted or not
restricted_or_not : (fast : FastSelect) → (fast ≡ Restricted) ⊎ (fast ≢ Restricted)
restricted_or_not No = inr (λ e. cc)
restricted_or_not Unrestricted = inr (λ e. cc)
restricted_or_not Restricted = inl refl

module _ {A : Type 0} where
  carry : (fast : FastSelect) (block : Option (Block A)) → MayCarry fast block ⊎ MayNotCarry fast block
  carry fast block = by_parts (user_in block) (is_fast fast) where
    by_parts : (user : List ℕ) (selected : Bool) → ((user ≡ []) ⊎ (selected ≡ true)) ⊎ ((user ≢ []) × (selected ≡ false))
    by_parts [] selected = inl (inl refl)
    by_parts (octet ∷ user) true = inl (inr refl)
    by_parts (octet ∷ user) false = inr ((λ e. cc), refl)

module _ {A : Type 0} (setup : Setup) (address dialled : List ℕ) (d : Bool) (block : Option (Block A)) where
  abbrev Outcome : Type 0
  Outcome = (answer : Answer A) × Answered setup address dialled d block answer

  connected : (asked : RequestedFacilities A) → AreTerms Long setup.indicated → Accepts setup block asked → Outcome
  connected asked terms accepts =
      let named = named address dialled setup.reason in
      let told = connected_told setup named.modified asked (facilities_in block) terms accepts.means in
      let block' : Block A = record { called = named.called; calling = []; facilities = told.0; user = user_in block } in
      let connection : Connection A = record { packet = Accepted d (Some block'); terms = settled setup.indicated asked; charging = asked.charging } in (
        Connected connection,
        (
          asked,
          accepts,
          record {
            called = named.called;
            modified = named.modified;
            names = named.names;
            field = told.0;
            tells = told.1;
            packet = refl;
            terms = refl;
            charging = refl;
          },
        ),
      )

  by_offer : (asked : RequestedFacilities A) → AreTerms Long setup.indicated → setup.fast ≢ Restricted → Means (facilities_in block) asked → MayCarry setup.fast block
      → (offered : Bool) → are_offered setup.indicated asked ≡ offered → Outcome
  by_offer asked terms unrestricted means carries true offered =
      connected asked terms (record { unrestricted = unrestricted; means = means; carries = carries; offered = offered })
  by_offer asked terms unrestricted means carries false not =
      (Refused FACILITY_PARAMETER_NOT_ALLOWED, answered.not_offered asked unrestricted means carries not refl)

  by_user : (asked : RequestedFacilities A) → AreTerms Long setup.indicated → setup.fast ≢ Restricted → Means (facilities_in block) asked
      → MayCarry setup.fast block ⊎ MayNotCarry setup.fast block → Outcome
  by_user asked terms unrestricted means (inl may) = by_offer asked terms unrestricted means may (are_offered setup.indicated asked) refl
  by_user asked terms unrestricted means (inr not) = (Refused PACKET_TOO_LONG, answered.user_data asked unrestricted means not refl)

  by_fault : (fault : FacilityFault) → setup.fast ≢ Restricted → IsFaulty (facilities_in block) fault → Outcome
  by_fault Length unrestricted faulty = (Refused INVALID_FACILITY_LENGTH, answered.faulty Length unrestricted faulty refl)
  by_fault Code unrestricted faulty = (Refused FACILITY_CODE_NOT_ALLOWED, answered.faulty Code unrestricted faulty refl)
  by_fault Param unrestricted faulty = (Refused FACILITY_PARAMETER_NOT_ALLOWED, answered.faulty Param unrestricted faulty refl)
  by_fault Memory unrestricted faulty = absurd faulty

  by_reading : AreTerms Long setup.indicated → setup.fast ≢ Restricted
      → ((asked : RequestedFacilities A) × Means (facilities_in block) asked) ⊎ ((fault : FacilityFault) × IsFaulty (facilities_in block) fault) → Outcome
  by_reading terms unrestricted (inl read) = by_user read.0 terms unrestricted read.1 (carry setup.fast block)
  by_reading terms unrestricted (inr faulty) = by_fault faulty.0 unrestricted faulty.1

  by_kind : AreTerms Long setup.indicated → (setup.fast ≡ Restricted) ⊎ (setup.fast ≢ Restricted) → Outcome
  by_kind terms (inl restricted) = (Refused NOT_COMPATIBLE_WITH_FACILITY, answered.restricted restricted refl)
  by_kind terms (inr unrestricted) = by_reading terms unrestricted (some_reading (facilities_in block))

  pub one_answer : AreTerms Long setup.indicated → HasOneAnswer A setup address dialled d block
  one_answer terms = record {
    some = by_kind terms (restricted_or_not setup.fast);
    same = answers_same setup address dialled d block;
  }

-- ---- a clear request

taken_over : (A : Type 0) (field : List ℕ) → (dte : List ℕ) × TakesOver A field dte
taken_over A field = by_reading (some_reading field) where
  by_reading : ((asked : RequestedFacilities A) × Means field asked) ⊎ ((fault : FacilityFault) × IsFaulty field fault) → (dte : List ℕ) × TakesOver A field dte
  by_reading (inl read) = (read.0.dte, carried.read read.0 read.1 refl)
  by_reading (inr faulty) = ([], carried.faulty faulty.0 faulty.1 refl)

module _ {A : Type 0} (fast : FastSelect) (cause : ℕ) (diagnostic : Option ℕ) (block : Option (Block A)) (charging : Option ChargingInformation) where
  indicated : (user dte : List ℕ) → IsInRange charging → Carries fast block user dte
      → (packet : Packet A) × ForwardedClear fast cause diagnostic block charging packet
  indicated user dte range carries =
      let told = cleared_told fast block charging user dte range carries in (
        Clear (indicated_cause cause) (Some (indicated_diagnostic diagnostic)) (block_with told.0 user),
        record { user = user; dte = dte; carries = carries; field = told.0; tells = told.1; whole = refl },
      )

  some_indication : IsInRange charging → (selected : Bool) → is_fast fast ≡ selected
      → (packet : Packet A) × ForwardedClear fast cause diagnostic block charging packet
  some_indication range false not = indicated [] [] range (carried.nothing not refl refl)
  some_indication range true selected =
      let taken = taken_over A (facilities_in block) in
      indicated (user_in block) taken.0 range (carried.both selected refl taken.1)

  pub one_indication : IsInRange charging → HasOneIndication A fast cause diagnostic block charging
  one_indication range = record {
    some = some_indication range (is_fast fast) refl;
    same = indications_same fast cause diagnostic block charging;
  }
