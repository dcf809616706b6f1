-- The outcome of an answer to an incoming call (X.25 clauses 4.1.4, 4.1.5, 6.12, 6.16, 6.22 and 6.26).
use Rattle.std.specs.Prelude.{◌≡◌, ◌≢◌, ℕ, Bool, true, false, List, [], Option, None, Some, ◌⊎◌, unwrap_or}
use Rattle.std.specs.Option.{option_or}
use Rattle.xp_decide.specs.Asks.{is_fast}
use Rattle.xp_causes.specs.declared.diagnostic.TheConstants.{NOT_COMPATIBLE_WITH_FACILITY, INVALID_FACILITY_LENGTH, FACILITY_CODE_NOT_ALLOWED, FACILITY_PARAMETER_NOT_ALLOWED, PACKET_TOO_LONG}
use Rattle.xp_facilities.specs.Requested.{Means, IsFaulty}
use Rattle.xp_facilities.specs.Indicated.{Indicates}
use Rattle.xp_facilities.specs.declared.requested.RequestedFacilities.{RequestedFacilities}
use Rattle.xp_facilities.specs.declared.fast_select.FastSelect.{FastSelect}
use Rattle.xp_facilities.specs.declared.fast_select.FastSelect.TheVariants.{No, Restricted}
use Rattle.xp_facilities.specs.declared.fault.FacilityFault.{FacilityFault}
use Rattle.xp_facilities.specs.declared.fault.FacilityFault.TheVariants.{Length, Code, Param, Memory}
use Rattle.xp_facilities.specs.declared.redirection.Reason.{Reason}
use Rattle.xp_facilities.specs.declared.redirection.Reason.TheVariants.{Distribution}
use Rattle.xp_facilities.specs.declared.selection.Selection.TheVariants.{Nothing}
use Rattle.xp_facilities.specs.declared.indicated.IndicatedFacilities.{IndicatedFacilities}
use Rattle.xp_packets.specs.declared.block.Block.{Block}
use Rattle.xp_packets.specs.declared.packet.Packet.TheVariants.{Accepted}
use Rattle.xp_answer.specs.Blocks.{facilities_in, user_in}
use Rattle.xp_answer.specs.Terms.{are_offered, settled}
use Rattle.xp_answer.specs.declared.answer.Answer.{Answer}
use Rattle.xp_answer.specs.declared.answer.Answer.TheVariants as answers
use Rattle.xp_answer.specs.declared.connection.Connection.{Connection}
use Rattle.xp_answer.specs.declared.setup.Setup.{Setup}

-- What the call connected packet says of the called line: nothing if its address was dialled. Otherwise it gives the
-- address, and why it is not the dialled one: the reason of the first redirection, or distribution in a hunt group.
pub data Names (address dialled : List ℕ) (reason : Option Reason) (called : List ℕ) (modified : Option Reason) : Type 0 where
  as_dialled : address ≡ dialled → called ≡ [] → modified ≡ None → Names address dialled reason called modified
  another : address ≢ dialled → called ≡ address → modified ≡ Some (unwrap_or reason Distribution) → Names address dialled reason called modified

-- the diagnostic of a faulty facility field
abbrev pub IsDiagnosedBy : FacilityFault → ℕ → Type 0
IsDiagnosedBy Length diagnostic = diagnostic ≡ INVALID_FACILITY_LENGTH
IsDiagnosedBy Code diagnostic = diagnostic ≡ FACILITY_CODE_NOT_ALLOWED
IsDiagnosedBy Param diagnostic = diagnostic ≡ FACILITY_PARAMETER_NOT_ALLOWED
IsDiagnosedBy Memory diagnostic = ⊥

module _ {A : Type 0} where
  -- without fast select an answer has no user data
  abbrev pub MayCarry : FastSelect → Option (Block A) → Type 0
  MayCarry fast block = (user_in block ≡ []) ⊎ (is_fast fast ≡ true)

  abbrev pub MayNotCarry : FastSelect → Option (Block A) → Type 0
  MayNotCarry fast block = (user_in block ≢ []) × (is_fast fast ≡ false)

  -- the called line may give this answer, which requests these facilities
  pub record Accepts (setup : Setup) (block : Option (Block A)) (asked : RequestedFacilities A) : Type 0 where
    pub unrestricted : setup.fast ≢ Restricted
    pub means : Means (facilities_in block) asked
    pub carries : MayCarry setup.fast block
    pub offered : are_offered setup.indicated asked ≡ true

  -- the diagnostic of the first fault, in the order of the checks
  pub data Declines (setup : Setup) (block : Option (Block A)) (diagnostic : ℕ) : Type 0 where
    -- a call with restricted fast select can only be cleared
    restricted : setup.fast ≡ Restricted
        → diagnostic ≡ NOT_COMPATIBLE_WITH_FACILITY → Declines setup block diagnostic
    faulty : (fault : FacilityFault) → setup.fast ≢ Restricted → IsFaulty (facilities_in block) fault
        → IsDiagnosedBy fault diagnostic → Declines setup block diagnostic
    user_data : (asked : RequestedFacilities A) → setup.fast ≢ Restricted → Means (facilities_in block) asked → MayNotCarry setup.fast block
        → diagnostic ≡ PACKET_TOO_LONG → Declines setup block diagnostic
    not_offered : (asked : RequestedFacilities A) → setup.fast ≢ Restricted → Means (facilities_in block) asked → MayCarry setup.fast block
        → are_offered setup.indicated asked ≡ false
        → diagnostic ≡ FACILITY_PARAMETER_NOT_ALLOWED → Declines setup block diagnostic

  -- the facilities of the call connected packet
  abbrev pub outputs_of_answer : Setup → Option Reason → RequestedFacilities A → IndicatedFacilities A
  outputs_of_answer setup modified asked = record {
    selection = Nothing;
    fast = No;
    reverse = false;
    throughput = option_or asked.throughput setup.throughput;
    modified = modified;
    packet = Some (settled setup.indicated asked).packet;
    window = Some (settled setup.indicated asked).window;
    redirected = None;
    duration = None;
    segments = None;
    dte = asked.dte;
  }

  -- the packet that the caller receives, and what holds for the call from then on
  pub record Connects (setup : Setup) (address dialled : List ℕ) (d : Bool) (block : Option (Block A)) (asked : RequestedFacilities A) (connection : Connection A) : Type 0 where
    pub called : List ℕ
    pub modified : Option Reason
    pub names : Names address dialled setup.reason called modified
    pub field : List ℕ
    pub tells : Indicates (outputs_of_answer setup modified asked) field
    pub packet : connection.packet ≡ Accepted d (Some (record { called = called; calling = []; facilities = field; user = user_in block }))
    pub terms : connection.terms ≡ settled setup.indicated asked
    pub charging : connection.charging ≡ asked.charging

  -- the line with this address answers the call to the dialled address, with this outcome
  abbrev pub Answered : Setup → List ℕ → List ℕ → Bool → Option (Block A) → Answer A → Type 0
  Answered setup address dialled d block (answers.Connected connection) =
      (asked : RequestedFacilities A) × Accepts setup block asked × Connects setup address dialled d block asked connection
  Answered setup address dialled d block (answers.Refused diagnostic) = Declines setup block diagnostic

  -- a property of the connection, if the call is connected
  abbrev pub IfConnected : Answer A → (Connection A → Type 0) → Type 0
  IfConnected (answers.Connected connection) Holds = Holds connection
  IfConnected (answers.Refused diagnostic) Holds = Unit {0}
