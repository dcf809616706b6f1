-- The clear packets among what is put out.
use Rattle.std.proofs.Common.{arith, ◌≡◌, ◌≢◌, ℕ, cond, eqb, Bool, List, [], ◌∷◌, ◌++◌, Option, None, Some, refl, ap}
use Rattle.std.proofs.lemmas.Bool.{eq-eqb, ne_eqb}
use Rattle.xp_answer.specs.ForwardedClear.{ForwardedClear, block_with}
use Rattle.xp_answer.specs.Information.{information_field}
use Rattle.xp_causes.specs.Indicated.{indicated_cause, indicated_diagnostic}
use Rattle.xp_causes.specs.declared.clearing_cause.TheConstants.{NUMBER_BUSY, OUT_OF_ORDER}
use Rattle.xp_causes.specs.declared.diagnostic.TheConstants.{CALL_COLLISION, NO_ADDITIONAL_INFORMATION}
use Rattle.xp_causes.specs.declared.refusal.Refusal.{Refusal}
use Rattle.xp_facilities.specs.declared.charging_information.ChargingInformation.{ChargingInformation}
use Rattle.xp_packets.specs.declared.packet.Packet.{Packet}
use Rattle.xp_packets.specs.declared.block.Block.{Block}
use Rattle.xp_packets.specs.declared.packet.Packet.TheVariants.{Call as CallPacket, Clear}
use Rattle.xp_step.specs.declared.event.What.{What}
use Rattle.xp_step.specs.declared.output.Output.{Output}
use Rattle.xp_step.specs.declared.output.Put.TheVariants.{Send}
use Rattle.xp_step.specs.Acts.{outputs_of_cancel, outputs_to_both, outputs_of_clear, outputs_of_fall}
use Rattle.xp_machine.specs.Channel.{INITIAL_IDENTIFIER}
use Rattle.xp_core.specs.Records.{clear_to, clears_to}
use Rattle.xp_step.specs.StepContext.{StepContext}
use Rattle.xp_step.specs.Table.{ClearRequest}
use Rattle.xp_step.specs.EventOutputs.{clear_indication, far_information, outputs_of, outputs_of_refusal, send_far, outputs_of_incoming_call}
use Rattle.xp_machine.specs.World.{Call, World, call_on, far_end}

module _ {X : Type 0} where
  mine : (line : ℕ) (x : X) → cond (eqb line line) (x ∷ []) [] ++ [] ≡ x ∷ []
  mine line x = ap (λ b. cond b (x ∷ []) [] ++ []) (eq-eqb line line refl)

  -- one to another line before it
  second : (other line : ℕ) (x y : X) → other ≢ line → cond (eqb other line) (x ∷ []) [] ++ (cond (eqb line line) (y ∷ []) [] ++ []) ≡ y ∷ []
  second other line x y differ = grind (arith, mine, ne_eqb)

  -- one to another line after it
  first : (line other : ℕ) (x y : X) → other ≢ line → cond (eqb line line) (x ∷ []) [] ++ (cond (eqb other line) (y ∷ []) [] ++ []) ≡ x ∷ []
  first line other x y differ = grind (arith, mine, ne_eqb)

-- the block of a clear indication with charging information
abbrev pub told_in : {A : Type 0} → Option ChargingInformation → Option (Block A)
told_in information = block_with (information_field information) []

module _ {A : Type 0} (at : StepContext A) (found : ℕ × Call) (is : call_on at.world at.line ≡ Some found) where
  abbrev far_line : ℕ
  far_line = far_end found.1 at.line

  abbrev information : Option (Block A)
  information = told_in (far_information at (Some found))

  -- what the far end is told, after these outputs
  abbrev cleared_by : List (Output A) → List (Output A) → List (Packet A)
  cleared_by own far = clears_to far_line (own ++ far ++ [])

  pub fall_told : (what : What A) → clears_to far_line (outputs_of (outputs_of_fall at what)) ≡ Clear OUT_OF_ORDER (Some NO_ADDITIONAL_INFORMATION) information ∷ []
  fall_told what = grind (arith, mine)

  pub both_told : (near far diagnostic : ℕ) → at.line ≢ far_line → clears_to far_line (outputs_of (outputs_to_both at near far diagnostic)) ≡ Clear far (Some diagnostic) information ∷ []
  both_told near far diagnostic differ = grind arith

  -- with its confirmation before it
  pub confirmed_told : (clear : ClearRequest A) (packet : Packet A)
      (carried : ForwardedClear found.1.setup.fast clear.cause clear.diagnostic clear.block (far_information at (Some found)) packet)
      → clears_to far_line (outputs_of (outputs_of_clear at (Some found) (send_far at.world at.line (Some found) packet)))
      ≡ Clear (indicated_cause clear.cause) (Some (indicated_diagnostic clear.diagnostic)) (block_with carried.field carried.user) ∷ []
  confirmed_told clear packet carried = grind (arith, mine)

module _ {A : Type 0} (world : World) (line : ℕ) (found : ℕ × Call) (is : call_on world line ≡ Some found) where
  -- ---- a collision: the caller of the cancelled call, and the colliding line

  abbrev indication : Packet A
  indication = clear_indication NUMBER_BUSY CALL_COLLISION

  -- both by what they are told
  abbrev far_by : List (Output A) → List (Output A) → Option (ℕ × Call) → List (Packet A)
  far_by own taken call = clears_to (far_end found.1 line) (own ++ send_far world line call indication ++ taken)

  pub collision_refused : (identifier : ℕ) (why : Refusal) → line ≢ far_end found.1 line
      → clears_to {A = A} (far_end found.1 line) (outputs_of (outputs_of_refusal world (outputs_of_cancel world line) line identifier why)) ≡ Clear NUMBER_BUSY (Some CALL_COLLISION) None ∷ []
  collision_refused identifier why differ = grind arith

  pub collision_turned_down : (identifier : ℕ) (why : Refusal) → far_end found.1 line ≢ line
      → clears_to {A = A} line (outputs_of (outputs_of_refusal world (outputs_of_cancel world line) line identifier why)) ≡ Clear why.cause (Some why.diagnostic) None ∷ []
  collision_turned_down identifier why differ = grind arith

  pub collision_taken : (called : ℕ) (packet : Packet A) → clear_to (far_end found.1 line) called (Send INITIAL_IDENTIFIER packet) ≡ []
      → clears_to {A = A} (far_end found.1 line) (outputs_of (outputs_of_incoming_call world (outputs_of_cancel world line) called packet)) ≡ Clear NUMBER_BUSY (Some CALL_COLLISION) None ∷ []
  collision_taken called packet none = grind (arith, mine)

pub turned_down : {A : Type 0} (world : World) (line identifier : ℕ) (why : Refusal)
    → clears_to {A = A} line (outputs_of (outputs_of_refusal world [] line identifier why)) ≡ Clear why.cause (Some why.diagnostic) None ∷ []
turned_down world line identifier why = mine line (Clear why.cause (Some why.diagnostic) None)

-- an incoming call is no clear packet
pub put_told : {A : Type 0} (line called identifier : ℕ) (d : Bool) (block : Block A) (packet : Packet A) → packet ≡ CallPacket d block → clear_to line called (Send identifier packet) ≡ []
put_told line called identifier d block packet is = ap (λ p. clear_to line called (Send identifier p)) is
