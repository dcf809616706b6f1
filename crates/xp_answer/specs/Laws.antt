-- Laws of answering and clearing.
use Rattle.std.specs.Prelude.{◌≡◌, ℕ, ◌≤◌, Bool, List, [], length, Option}
use Rattle.xp_decide.specs.Written.{CanBeWritten}
use Rattle.xp_decide.specs.declared.verdict.IncomingCall.{IncomingCall}
use Rattle.xp_facilities.specs.Indicated.{Indicates}
use Rattle.xp_facilities.specs.declared.fast_select.FastSelect.{FastSelect}
use Rattle.xp_facilities.specs.declared.charging_information.ChargingInformation.{ChargingInformation}
use Rattle.xp_packets.specs.declared.block.Block.{Block}
use Rattle.xp_packets.specs.declared.modulus.Modulus.{Modulus}
use Rattle.xp_packets.specs.declared.modulus.Modulus.TheVariants.{Long}
use Rattle.xp_packets.specs.declared.packet.Packet.{Packet}
use Rattle.xp_answer.specs.Answered.{Answered}
use Rattle.xp_answer.specs.Blocks.{user_in}
use Rattle.xp_answer.specs.ForwardedClear.{IsInRange, ForwardedClear, told_cleared}
use Rattle.xp_answer.specs.Fields.{CanBeSent}
use Rattle.xp_answer.specs.Incoming.{IsIncomingCall}
use Rattle.xp_answer.specs.Information.{cleared_with, confirmed_with, information_field}
use Rattle.xp_answer.specs.Terms.{AreTerms, AreSettled}
use Rattle.xp_answer.specs.declared.answer.Answer.{Answer}
use Rattle.xp_answer.specs.declared.answer.Answer.TheVariants.{Connected}
use Rattle.xp_answer.specs.declared.connection.Connection.{Connection}
use Rattle.xp_answer.specs.declared.setup.Setup.{Setup}

-- ---- an incoming call to a line

-- there is only one packet for it
abbrev pub IncomingCallIsOne : Type 0 → Type 0
IncomingCallIsOne A =
    (ring : IncomingCall A) (called calling : List ℕ) (d : Bool) (block : Block A) (one other : Packet A)
    → IsIncomingCall ring called calling d block one → IsIncomingCall ring called calling d block other → one ≡ other

abbrev pub IncomingCallCanBeSent : Type 0 → Type 0
IncomingCallCanBeSent A =
    (ring : IncomingCall A) (called calling : List ℕ) (d : Bool) (block : Block A) (packet : Packet A)
    → CanBeWritten ring.told → length block.user ≤ 128 → IsIncomingCall ring called calling d block packet
    → CanBeSent packet

-- ---- its answer

-- the answer is accepted or refused, and has only one outcome
pub record HasOneAnswer (A : Type 0) (setup : Setup) (address dialled : List ℕ) (d : Bool) (block : Option (Block A)) : Type 0 where
  pub some : (answer : Answer A) × Answered setup address dialled d block answer
  pub same : (one other : Answer A) → Answered setup address dialled d block one → Answered setup address dialled d block other → one ≡ other

abbrev pub EveryAnswerHasOne : Type 0 → Type 0
EveryAnswerHasOne A =
    (setup : Setup) (address dialled : List ℕ) (d : Bool) (block : Option (Block A))
    → AreTerms Long setup.indicated → HasOneAnswer A setup address dialled d block

abbrev pub ConnectionsSettleTerms : Type 0 → Type 0
ConnectionsSettleTerms A =
    (modulus : Modulus) (setup : Setup) (address dialled : List ℕ) (d : Bool) (block : Option (Block A)) (connection : Connection A)
    → AreTerms modulus setup.indicated → Answered setup address dialled d block (Connected connection)
    → AreSettled modulus setup.indicated connection.terms

abbrev pub ConnectedCanBeSent : Type 0 → Type 0
ConnectedCanBeSent A =
    (setup : Setup) (address dialled : List ℕ) (d : Bool) (block : Option (Block A)) (connection : Connection A)
    → length (user_in block) ≤ 128 → Answered setup address dialled d block (Connected connection)
    → CanBeSent connection.packet

-- ---- a clear request

-- there is exactly one clear indication for the far end
pub record HasOneIndication (A : Type 0) (fast : FastSelect) (cause : ℕ) (diagnostic : Option ℕ) (block : Option (Block A)) (charging : Option ChargingInformation) : Type 0 where
  pub some : (packet : Packet A) × ForwardedClear fast cause diagnostic block charging packet
  pub same : (one other : Packet A) → ForwardedClear fast cause diagnostic block charging one → ForwardedClear fast cause diagnostic block charging other → one ≡ other

abbrev pub EveryClearHasOneIndication : Type 0 → Type 0
EveryClearHasOneIndication A =
    (fast : FastSelect) (cause : ℕ) (diagnostic : Option ℕ) (block : Option (Block A)) (charging : Option ChargingInformation)
    → IsInRange charging → HasOneIndication A fast cause diagnostic block charging

abbrev pub ForwardedClearCanBeSent : Type 0 → Type 0
ForwardedClearCanBeSent A =
    (fast : FastSelect) (cause : ℕ) (diagnostic : Option ℕ) (block : Option (Block A)) (charging : Option ChargingInformation) (packet : Packet A)
    → length (user_in block) ≤ 128 → ForwardedClear fast cause diagnostic block charging packet
    → CanBeSent packet

-- ---- charging information

-- The field indicates the duration and the segments, and both packets can be encoded.
pub record InformationIsTold (A : Type 0) : Type 0 where
  pub tells : (charging : Option ChargingInformation) → IsInRange charging → Indicates (told_cleared {A = A} charging []) (information_field charging)
  pub cleared : (cause diagnostic : ℕ) (charging : Option ChargingInformation) → CanBeSent {A = A} (cleared_with cause diagnostic charging)
  pub confirmed : (charging : Option ChargingInformation) → CanBeSent {A = A} (confirmed_with charging)
