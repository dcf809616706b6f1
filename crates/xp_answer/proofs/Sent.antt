-- The packets of the exchange can be encoded, and their facility fields are one and short.
use Rattle.std.proofs.Common.{◌≡◌, ℕ, ◌≤◌, Bool, false, ltb, List, [], ◌∷◌, length, Option, None, Some, refl, sym, ap, ◌∙◌, subst, arith}
use Rattle.std.proofs.lemmas.Bool.{le-ltb}
use Rattle.xp_decide.specs.Written.{CanBeWritten}
use Rattle.xp_decide.specs.declared.verdict.IncomingCall.{IncomingCall}
use Rattle.xp_facilities.proofs.Bounds.{told-length, told-exchange}
use Rattle.xp_facilities.proofs.Telling.{tells-octets}
use Rattle.xp_facilities.specs.Indicated.{Indicates, IsOfExchange, table}
use Rattle.xp_facilities.specs.Indicated as indicated
use Rattle.xp_facilities.specs.declared.requested.RequestedFacilities.{RequestedFacilities}
use Rattle.xp_facilities.specs.declared.fast_select.FastSelect.{FastSelect}
use Rattle.xp_facilities.specs.declared.charging_information.ChargingInformation.{ChargingInformation}
use Rattle.xp_facilities.specs.declared.indicated.IndicatedFacilities.{IndicatedFacilities}
use Rattle.xp_packets.specs.Examination.{first_of}
use Rattle.xp_packets.specs.declared.block.Block.{Block}
use Rattle.xp_packets.specs.declared.fault.Malformed.TheVariants.{Short, Format, Facilities, Long}
use Rattle.xp_packets.specs.declared.packet.Packet.{Packet}
use Rattle.xp_packets.specs.declared.packet.Packet.TheVariants.{Call, Accepted, Clear}
use Rattle.xp_answer.specs.Answered.{Connects, outputs_of_answer}
use Rattle.xp_answer.specs.Blocks.{user_in}
use Rattle.xp_answer.specs.ForwardedClear.{ForwardedClear, Carries, block_with, told_cleared}
use Rattle.xp_answer.specs.ForwardedClear as carried
use Rattle.xp_answer.specs.Fields.{CanBeSent}
use Rattle.xp_answer.specs.Incoming.{IsIncomingCall}
use Rattle.xp_answer.specs.declared.connection.Connection.{Connection}
use Rattle.xp_answer.specs.declared.setup.Setup.{Setup}

-- ---- fields

-- a field that tells values is one
pub tells_same : {A : Type 0} (told : IndicatedFacilities A) (one other : List ℕ) → Indicates told one → Indicates told other → one ≡ other
tells_same told one other first second =
    first.whole
    ∙ sym (tells-octets (table told) told.dte first.carried first.dte.whole)
    ∙ tells-octets (table told) told.dte second.carried second.dte.whole
    ∙ sym second.whole

-- without a redirection, as in a call connected packet or a clear indication
pub short_field : {A : Type 0} (told : IndicatedFacilities A) (field : List ℕ) → told.redirected ≡ None → IsOfExchange told → Indicates told field → length field ≤ 107
short_field told field none kind tells = told-exchange told (length field) (told-length told field tells (rw none tt)) kind

-- ---- packets

pub none_holds : (short format facilities long : Bool) → short ≡ false → format ≡ false → facilities ≡ false → long ≡ false
    → first_of ((short, Short) ∷ (format, Format) ∷ (facilities, Facilities) ∷ (long, Long) ∷ []) ≡ None
none_holds short format facilities long a b c d = rw (a, b, c, d) refl

pub few_facilities : (field : List ℕ) → length field ≤ 107 → ltb 109 (length field) ≡ false
few_facilities field few = le-ltb 109 (length field) (omega (arith, few))

module _ {A : Type 0} (called calling field user : List ℕ) (few : length field ≤ 107) (most : length user ≤ 128) where
  abbrev block : Block A
  block = record { called = called; calling = calling; facilities = field; user = user }

  call_sent : (d : Bool) → CanBeSent (Call d block)
  call_sent d = record {
    fit = λ modulus identifier small. none_holds _ _ _ _ refl (le-ltb 4095 identifier small) (few_facilities field few) (le-ltb 128 (length user) most);
    most = few;
  }

  accepted_sent : (d : Bool) → CanBeSent (Accepted d (Some block))
  accepted_sent d = record {
    fit = λ modulus identifier small. none_holds _ _ _ _ refl (le-ltb 4095 identifier small) (few_facilities field few) (le-ltb 128 (length user) most);
    most = few;
  }

  cleared_sent : (cause diagnostic : ℕ) → CanBeSent (Clear cause (Some diagnostic) (Some block))
  cleared_sent cause diagnostic = record {
    fit = λ modulus identifier small. none_holds _ _ _ _ refl (le-ltb 4095 identifier small) (few_facilities field few) (le-ltb 128 (length user) most);
    most = few;
  }

plain_sent : (A : Type 0) (cause diagnostic : ℕ) → CanBeSent {A = A} (Clear cause (Some diagnostic) None)
plain_sent A cause diagnostic = record {
  fit = λ modulus identifier small. none_holds _ _ _ _ refl (le-ltb 4095 identifier small) refl refl;
  most = tt;
}

pub with_block_sent : (A : Type 0) (cause diagnostic : ℕ) (field user : List ℕ) → length field ≤ 107 → length user ≤ 128
    → CanBeSent {A = A} (Clear cause (Some diagnostic) (block_with field user))
with_block_sent A cause diagnostic [] [] few most = plain_sent A cause diagnostic
with_block_sent A cause diagnostic [] (octet ∷ user) few most = cleared_sent [] [] [] (octet ∷ user) few most cause diagnostic
with_block_sent A cause diagnostic (octet ∷ field) user few most = cleared_sent [] [] (octet ∷ field) user few most cause diagnostic

module _ {A : Type 0} where
  pub incoming_call_sent : (ring : IncomingCall A) (called calling : List ℕ) (d : Bool) (block : Block A) (packet : Packet A)
      → CanBeWritten ring.told → length block.user ≤ 128 → IsIncomingCall ring called calling d block packet → CanBeSent packet
  incoming_call_sent ring called calling d block packet written most is =
      let few = written.most is.field is.tells in
      subst CanBeSent (sym is.whole) (call_sent called calling is.field block.user few most d)

  pub connected_sent : (setup : Setup) (address dialled : List ℕ) (d : Bool) (block : Option (Block A)) (asked : RequestedFacilities A) (connection : Connection A)
      → length (user_in block) ≤ 128 → Connects setup address dialled d block asked connection → CanBeSent connection.packet
  connected_sent setup address dialled d block asked connection most connects =
      let few = short_field (outputs_of_answer setup connects.modified asked) connects.field refl (indicated.connected refl refl) connects.tells in
      subst CanBeSent (sym connects.packet) (accepted_sent connects.called [] connects.field (user_in block) few most d)

  carried_few : (fast : FastSelect) (block : Option (Block A)) (user dte : List ℕ) → length (user_in block) ≤ 128 → Carries fast block user dte → length user ≤ 128
  carried_few fast block user dte most (carried.nothing _ none _) = omega (arith, ap length none)
  carried_few fast block user dte most (carried.both _ is _) = omega (arith, ap length is, most)

  pub carried_on_sent : (fast : FastSelect) (cause : ℕ) (diagnostic : Option ℕ) (block : Option (Block A)) (charging : Option ChargingInformation) (packet : Packet A)
      → length (user_in block) ≤ 128 → ForwardedClear fast cause diagnostic block charging packet → CanBeSent packet
  carried_on_sent fast cause diagnostic block charging packet most is =
      let few = short_field (told_cleared {A = A} charging is.dte) is.field refl (indicated.cleared refl refl refl) is.tells in
      subst CanBeSent (sym is.whole) (with_block_sent A _ _ is.field is.user few (carried_few fast block is.user is.dte most is.carries))
