-- What has a spelling is what has no encoding fault, and what is written is spelled.
use Rattle.std.proofs.Common.{◌≡◌, ℕ, ◌+◌, ◌<◌, ◌≤◌, Bool, true, false, ltb, ◌||◌, List, [], ◌∷◌, ◌++◌, length, Some, None, refl, sym, ap, ◌∙◌, arith}
use Rattle.std.proofs.lemmas.Bool.{ne_eqb, eqb-false, leb-false, lt-leb, ltb-false, le-ltb, or_parts, or_from}
use Rattle.std.proofs.lemmas.List.{append-nil, length-append, nil_from_length}
use Rattle.xp_packets.specs.declared.fault.Malformed.{Malformed}
use Rattle.xp_packets.specs.declared.fault.Malformed.TheVariants.{Short, Format, Facilities, Long}
use Rattle.xp_packets.specs.declared.block.Block.{Block}
use Rattle.xp_packets.specs.declared.kind.Kind.{Kind}
use Rattle.xp_packets.specs.declared.kind.Kind.TheVariants as kinds
use Rattle.xp_packets.specs.declared.modulus.Modulus.{Modulus}
use Rattle.xp_packets.specs.declared.modulus.Modulus.TheVariants as moduli
use Rattle.xp_packets.specs.declared.packet.Packet.{Packet}
use Rattle.xp_packets.specs.declared.packet.Packet.TheVariants.{Call, Accepted, Clear, ClearConfirm, DataPacket, Ready, NotReady, Reject, Interrupt, InterruptConfirm, Reset, ResetConfirm}
use Rattle.xp_packets.specs.Digits.{filling}
use Rattle.xp_packets.specs.Addresses.{AreAddresses, HasAddresses}
use Rattle.xp_packets.specs.Heading.{Begins, heading}
use Rattle.xp_packets.specs.Numbers.{is_over, flow_octets}
use Rattle.xp_packets.specs.Spelling.{WritesFields, SpellsFields, BlockBy, Spells, WrittenAs}
use Rattle.xp_packets.specs.Examination.{first_of}
use Rattle.xp_packets.specs.Encodability.{lacks_octet, has_wrong_number, block_of, has_long_facilities, is_too_long, CanBeEncoded, encoding_fault}
use Rattle.xp_packets.specs.Writing.{packed, written_block, written}
use Rattle.xp_packets.proofs.HalfOctets.{AreDigits-append, half_octets-packed, same_halves}

-- ---- four conditions, none of which holds

abbrev four : Bool → Bool → Bool → Bool → List (Bool × Malformed)
four short format facilities long = (short, Short) ∷ (format, Format) ∷ (facilities, Facilities) ∷ (long, Long) ∷ []

none_holds : (short format facilities long : Bool) → short ≡ false → format ≡ false → facilities ≡ false → long ≡ false → first_of (four short format facilities long) ≡ None
none_holds short format facilities long a b c d = rw (a, b, c, d) refl

record AllFalse (a b c d : Bool) : Type 0 where
  short : a ≡ false
  format : b ≡ false
  facilities : c ≡ false
  long : d ≡ false

all_false : (a b c d : Bool) → first_of (four a b c d) ≡ None → AllFalse a b c d
all_false true b c d e = absurd cc
all_false false true c d e = absurd cc
all_false false false true d e = absurd cc
all_false false false false true e = absurd cc
all_false false false false false e = record { short = refl; format = refl; facilities = refl; long = refl }

-- ---- what is spelled is fit

small : (identifier : ℕ) → identifier < 4096 → ltb 4095 identifier ≡ false
small identifier below = le-ltb _ _ (omega arith)

bounds : (rest facilities user : List ℕ) → SpellsFields rest facilities user → (length facilities ≤ 109) × (length user ≤ 128)
bounds [] facilities user spelled = (omega (arith, ap length spelled.0), omega (arith, ap length spelled.1))
bounds (size ∷ rest) facilities user spelled = (spelled.2, spelled.3)

block_fits : (A : Type 0) (rest : List ℕ) (block : Block A) → BlockBy SpellsFields A rest block → (ltb 109 (length block.facilities) ≡ false) × (ltb 128 (length block.user) ≡ false)
block_fits A rest block spelled =
    let b = bounds spelled.rest block.facilities block.user spelled.fields in
    (le-ltb _ _ b.0, le-ltb _ _ b.1)

pub spelled_fits : (A : Type 0) (modulus : Modulus) (octets : List ℕ) (identifier : ℕ) (packet : Packet A) → Spells modulus octets identifier packet → encoding_fault modulus identifier packet ≡ None
spelled_fits A modulus octets identifier (Call d block) spelled =
    let b = block_fits A spelled.0 block spelled.2 in
    none_holds _ _ _ _ refl (small identifier spelled.1.0) b.0 b.1
spelled_fits A modulus octets identifier (Accepted d None) spelled = none_holds _ _ _ _ refl (small identifier spelled.0) refl refl
spelled_fits A modulus octets identifier (Accepted d (Some block)) spelled =
    let b = block_fits A spelled.0 block spelled.2 in
    none_holds _ _ _ _ refl (small identifier spelled.1.0) b.0 b.1
spelled_fits A modulus octets identifier (Clear cause None None) spelled = none_holds _ _ _ _ refl (small identifier spelled.0) refl refl
spelled_fits A modulus octets identifier (Clear cause None (Some block)) spelled = absurd spelled
spelled_fits A modulus octets identifier (Clear cause (Some diagnostic) None) spelled = none_holds _ _ _ _ refl (small identifier spelled.0) refl refl
spelled_fits A modulus octets identifier (Clear cause (Some diagnostic) (Some block)) spelled =
    let b = block_fits A spelled.0 block spelled.2 in
    none_holds _ _ _ _ refl (small identifier spelled.1.0) b.0 b.1
spelled_fits A modulus octets identifier (ClearConfirm None) spelled = none_holds _ _ _ _ refl (small identifier spelled.0) refl refl
spelled_fits A modulus octets identifier (ClearConfirm (Some block)) spelled =
    let b = block_fits A spelled.0 block spelled.2 in
    none_holds _ _ _ _ refl (small identifier spelled.1.0) b.0 (ap (λ (user : List ℕ). ltb 0 (length user)) spelled.3)
spelled_fits A modulus octets identifier (DataPacket q d more ps pr carried) spelled =
    none_holds _ _ _ _ refl (or_from (is_over modulus ps || is_over modulus pr) (ltb 4095 identifier) (or_from (is_over modulus ps) (is_over modulus pr) (lt-leb _ _ spelled.1) (lt-leb _ _ spelled.2)) (small identifier spelled.0.0)) refl (le-ltb _ _ spelled.3)
spelled_fits A modulus octets identifier (Ready pr) spelled = none_holds _ _ _ _ refl (or_from (is_over modulus pr) (ltb 4095 identifier) (lt-leb _ _ spelled.3) (small identifier spelled.2.0)) refl refl
spelled_fits A modulus octets identifier (NotReady pr) spelled = none_holds _ _ _ _ refl (or_from (is_over modulus pr) (ltb 4095 identifier) (lt-leb _ _ spelled.3) (small identifier spelled.2.0)) refl refl
spelled_fits A modulus octets identifier (Reject pr) spelled = none_holds _ _ _ _ refl (or_from (is_over modulus pr) (ltb 4095 identifier) (lt-leb _ _ spelled.3) (small identifier spelled.2.0)) refl refl
spelled_fits A modulus octets identifier (Interrupt carried) spelled =
    none_holds _ _ _ _ (ne_eqb _ _ (λ e. absurd (omega (arith, spelled.1)))) (small identifier spelled.0.0) refl (le-ltb _ _ spelled.2)
spelled_fits A modulus octets identifier InterruptConfirm spelled = none_holds _ _ _ _ refl (small identifier spelled.0) refl refl
spelled_fits A modulus octets identifier (Reset cause None) spelled = none_holds _ _ _ _ refl (small identifier spelled.0) refl refl
spelled_fits A modulus octets identifier (Reset cause (Some diagnostic)) spelled = none_holds _ _ _ _ refl (small identifier spelled.0) refl refl
spelled_fits A modulus octets identifier ResetConfirm spelled = none_holds _ _ _ _ refl (small identifier spelled.0) refl refl

-- ---- what is written

block_written : (A : Type 0) (block : Block A) → AreAddresses block.called block.calling → ltb 109 (length block.facilities) ≡ false → length block.user ≤ 128 → BlockBy WritesFields A (written_block block) block
block_written A block are short most =
    let digits_are = AreDigits-append block.called block.calling are.called_digits are.calling_digits in
    let both : length (block.called ++ block.calling) ≡ length block.called + length block.calling = length-append block.called block.calling in
    record {
      digits = packed (block.called ++ block.calling);
      rest = length block.facilities ∷ (block.facilities ++ block.user);
      whole = refl;
      addresses = record {
        called_most = are.called_most;
        calling_most = are.calling_most;
        called_digits = are.called_digits;
        calling_digits = are.calling_digits;
        coded = half_octets-packed (block.called ++ block.calling) digits_are ∙ ap (λ (n : ℕ). (block.called ++ block.calling) ++ filling n) both;
      };
      fields = (refl, refl, ltb-false 109 (length block.facilities) short, most);
    }

begun : (modulus : Modulus) (identifier : ℕ) (q d : Bool) (rest : List ℕ) → ltb 4095 identifier ≡ false → Begins modulus (heading modulus q d identifier ++ rest) q d identifier rest
begun modulus identifier q d rest below = (let most = ltb-false 4095 identifier below in omega arith, refl)

-- no encoding fault
abbrev IsFit : (A : Type 0) → Modulus → ℕ → Packet A → Type 0
IsFit A modulus identifier packet = AllFalse (lacks_octet packet) (has_wrong_number modulus packet || ltb 4095 identifier) (has_long_facilities (block_of packet)) (is_too_long packet)

-- flow control by its octets, with which the packet ends
flow_begun : (modulus : Modulus) (identifier : ℕ) (octets : List ℕ) → ltb 4095 identifier ≡ false → Begins modulus (heading modulus false false identifier ++ (octets ++ [])) false false identifier octets
flow_begun modulus identifier octets below = rw (append-nil octets) (begun modulus identifier false false octets below)

writes_fit : (A : Type 0) (modulus : Modulus) (identifier : ℕ) (packet : Packet A) → HasAddresses packet → IsFit A modulus identifier packet → WrittenAs modulus (written modulus identifier packet) identifier packet
writes_fit A modulus identifier (Call d block) are f =
    (_, begun modulus identifier false d (11 ∷ written_block block) f.format, block_written A block are f.facilities (ltb-false _ _ f.long))
writes_fit A modulus identifier (Accepted d None) are f = begun modulus identifier false d (15 ∷ []) f.format
writes_fit A modulus identifier (Accepted d (Some block)) are f =
    (_, begun modulus identifier false d (15 ∷ written_block block) f.format, block_written A block are f.facilities (ltb-false _ _ f.long))
writes_fit A modulus identifier (Clear cause None None) are f = begun modulus identifier false false (19 ∷ cause ∷ []) f.format
writes_fit A modulus identifier (Clear cause None (Some block)) are f = absurd cc
writes_fit A modulus identifier (Clear cause (Some diagnostic) None) are f = begun modulus identifier false false (19 ∷ cause ∷ diagnostic ∷ []) f.format
writes_fit A modulus identifier (Clear cause (Some diagnostic) (Some block)) are f =
    (_, begun modulus identifier false false (19 ∷ cause ∷ diagnostic ∷ written_block block) f.format, block_written A block are f.facilities (ltb-false _ _ f.long))
writes_fit A modulus identifier (ClearConfirm None) are f = begun modulus identifier false false (23 ∷ []) f.format
writes_fit A modulus identifier (ClearConfirm (Some block)) are f =
    let none : length block.user ≤ 0 = ltb-false 0 (length block.user) f.long in
    (_, begun modulus identifier false false (23 ∷ written_block block) f.format, block_written A block are f.facilities (omega arith), nil_from_length block.user (omega arith))
writes_fit A modulus identifier (DataPacket q d more ps pr carried) are f =
    let format = or_parts (is_over modulus ps || is_over modulus pr) (ltb 4095 identifier) f.format in
    let over = or_parts (is_over modulus ps) (is_over modulus pr) format.0 in
    (begun modulus identifier q d _ format.1, leb-false _ _ over.0, leb-false _ _ over.1, ltb-false 1024 (length carried) f.long)
writes_fit A modulus identifier (Ready pr) are f =
    let format = or_parts (is_over modulus pr) (ltb 4095 identifier) f.format in
    (false, refl, flow_begun modulus identifier (flow_octets modulus pr kinds.Ready false) format.1, leb-false _ _ format.0)
writes_fit A modulus identifier (NotReady pr) are f =
    let format = or_parts (is_over modulus pr) (ltb 4095 identifier) f.format in
    (false, refl, flow_begun modulus identifier (flow_octets modulus pr kinds.NotReady false) format.1, leb-false _ _ format.0)
writes_fit A modulus identifier (Reject pr) are f =
    let format = or_parts (is_over modulus pr) (ltb 4095 identifier) f.format in
    (false, refl, flow_begun modulus identifier (flow_octets modulus pr kinds.Reject false) format.1, leb-false _ _ format.0)
writes_fit A modulus identifier (Interrupt carried) are f =
    let some = eqb-false (length carried) 0 f.short in
    (begun modulus identifier false false (35 ∷ carried) f.format, omega (arith, some), ltb-false 32 (length carried) f.long)
writes_fit A modulus identifier InterruptConfirm are f = begun modulus identifier false false (39 ∷ []) f.format
writes_fit A modulus identifier (Reset cause None) are f = begun modulus identifier false false (27 ∷ cause ∷ []) f.format
writes_fit A modulus identifier (Reset cause (Some diagnostic)) are f = begun modulus identifier false false (27 ∷ cause ∷ diagnostic ∷ []) f.format
writes_fit A modulus identifier ResetConfirm are f = begun modulus identifier false false (31 ∷ []) f.format

abbrev all_fit : (A : Type 0) (modulus : Modulus) (identifier : ℕ) (packet : Packet A) → encoding_fault modulus identifier packet ≡ None → IsFit A modulus identifier packet
all_fit A modulus identifier packet fit = all_false (lacks_octet packet) (has_wrong_number modulus packet || ltb 4095 identifier) (has_long_facilities (block_of packet)) (is_too_long packet) fit

pub written_fits : (A : Type 0) (modulus : Modulus) (identifier : ℕ) (packet : Packet A) → HasAddresses packet → encoding_fault modulus identifier packet ≡ None → WrittenAs modulus (written modulus identifier packet) identifier packet
written_fits A modulus identifier packet are fit = writes_fit A modulus identifier packet are (all_fit A modulus identifier packet fit)

-- ---- what is fit modulo 8 is fit modulo 128

below_both : (number : ℕ) → is_over moduli.Eight number ≡ false → is_over moduli.Long number ≡ false
below_both number little = let below = leb-false 8 number little in lt-leb 128 number (omega arith)

right_in_both : (A : Type 0) (packet : Packet A) → has_wrong_number moduli.Eight packet ≡ false → has_wrong_number moduli.Long packet ≡ false
right_in_both A (Call d block) right = refl
right_in_both A (Accepted d block) right = refl
right_in_both A (Clear cause diagnostic block) right = refl
right_in_both A (ClearConfirm block) right = refl
right_in_both A (DataPacket q d more ps pr carried) right =
    let numbers_are = or_parts (is_over moduli.Eight ps) (is_over moduli.Eight pr) right in
    or_from (is_over moduli.Long ps) (is_over moduli.Long pr) (below_both ps numbers_are.0) (below_both pr numbers_are.1)
right_in_both A (Ready pr) right = below_both pr right
right_in_both A (NotReady pr) right = below_both pr right
right_in_both A (Reject pr) right = below_both pr right
right_in_both A (Interrupt carried) right = refl
right_in_both A InterruptConfirm right = refl
right_in_both A (Reset cause diagnostic) right = refl
right_in_both A ResetConfirm right = refl

pub fits_both : (A : Type 0) (identifier : ℕ) (packet : Packet A) → CanBeEncoded moduli.Eight identifier packet → CanBeEncoded moduli.Long identifier packet
fits_both A identifier packet fit =
    let f = all_fit A moduli.Eight identifier packet fit in
    let format = or_parts (has_wrong_number moduli.Eight packet) (ltb 4095 identifier) f.format in
    none_holds _ _ _ _ f.short (or_from (has_wrong_number moduli.Long packet) (ltb 4095 identifier) (right_in_both A packet format.0) format.1) f.facilities f.long

pub fits_long : (A : Type 0) (modulus : Modulus) (identifier : ℕ) (packet : Packet A) → CanBeEncoded modulus identifier packet → CanBeEncoded moduli.Long identifier packet
fits_long A moduli.Eight identifier packet fit = fits_both A identifier packet fit
fits_long A moduli.Long identifier packet fit = fit

-- ---- a written spelling is spelled, and is the one that is written

fields_spelled : (rest facilities user : List ℕ) → WritesFields rest facilities user → SpellsFields rest facilities user
fields_spelled [] facilities user writes = absurd writes
fields_spelled (size ∷ rest) facilities user writes = writes

block_spelled : (A : Type 0) (octets : List ℕ) (block : Block A) → BlockBy WritesFields A octets block → BlockBy SpellsFields A octets block
block_spelled A octets block writes = record {
  digits = writes.digits;
  rest = writes.rest;
  whole = writes.whole;
  addresses = writes.addresses;
  fields = fields_spelled writes.rest block.facilities block.user writes.fields;
}

pub written_spelled : (A : Type 0) (modulus : Modulus) (octets : List ℕ) (identifier : ℕ) (packet : Packet A) → WrittenAs modulus octets identifier packet → Spells modulus octets identifier packet
written_spelled A modulus octets identifier (Call d block) writes = (writes.0, writes.1, block_spelled A writes.0 block writes.2)
written_spelled A modulus octets identifier (Accepted d None) writes = writes
written_spelled A modulus octets identifier (Accepted d (Some block)) writes = (writes.0, writes.1, block_spelled A writes.0 block writes.2)
written_spelled A modulus octets identifier (Clear cause None None) writes = writes
written_spelled A modulus octets identifier (Clear cause None (Some block)) writes = writes
written_spelled A modulus octets identifier (Clear cause (Some diagnostic) None) writes = writes
written_spelled A modulus octets identifier (Clear cause (Some diagnostic) (Some block)) writes = (writes.0, writes.1, block_spelled A writes.0 block writes.2)
written_spelled A modulus octets identifier (ClearConfirm None) writes = writes
written_spelled A modulus octets identifier (ClearConfirm (Some block)) writes = (writes.0, writes.1, block_spelled A writes.0 block writes.2, writes.3)
written_spelled A modulus octets identifier (DataPacket q d more ps pr carried) writes = writes
written_spelled A modulus octets identifier (Ready pr) writes = (writes.0, tt, writes.2, writes.3)
written_spelled A modulus octets identifier (NotReady pr) writes = (writes.0, tt, writes.2, writes.3)
written_spelled A modulus octets identifier (Reject pr) writes = (writes.0, tt, writes.2, writes.3)
written_spelled A modulus octets identifier (Interrupt carried) writes = writes
written_spelled A modulus octets identifier InterruptConfirm writes = writes
written_spelled A modulus octets identifier (Reset cause None) writes = writes
written_spelled A modulus octets identifier (Reset cause (Some diagnostic)) writes = writes
written_spelled A modulus octets identifier ResetConfirm writes = writes

fields_written : (rest facilities user : List ℕ) → WritesFields rest facilities user → rest ≡ length facilities ∷ (facilities ++ user)
fields_written [] facilities user writes = absurd writes
fields_written (size ∷ rest) facilities user writes = rw (writes.0, writes.1) refl

block_is_written : (A : Type 0) (octets : List ℕ) (block : Block A) → BlockBy WritesFields A octets block → octets ≡ written_block block
block_is_written A octets block writes =
    let are = AreDigits-append block.called block.calling writes.addresses.called_digits writes.addresses.calling_digits in
    let both : length (block.called ++ block.calling) ≡ length block.called + length block.calling = length-append block.called block.calling in
    let digits_are : writes.digits ≡ packed (block.called ++ block.calling) = same_halves _ _ (writes.addresses.coded ∙ sym (half_octets-packed (block.called ++ block.calling) are ∙ ap (λ (n : ℕ). (block.called ++ block.calling) ++ filling n) both)) in
    writes.whole ∙ rw (digits_are, fields_written writes.rest block.facilities block.user writes.fields) refl

-- with a block behind these octets
with_block : (A : Type 0) (octets front rest : List ℕ) (block : Block A) → octets ≡ front ++ rest → BlockBy WritesFields A rest block → octets ≡ front ++ written_block block
with_block A octets front rest block whole writes = whole ∙ ap (λ (back : List ℕ). front ++ back) (block_is_written A rest block writes)

-- flow control with a spare bit that is zero
flow_is : (modulus : Modulus) (octets : List ℕ) (identifier pr : ℕ) (kind : Kind) (spare : Bool) → spare ≡ false → octets ≡ heading modulus false false identifier ++ flow_octets modulus pr kind spare → octets ≡ heading modulus false false identifier ++ (flow_octets modulus pr kind false ++ [])
flow_is modulus octets identifier pr kind spare zero whole = rw (append-nil (flow_octets modulus pr kind false), ← zero) whole

pub written_is : (A : Type 0) (modulus : Modulus) (octets : List ℕ) (identifier : ℕ) (packet : Packet A) → WrittenAs modulus octets identifier packet → octets ≡ written modulus identifier packet
written_is A modulus octets identifier (Call d block) writes = with_block A octets (heading modulus false d identifier ++ 11 ∷ []) writes.0 block writes.1.1 writes.2
written_is A modulus octets identifier (Accepted d None) writes = writes.1
written_is A modulus octets identifier (Accepted d (Some block)) writes = with_block A octets (heading modulus false d identifier ++ 15 ∷ []) writes.0 block writes.1.1 writes.2
written_is A modulus octets identifier (Clear cause None None) writes = writes.1
written_is A modulus octets identifier (Clear cause None (Some block)) writes = absurd writes
written_is A modulus octets identifier (Clear cause (Some diagnostic) None) writes = writes.1
written_is A modulus octets identifier (Clear cause (Some diagnostic) (Some block)) writes = with_block A octets (heading modulus false false identifier ++ 19 ∷ cause ∷ diagnostic ∷ []) writes.0 block writes.1.1 writes.2
written_is A modulus octets identifier (ClearConfirm None) writes = writes.1
written_is A modulus octets identifier (ClearConfirm (Some block)) writes = with_block A octets (heading modulus false false identifier ++ 23 ∷ []) writes.0 block writes.1.1 writes.2
written_is A modulus octets identifier (DataPacket q d more ps pr carried) writes = writes.0.1
written_is A modulus octets identifier (Ready pr) writes = flow_is modulus octets identifier pr kinds.Ready writes.0 writes.1 writes.2.1
written_is A modulus octets identifier (NotReady pr) writes = flow_is modulus octets identifier pr kinds.NotReady writes.0 writes.1 writes.2.1
written_is A modulus octets identifier (Reject pr) writes = flow_is modulus octets identifier pr kinds.Reject writes.0 writes.1 writes.2.1
written_is A modulus octets identifier (Interrupt carried) writes = writes.0.1
written_is A modulus octets identifier InterruptConfirm writes = writes.1
written_is A modulus octets identifier (Reset cause None) writes = writes.1
written_is A modulus octets identifier (Reset cause (Some diagnostic)) writes = writes.1
written_is A modulus octets identifier ResetConfirm writes = writes.1
