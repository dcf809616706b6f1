-- The laws, and what they make of the answers of decode.
use Rattle.std.proofs.Common.{◌≡◌, ℕ, List, None, Result, Ok, Err, refl, sym, ap, ◌∙◌, inl, inr}
use Rattle.std.specs.Prelude.{◌⊎◌, IfOk}
use Rattle.std.proofs.lemmas.Option.{same_Some}
use Rattle.xp_packets.specs.declared.fault.Malformed.{Malformed}
use Rattle.xp_packets.specs.declared.fault.PacketFault.{PacketFault}
use Rattle.xp_packets.specs.declared.fault.PacketFault.TheVariants as faults
use Rattle.xp_packets.specs.declared.modulus.Modulus.{Modulus}
use Rattle.xp_packets.specs.declared.modulus.Modulus.TheVariants.{Long}
use Rattle.xp_packets.specs.declared.packet.Packet.{Packet}
use Rattle.xp_packets.specs.Decoding.{Decodes}
use Rattle.xp_packets.specs.Examination.{IsMalformed, first_of, conditions}
use Rattle.xp_packets.specs.Encodability.{CanBeEncoded, encoding_fault}
use Rattle.xp_packets.specs.Laws.{AreOctets, SpellsOnly, IsOnlyMalformed, EitherSpelledOrMalformed, OneWrittenSpelling, WrittenIsReadBack, SpelledIsEncodable, EncodableIsWritten, EncodableByBoth}
use Rattle.xp_packets.specs.Owning.{owns_octets}
use Rattle.xp_packets.specs.steps.Reading.{MatchesReadingOrMemory, packet_at}
use Rattle.xp_packets.specs.Spelling.{Spells}
use Rattle.xp_packets.specs.Writing.{written}
use Rattle.xp_packets.proofs.ExaminationLemmas.{packet_error}
use Rattle.xp_packets.proofs.FitnessLemmas.{fits_both, fits_long, spelled_fits, written_fits, written_is, written_spelled}
use Rattle.xp_packets.proofs.PacketLemmas.{packet_takes, packet_again}
use Rattle.xp_packets.proofs.Results.{error_of, ok_is}

-- ---- what decode answers

wrong_is : (A : Type 0) (modulus : Modulus) (octets : List ℕ) (wrong : Malformed) → packet_at {A = A} modulus octets ≡ Err wrong → IsMalformed modulus octets wrong
wrong_is A modulus octets wrong read = sym (packet_error A modulus octets) ∙ ap (λ (r : Result (ℕ × Packet A) Malformed). error_of r) read

pub decodes : (A : Type 0) (modulus : Modulus) (octets : List ℕ) (answer : Result (ℕ × Packet A) PacketFault) → AreOctets octets → MatchesReadingOrMemory (λ (x : ℕ × Packet A). owns_octets x.1) answer (packet_at modulus octets) → Decodes modulus octets answer
decodes A modulus octets (Ok read) are given = packet_takes A modulus octets read are given
decodes A modulus octets (Err (faults.Malformed wrong)) are given = wrong_is A modulus octets wrong given
decodes A modulus octets (Err faults.Memory) are given = (given.0.0, given.0.1, packet_takes A modulus octets given.0 are given.1, given.2)

pub decodes_fit : (A : Type 0) (modulus : Modulus) (octets : List ℕ) (answer : Result (ℕ × Packet A) PacketFault) → AreOctets octets → MatchesReadingOrMemory (λ (x : ℕ × Packet A). owns_octets x.1) answer (packet_at modulus octets) → IfOk answer (λ read. encoding_fault modulus read.0 read.1 ≡ None)
decodes_fit A modulus octets (Ok read) are given = spelled_fits A modulus octets read.0 read.1 (packet_takes A modulus octets read are given)
decodes_fit A modulus octets (Err fault) are given = tt

pub decodes_long : (A : Type 0) (modulus : Modulus) (octets : List ℕ) (answer : Result (ℕ × Packet A) PacketFault) → AreOctets octets → MatchesReadingOrMemory (λ (x : ℕ × Packet A). owns_octets x.1) answer (packet_at modulus octets) → IfOk answer (λ read. CanBeEncoded Long read.0 read.1)
decodes_long A modulus octets (Ok read) are given = fits_long A modulus read.0 read.1 (decodes_fit A modulus octets (Ok read) are given)
decodes_long A modulus octets (Err fault) are given = tt

-- ---- the laws

no_fault : (A : Type 0) (modulus : Modulus) (octets : List ℕ) (identifier : ℕ) (packet : Packet A) → Spells modulus octets identifier packet → (wrong : Malformed) → IsMalformed modulus octets wrong → ⊥
no_fault A modulus octets identifier packet spelled wrong is =
    let none : first_of (conditions modulus octets) ≡ None = sym (packet_error A modulus octets) ∙ ap (λ (r : Result (ℕ × Packet A) Malformed). error_of r) (packet_again A modulus octets identifier packet spelled) in
    cc

spells_only : (A : Type 0) (modulus : Modulus) (octets : List ℕ) (identifier : ℕ) (packet : Packet A) → Spells modulus octets identifier packet → SpellsOnly A modulus octets identifier packet
spells_only A modulus octets identifier packet spelled = record {
  spelled = spelled;
  only = λ other another also.
      let same : (other, another) ≡ (identifier, packet) = ok_is (other, another) (identifier, packet) (sym (packet_again A modulus octets other another also) ∙ packet_again A modulus octets identifier packet spelled) in
      (ap (λ (x : ℕ × Packet A). x.0) same, ap (λ (x : ℕ × Packet A). x.1) same);
  right = no_fault A modulus octets identifier packet spelled;
}

only_wrong : (A : Type 0) (modulus : Modulus) (octets : List ℕ) (wrong : Malformed) → IsMalformed modulus octets wrong → IsOnlyMalformed A modulus octets wrong
only_wrong A modulus octets wrong found = record {
  found = found;
  only = λ other also. same_Some other wrong (sym also ∙ found);
  unspelled = λ identifier packet spelled. no_fault A modulus octets identifier packet spelled wrong found;
}

either : (A : Type 0) (modulus : Modulus) (octets : List ℕ) (read : Result (ℕ × Packet A) Malformed) → AreOctets octets → packet_at modulus octets ≡ read → ((identifier : ℕ) × (packet : Packet A) × SpellsOnly A modulus octets identifier packet) ⊎ ((wrong : Malformed) × IsOnlyMalformed A modulus octets wrong)
either A modulus octets (Ok x) are is = inl (x.0, x.1, spells_only A modulus octets x.0 x.1 (packet_takes A modulus octets x are is))
either A modulus octets (Err wrong) are is = inr (wrong, only_wrong A modulus octets wrong (wrong_is A modulus octets wrong is))

pub either_spelled_or_malformed : (A : Type 0) → EitherSpelledOrMalformed A
either_spelled_or_malformed A modulus octets are = either A modulus octets (packet_at modulus octets) are refl

pub one_written_spelling : (A : Type 0) → OneWrittenSpelling A
one_written_spelling A modulus octets others identifier packet this that = written_is A modulus octets identifier packet this ∙ sym (written_is A modulus others identifier packet that)

pub written_is_read_back : (A : Type 0) → WrittenIsReadBack A
written_is_read_back A modulus octets identifier packet writes = spells_only A modulus octets identifier packet (written_spelled A modulus octets identifier packet writes)

pub spelled_is_encodable : (A : Type 0) → SpelledIsEncodable A
spelled_is_encodable A modulus octets identifier packet spelled = spelled_fits A modulus octets identifier packet spelled

pub encodable_is_written : (A : Type 0) → EncodableIsWritten A
encodable_is_written A modulus identifier packet are fit = (written modulus identifier packet, written_fits A modulus identifier packet are fit)

pub encodable_by_both : (A : Type 0) → EncodableByBoth A
encodable_by_both A identifier packet fit = fits_both A identifier packet fit
