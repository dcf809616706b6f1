use Rattle.std.proofs.Common.{◌≡◌, take}
use Rattle.arrayvec.specs.ArrayVec.{array_vec_len}
use Rattle.xp_packets.specs.Digits.{text_of}
use Rattle.xp_cdr.proofs.fields.characters_of.Given as goal

abbrev pub invariant-loop-digit : goal.invariant-loop-digit
invariant-loop-digit l = record {
  characters : l.characters.items ≡ text_of (take l.digit-index l.digits-2);
  count : array_vec_len l.characters ≡ l.digit-index;
}
