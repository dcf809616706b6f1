use Rattle.std.proofs.Common.{◌≡◌, map, take}
use Rattle.arrayvec.specs.ArrayVec.{array_vec_len}
use Rattle.xp_cdr.specs.Names.{clean_letter}
use Rattle.xp_cdr.proofs.run.cleaned_letters.Given as goal

abbrev pub invariant-loop-octet : goal.invariant-loop-octet
invariant-loop-octet l = record {
  letters : l.letters.items ≡ map clean_letter (take l.octet-index l.text);
  count : array_vec_len l.letters ≡ l.octet-index;
}
