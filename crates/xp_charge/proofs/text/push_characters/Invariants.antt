use Rattle.std.proofs.Common.{◌≡◌, ◌++◌, take}
use Rattle.xp_packets.specs.Digits.{text_of}
use Rattle.xp_charge.proofs.text.push_characters.Given as goal

abbrev pub invariant-loop-digit : goal.invariant-loop-digit
invariant-loop-digit g l = l.text.items ≡ l.initial.text.items ++ text_of (take l.digit-index l.digits-2)
