use Rattle.std.proofs.Common.{map, take}
use Rattle.std.specs.Fmt.{HasWritten, IsPlainFormatter}
use Rattle.xp_words.specs.Octets.{shown}
use Rattle.xp_words.proofs.octets.OctetTextDisplay.fmt.Given as goal

-- the octets so far are written
abbrev pub invariant-loop-octet : goal.invariant-loop-octet
invariant-loop-octet g l =
    IsPlainFormatter l.initial.f → HasWritten g.W.Write.write_str_gives l.initial.f (map shown (take l.octet-index l.octet-items)) l.f
