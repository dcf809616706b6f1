use Rattle.std.proofs.Common.{take}
use Rattle.std.specs.Fmt.{HasWritten, IsPlainFormatter}
use Rattle.xp_words.specs.Octets.{hex_text}
use Rattle.xp_words.proofs.octets.HexOctetsDisplay.fmt.Given as goal

-- the octets so far are written
abbrev pub invariant-loop-octet : goal.invariant-loop-octet
invariant-loop-octet g l =
    IsPlainFormatter l.initial.f → HasWritten g.W.Write.write_str_gives l.initial.f (hex_text (take l.octet-index l.octet-items)) l.f
