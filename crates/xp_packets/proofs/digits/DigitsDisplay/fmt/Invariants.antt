use Rattle.std.proofs.Common.{take}
use Rattle.std.specs.Fmt.{HasWritten, IsPlainFormatter}
use Rattle.xp_packets.specs.Digits.{text_of}
use Rattle.xp_packets.proofs.digits.DigitsDisplay.fmt.Given as goal

-- the digits so far are written
abbrev pub invariant-loop-digit : goal.invariant-loop-digit
invariant-loop-digit g l =
    IsPlainFormatter l.initial.f → HasWritten g.W.Write.write_str_gives l.initial.f (text_of (take l.digit-index l.digit-items)) l.f
