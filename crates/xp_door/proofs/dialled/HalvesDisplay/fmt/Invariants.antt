use Rattle.std.proofs.Common.{map, take}
use Rattle.std.specs.Fmt.{HasWritten, IsPlainFormatter}
use Rattle.xp_door.specs.steps.Notices.{glyph}
use Rattle.xp_door.proofs.dialled.HalvesDisplay.fmt.Given as goal

-- the half-octets so far are written
abbrev pub invariant-loop-half : goal.invariant-loop-half
invariant-loop-half g l =
    IsPlainFormatter l.initial.f → HasWritten g.W.Write.write_str_gives l.initial.f (map glyph (take l.half-index l.half-items)) l.f
