use Rattle.std.specs.Fmt.{HasWritten, IsPlainFormatter}
use Rattle.xp_ladder.specs.Ladder.{repeated}
use Rattle.xp_ladder.proofs.repeated.RepeatedDisplay.fmt.Given as goal

-- the copies so far are written
abbrev pub invariant-loop-copy : goal.invariant-loop-copy
invariant-loop-copy g l =
    IsPlainFormatter l.initial.f → HasWritten g.W.Write.write_str_gives l.initial.f (repeated l.self.text.now l._copy) l.f
