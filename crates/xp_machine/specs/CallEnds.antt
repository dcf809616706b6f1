-- The two ends of a call.
use Rattle.std.specs.Prelude.{ℕ, ◌==◌, if◌then◌else◌}
use Rattle.xp_packets.specs.declared.end.End.{End}
use Rattle.xp_packets.specs.declared.end.End.TheVariants.{Caller, Called}
use Rattle.xp_machine.specs.World.{Call}

-- which end of a call a line is
abbrev pub end_of : Call → ℕ → End
end_of call line = if call.caller == line then Caller else Called

abbrev pub line_at_end : Call → End → ℕ
line_at_end call Caller = call.caller
line_at_end call Called = call.called
