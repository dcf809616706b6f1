-- The far end of a call (`far_end`).
use Rattle.xp_packets.specs.declared.end.End.{End}
use Rattle.xp_packets.specs.declared.end.End.TheVariants.{Caller, Called}

-- the other end
abbrev pub far_end : End → End
far_end Caller = Called
far_end Called = Caller
