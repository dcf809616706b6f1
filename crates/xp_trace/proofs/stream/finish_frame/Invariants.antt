use Rattle.std.proofs.Common.{◌≡◌, ◌≢◌, ◌++◌, [], take}
use Rattle.xp_clearing.specs.Frames.{IsUnfinished}
use Rattle.xp_trace.proofs.stream.finish_frame.Given as goal

-- no frame is whole by the octets so far
abbrev pub invariant-loop-place : goal.invariant-loop-place
invariant-loop-place l = (l.fn.watch ≢ []) × (l.watch ≡ l.fn.watch ++ take l.place l.octets) × IsUnfinished l.watch
