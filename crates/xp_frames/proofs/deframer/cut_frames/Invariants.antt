use Rattle.std.proofs.Common.{map, ◌-◌, length}
use Rattle.xp_frames.proofs.Cutting.{CutSoFar}
use Rattle.xp_frames.proofs.deframer.cut_frames.Given as goal

abbrev pub invariant-loop-length : goal.invariant-loop-length
invariant-loop-length g l = CutSoFar l.stream (map (λ p. p.items) l.initial.waiting.items) l.count (map (λ p. p.items) l.waiting.items)

abbrev pub decreases-loop-length : goal.decreases-loop-length
decreases-loop-length g l = length l.stream - l.count
