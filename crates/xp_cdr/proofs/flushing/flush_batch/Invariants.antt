use Rattle.std.proofs.Common.{◌≡◌, ◌-◌, length}
use Rattle.xp_cdr.specs.steps.Writer.{Advances, IsSent, told_text}
use Rattle.xp_cdr.proofs.flushing.flush_batch.Given as goal

abbrev pub invariant-loop-cut : goal.invariant-loop-cut
invariant-loop-cut g l =
    let file = g.F.RecordFile in
    record {
      sent : IsSent file.part_of (told_text l.giving) l.giving.given.items (file.synced l.file) (file.taken l.file) (file.current l.file) l.batch l.progress;
      advances : Advances l.batch.octets (file.synced l.fn.file) l.fn.progress (file.synced l.file) l.progress;
      failures : file.failures l.file ≡ file.failures l.fn.file;
    }

abbrev pub decreases-loop-cut : goal.decreases-loop-cut
decreases-loop-cut g l = length l.batch.cuts - l.progress.cuts
