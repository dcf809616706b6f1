use Rattle.std.proofs.Common.{◌≡◌, ◌-◌, ◌≤◌, ◌++◌, length, take}
use Rattle.xp_cdr.proofs.append.append_all.Given as goal

abbrev pub invariant-loop-taken : goal.invariant-loop-taken
invariant-loop-taken g l = record {
  within : l.taken ≤ length l.octets;
  taken : g.F.RecordFile.taken l.file ≡ g.F.RecordFile.taken l.fn.file ++ take l.taken l.octets;
  synced : g.F.RecordFile.synced l.file ≡ g.F.RecordFile.synced l.fn.file;
  current : g.F.RecordFile.current l.file ≡ g.F.RecordFile.current l.fn.file;
  failures : g.F.RecordFile.failures l.file ≡ g.F.RecordFile.failures l.fn.file;
}

abbrev pub decreases-loop-taken : goal.decreases-loop-taken
decreases-loop-taken g l = length l.octets - l.taken
