use Rattle.std.proofs.Common.{◌≡◌, ◌≤◌, ◌++◌, vec_capacity, vec_len}
use Rattle.xp_keeping.proofs.record_thread.take_batch.Given as goal

abbrev pub invariant-loop-place : goal.invariant-loop-place
invariant-loop-place g l = record {
  queue : l.records.queue ≡ l.fn.records.queue;
  taken : l.records.taken ≡ l.fn.records.taken ++ l.batch.items;
  len : vec_len l.batch ≤ l._place;
  room : 256 ≤ vec_capacity l.batch;
}
