use Rattle.std.proofs.Common.{◌≡◌, ◌+◌, ◌-◌, ◌≤◌, ◌++◌, length, take, vec_len, vec_capacity}
use Rattle.xp_core.proofs.journal.add_all.Given as goal

abbrev pub invariant-loop-record : goal.invariant-loop-record
invariant-loop-record g l =
    (vec_len l.records + (length l.more - l.record-index) ≤ vec_capacity l.records)
    × (l.records.items ≡ l.fn.records.items ++ take l.record-index l.more)
    × (vec_capacity l.records ≡ vec_capacity l.fn.records)
