use Rattle.std.proofs.Common.{◌≡◌, ◌+◌, ◌-◌, ◌≤◌, length, vec_len, vec_capacity}
use Rattle.xp_step.specs.Stalls.{stalls_in}
use Rattle.xp_core.proofs.journal.Journal.prepare_stalls.Given as goal

-- there is room for all stalls already
abbrev pub invariant-loop-alloc : goal.invariant-loop-alloc
invariant-loop-alloc g l = record {
  history : l.self-inside.history.items ≡ l.fn.self.history;
  count : l.self-inside.count ≡ length l.self-inside.history.items;
  stall_count : l.self-inside.stall_count ≡ stalls_in l.self-inside.history.items;
  given_count : l.self-inside.given_count ≡ length l.self-inside.given.items;
  given : l.self-inside.given.items ≡ l.fn.self.given;
  waiting : l.self-inside.waiting.items ≡ l.fn.self.waiting;
  record_room : vec_len l.self-inside.waiting + l.count ≤ vec_capacity l.self-inside.waiting;
  more : l.fn.self.stalls ≤ vec_len l.self-inside.spares;
  places : vec_len l.self-inside.waiting + vec_len l.self-inside.spares ≤ vec_capacity l.self-inside.waiting;
}

abbrev pub decreases-loop-alloc : goal.decreases-loop-alloc
decreases-loop-alloc g l = l.count - vec_len l.self-inside.spares
