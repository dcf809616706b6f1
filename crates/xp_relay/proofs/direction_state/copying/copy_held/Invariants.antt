use Rattle.std.proofs.Common.{◌≡◌, ◌≤◌, length, take}
use Rattle.std.specs.VecDeque.{deque_capacity, deque_len}
use Rattle.xp_relay.proofs.direction_state.copying.copy_held.Given as goal

-- the packets before `place` are copied
abbrev pub invariant-loop-place : goal.invariant-loop-place
invariant-loop-place g l = record {
  items : l.copied.items ≡ take l.place l.held.items;
  count : deque_len l.copied ≡ l.place;
  room : length l.held.items ≤ deque_capacity l.copied;
  capacity : deque_capacity l.fn.copied ≤ deque_capacity l.copied;
}
