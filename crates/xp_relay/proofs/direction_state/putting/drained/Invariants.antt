use Rattle.std.proofs.Common.{◌≡◌, ◌+◌, ◌<◌, ◌≤◌, ◌++◌, length}
use Rattle.std.specs.VecDeque.{deque_capacity}
use Rattle.xp_packets.specs.Numbers.{numbers}
use Rattle.xp_relay.specs.Direction.{numbered}
use Rattle.xp_relay.proofs.direction_state.putting.drained.Given as goal

abbrev pub invariant-loop-carried : goal.invariant-loop-carried
invariant-loop-carried g l = record {
  all : l.numbers ≡ numbers l.fn.modulus;
  few : l.numbers ≤ 128;
  number : l.next < numbers l.fn.modulus;
  capacity : deque_capacity l.held ≡ deque_capacity l.initial.held;
  moves : l.moves.moves ++ numbered l.side (numbers l.fn.modulus) l.pr l.next l.held.items ≡ l.initial.moves.moves ++ numbered l.side (numbers l.fn.modulus) l.pr l.first l.initial.held.items;
  room : l.moves.room + length l.initial.held.items ≡ l.initial.moves.room + length l.held.items;
}

abbrev pub decreases-loop-carried : goal.decreases-loop-carried
decreases-loop-carried g l = length l.held.items
