use Rattle.std.proofs.Common.{◌≡◌, ◌*◌, ◌++◌, drop}
use Rattle.xp_packets.specs.Writing.{packed}
use Rattle.xp_packets.proofs.address.push_addresses.Given as goal

-- what is written, and the digits to come, are what is to be written
abbrev pub invariant-loop-place : goal.invariant-loop-place
invariant-loop-place g l = l.out.items ++ packed (drop (2 * l.place) (l.called ++ l.calling)) ≡ l.fn.out.items ++ packed (l.called ++ l.calling)
