use Rattle.std.proofs.Common.{length, ◌-◌, ◌≡◌, ◌≤◌, take}
use Rattle.std.specs.Io.KnownBytes.{Appends}
use Rattle.xp_lines.proofs.flow.push_some.Given as goal

abbrev pub invariant-loop-count : goal.invariant-loop-count
invariant-loop-count g l =
    (l.count ≤ length l.octets) × (g.L.Link.pulled l.link ≡ g.L.Link.pulled l.fn.link)
    × Appends (g.L.Link.pushed l.fn.link) (g.L.Link.pushed l.link) (take l.count l.octets)

abbrev pub decreases-loop-count : goal.decreases-loop-count
decreases-loop-count g l = length l.octets - l.count
