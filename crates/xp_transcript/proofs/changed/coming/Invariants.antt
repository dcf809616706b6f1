use Rattle.std.proofs.Common.{◌≡◌, ◌≤◌}
use Rattle.xp_transcript.specs.Changed.{coming}
use Rattle.xp_transcript.proofs.changed.coming.Given as goal

abbrev pub invariant-loop-number : goal.invariant-loop-number
invariant-loop-number l = (l.count ≡ coming l.old l.next l.number) × (l.count ≤ l.number)
