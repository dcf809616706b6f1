use Rattle.std.proofs.Common.{◌≡◌, drop}
use Rattle.xp_lock.specs.steps.Given.{with_lines}
use Rattle.xp_lock.proofs.given.add_lines.Given as goal

abbrev pub invariant-loop-output : goal.invariant-loop-output
invariant-loop-output g l = with_lines l.given.items (drop l.output-index l.fn.outputs) ≡ with_lines l.fn.given.items l.fn.outputs
