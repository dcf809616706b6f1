use Rattle.std.proofs.Common.{◌≡◌, drop}
use Rattle.xp_subs.specs.steps.Passes.{with_ports}
use Rattle.xp_subs.proofs.used_values.UsedValues.enter_ports.Given as goal

abbrev pub invariant-loop-entry : goal.invariant-loop-entry
invariant-loop-entry l = with_ports l.lines l.initial.self ≡ with_ports (drop l.entry-index l.lines) l.self
