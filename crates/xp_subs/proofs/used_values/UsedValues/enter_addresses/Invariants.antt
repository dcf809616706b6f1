use Rattle.std.proofs.Common.{◌≡◌, ◌+◌, drop}
use Rattle.xp_subs.specs.steps.Passes.{with_addresses}
use Rattle.xp_subs.proofs.used_values.UsedValues.enter_addresses.Given as goal

abbrev pub invariant-loop-entry : goal.invariant-loop-entry
invariant-loop-entry l =
    (with_addresses l.station l.first l.lines l.initial.self ≡ with_addresses l.station l.line (drop l.entry-index l.lines) l.self)
    × (l.line ≡ l.first + l.entry-index)
