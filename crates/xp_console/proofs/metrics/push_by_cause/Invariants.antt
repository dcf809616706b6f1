use Rattle.std.proofs.Common.{◌≡◌, ◌++◌, flat_map, string_bytes, take}
use Rattle.xp_console.specs.Metrics.{cause_sample}
use Rattle.xp_console.proofs.metrics.push_by_cause.Given as goal

-- those so far
abbrev pub invariant-loop-count : goal.invariant-loop-count
invariant-loop-count l = string_bytes l.text ≡ string_bytes l.initial.text ++ flat_map (cause_sample l.name) (take l.count-index l.count-items)
