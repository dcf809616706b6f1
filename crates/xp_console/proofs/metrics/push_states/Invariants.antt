use Rattle.std.proofs.Common.{◌≡◌, ◌++◌, flat_map, string_bytes, take}
use Rattle.xp_console.specs.Metrics.{state_sample}
use Rattle.xp_console.proofs.metrics.push_states.Given as goal

-- those so far
abbrev pub invariant-loop-state : goal.invariant-loop-state
invariant-loop-state l = string_bytes l.text ≡ string_bytes l.fn.text ++ flat_map (state_sample l.lines) (take l.state-index l.states)
