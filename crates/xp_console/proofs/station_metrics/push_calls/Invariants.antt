use Rattle.std.proofs.Common.{◌≡◌, ◌++◌, flat_map, string_bytes, take}
use Rattle.xp_console.specs.Metrics.{station_calls_sample}
use Rattle.xp_console.proofs.station_metrics.push_calls.Given as goal

-- those so far
abbrev pub invariant-loop-number : goal.invariant-loop-number
invariant-loop-number l = string_bytes l.text ≡ string_bytes l.initial.text ++ flat_map station_calls_sample (take l.number l.stations)
