use Rattle.std.proofs.Common.{◌≡◌, map, take}
use Rattle.serde_json.specs.View.{view}
use Rattle.xp_console.specs.Json.{refused_data}
use Rattle.xp_console.proofs.json.causes_value.Given as goal

-- those so far
abbrev pub invariant-loop-count : goal.invariant-loop-count
invariant-loop-count l = map view l.values.items ≡ map refused_data (take l.count-index l.count-items)
