use Rattle.std.proofs.Common.{◌≡◌, drop}
use Rattle.xp_transcript.specs.Places.{placed_by_outputs}
use Rattle.xp_transcript.proofs.places.Places.place_by_outputs.Given as goal

abbrev pub invariant-loop-output : goal.invariant-loop-output
invariant-loop-output l = placed_by_outputs l.self l.caller (drop l.output-index l.outputs) ≡ placed_by_outputs l.fn.self l.caller l.outputs
