use Rattle.std.proofs.Common.{◌≡◌, ◌++◌, drop, length}
use Rattle.xp_transcript.specs.Segments.{flows_by_outputs, output_segments}
use Rattle.xp_transcript.proofs.segments.push_output_segments.Given as goal

abbrev pub invariant-loop-output : goal.invariant-loop-output
invariant-loop-output l =
    (l.text.items ++ output_segments l.subs l.moment l.capture (drop l.output-index l.outputs) ≡ l.fn.text.items ++ output_segments l.subs l.moment l.fn.capture l.outputs)
    × (flows_by_outputs l.subs l.capture (drop l.output-index l.outputs) ≡ flows_by_outputs l.subs l.fn.capture l.outputs)
    × (length l.capture ≡ length l.fn.capture)
