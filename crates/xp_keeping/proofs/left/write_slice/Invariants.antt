use Rattle.std.proofs.Common.{flat_map, take}
use Rattle.std.specs.Io.KnownBytes.{Appends}
use Rattle.xp_cdr.specs.Details.{detail_text}
use Rattle.xp_keeping.proofs.left.write_slice.Given as goal

abbrev pub invariant-loop-call : goal.invariant-loop-call
invariant-loop-call g l = Appends (g.W.Write.contents l.fn.output) (g.W.Write.contents l.output) (flat_map (detail_text l.run) (take l.call-index l.left))
