use Rattle.std.proofs.Common.{flat_map, take}
use Rattle.std.specs.Io.KnownBytes.{Appends}
use Rattle.xp_trace.specs.Pieces.{piece_octets}
use Rattle.xp_tracing.proofs.tracing.write_pieces.Given as goal

abbrev pub invariant-loop-piece : goal.invariant-loop-piece
invariant-loop-piece g l = Appends (g.W.Write.contents l.fn.output) (g.W.Write.contents l.output) (flat_map (piece_octets l.moment) (take l.piece-index l.pieces))
