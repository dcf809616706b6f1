use Rattle.std.proofs.Common.{flat_map, take}
use Rattle.std.specs.Io.KnownBytes.{Appends}
use Rattle.xp_cdr.specs.RecordLine.{record_line}
use Rattle.xp_keeping.proofs.printing.print_records.Given as goal

abbrev pub invariant-loop-call : goal.invariant-loop-call
invariant-loop-call g l = Appends (g.W.Write.contents l.fn.writer) (g.W.Write.contents l.writer) (flat_map record_line (take l.call-index l.calls))
