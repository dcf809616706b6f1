use Rattle.std.proofs.Common.{◌≡◌}
use Rattle.xp_subs.specs.Tables.{line_count}
use Rattle.xp_lines.specs.Recorded.{HandsOn}
use Rattle.xp_lines.proofs.recording.keep_recording.Given as goal

abbrev pub invariant-loop : goal.invariant-loop
invariant-loop g l = record {
  lines : g.S.RecordSink.lines l.sink ≡ line_count g.N.Name.subs;
  tables : g.S.RecordSink.tables l.sink ≡ g.N.Name.subs;
  hands : HandsOn g.S.RecordSink.received g.S.RecordSink.keeps l.fn.path.recorder l.fn.path.sink l.recorder l.sink;
}
