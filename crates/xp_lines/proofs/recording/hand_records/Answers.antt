use Rattle.std.proofs.Common.{subst, sym}
use Rattle.xp_lines.specs.Recorded.{HandsOn}
use Rattle.xp_lines.proofs.Recorded.{nothing_handed}
use Rattle.xp_lines.proofs.recording.hand_records.Goals as goal

pub returns-in_default-clause-hands : goal.returns-in_default-clause-hands
returns-in_default-clause-hands g c =
    let sink = c.args.sink.now in
    subst (λ recorder. HandsOn g.S.RecordSink.received g.S.RecordSink.keeps c.args.recorder.now sink recorder sink) (sym c.in_default.ensures.err)
    (nothing_handed g.S.RecordSink.received g.S.RecordSink.keeps c.args.recorder.now sink (g.met.S.RecordSink.keeps_itself sink))
