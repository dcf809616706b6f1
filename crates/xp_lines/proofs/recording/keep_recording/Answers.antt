use Rattle.std.proofs.Common.{◌∙◌}
use Rattle.xp_lines.proofs.Recorded.{handed_both, handed_ticked, nothing_handed, still_received}
use Rattle.xp_lines.proofs.recording.keep_recording.Goals as goal

pub loop-init : goal.loop-init
loop-init g c = record {
  lines = c.requires.lines;
  tables = c.requires.tables;
  hands = nothing_handed _ _ c.args.path.recorder c.args.path.sink (g.met.S.RecordSink.keeps_itself c.args.path.sink);
}

pub hand_over-handed-requires-clause-received : goal.hand_over-handed-requires-clause-received
hand_over-handed-requires-clause-received g c = still_received _ _ c.args.path.recorder c.args.path.sink _ _ c.requires.received c.loop.invariant.hands

pub loop-preserved : goal.loop-preserved
loop-preserved g c = record {
  lines = c.tick-ticked.ensures.lines ∙ c.hand_over-handed.ensures.lines ∙ c.loop.invariant.lines;
  tables = c.tick-ticked.ensures.tables ∙ c.hand_over-handed.ensures.tables ∙ c.loop.invariant.tables;
  hands =
      handed_ticked _ _ g.met.S.RecordSink.keeps_on _ _ _ _ _
      (handed_both _ _ g.met.S.RecordSink.keeps_on _ _ _ _ _ _ c.loop.invariant.hands c.hand_over-handed.ensures.hands) c.tick-ticked.ensures.received c.tick-ticked.ensures.keeps;
}

pub returns-then-ended : goal.returns-then-ended
returns-then-ended g c =
    handed_ticked _ _ g.met.S.RecordSink.keeps_on _ _ _ _ _
    (handed_both _ _ g.met.S.RecordSink.keeps_on _ _ _ _ _ _ c.loop.invariant.hands c.hand_over-handed.ensures.hands) c.tick-ticked.ensures.received c.tick-ticked.ensures.keeps
