use Rattle.std.proofs.Common.{◌++◌, All, ap, subst, sym, ◌∙◌}
use Rattle.xp_charge.specs.Lines.{HasLines}
use Rattle.xp_lines.specs.Recorded.{HandsOn}
use Rattle.xp_lines.proofs.Recorded.{handed_from, handed_ticked, in_force_by}
use Rattle.xp_lines.proofs.recording.reload.Goals as goal

pub give-received-requires : goal.give-received-requires
give-received-requires g c = subst (λ lines. All (HasLines lines) c.in-Ok.records.items) (sym c.requires.lines) c.in-Ok.ensures.receives.lines

pub reloaded-requires-clause-in_force : goal.reloaded-requires-clause-in_force
reloaded-requires-clause-in_force g c =
    let done = c.in-Ok.ensures in
    let sink = c.give-received.new.sink in
    let given = c.give-received.ensures.received ∙ ap (λ records. records ++ c.in-Ok.records.items) c.requires.received ∙ sym done.receives.taken in
    in_force_by (g.S.RecordSink.has_handed sink) g.N.Name.subs (g.S.RecordSink.tables sink) c.reload-outcome.new.recorder (g.S.RecordSink.received sink) c.args.next.subs
    done.in_force (c.give-received.ensures.tables ∙ c.requires.tables) given done.receives.each done.receives.legal (c.give-received.ensures.handed c.args.next.subs c.requires.handed)

-- the records were given, and then the sink was told that the next subscriptions are in force
pub returns-in-Ok-clause-hands : goal.returns-in-Ok-clause-hands
returns-in-Ok-clause-hands g c =
    handed_ticked _ _ g.met.S.RecordSink.keeps_on c.args.recorder.now c.args.sink.now c.reload-outcome.new.recorder c.give-received.new.sink c.reloaded.new.self
    (record {
      more = c.in-Ok.records.items;
      taken = c.in-Ok.ensures.receives.taken;
      given = c.give-received.ensures.received;
      seen = c.in-Ok.ensures.receives.seen;
      kept = c.give-received.ensures.keeps;
    }) c.reloaded.ensures.received c.reloaded.ensures.keeps

-- the sink was told why they are not, and then the records were given
pub returns-in-Err-clause-hands : goal.returns-in-Err-clause-hands
returns-in-Err-clause-hands g c =
    let told = c.reloaded-in-Err.new.self in
    let after = c.hand_on.new.sink in
    handed_from _ _ g.met.S.RecordSink.keeps_on c.args.recorder.now c.args.sink.now told c.hand_on.new.recorder after
    c.reloaded-in-Err.ensures.keeps c.reloaded-in-Err.ensures.received
    (subst (λ recorder. HandsOn g.S.RecordSink.received g.S.RecordSink.keeps recorder told c.hand_on.new.recorder after) c.in-Err.ensures.err c.hand_on.ensures.hands)
