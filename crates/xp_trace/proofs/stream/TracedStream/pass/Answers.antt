use Rattle.xp_trace.proofs.Following.{hands, pass_follows}
use Rattle.xp_trace.proofs.stream.TracedStream.pass.Goals as goal

pub returns-clause-handed : goal.returns-clause-handed
returns-clause-handed c =
    let skip = c.skip-skipped.ensures in
    rw (← c.self.view_is) (hands (record { sequence = c.self.inside.sequence; part = c.self.inside.watch; is_cut = c.self.inside.is_cut }) c.args.octets.now c.skip-skipped.result _ skip.within skip.skips skip.unfinished)

pub returns-clause-frames : goal.returns-clause-frames
returns-clause-frames c =
    let skip = c.skip-skipped.ensures in
    rw (← c.self.view_is) (pass_follows c.self.inside.is_cut c.self.inside.watch c.args.octets.now c.skip-skipped.result _ _ skip.skips skip.unfinished c.follow.ensures)
