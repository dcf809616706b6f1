use Rattle.std.proofs.Common.{subst, sym, ◌∙◌}
use Rattle.xp_serve.proofs.attending.AttendingRecordSink.receive.Goals as goal

pub returns-clause-handed : goal.returns-clause-handed
returns-clause-handed g c next (is, has) =
    (c.pass_on.ensures.names ∙ is, subst (λ watch. g.W.Watch.has_handed watch next) (sym c.pass_on.ensures.watch) (c.note_ended.ensures next has))
