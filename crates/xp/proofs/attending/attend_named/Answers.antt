use Rattle.std.proofs.Common.{subst}
use Rattle.xp_serve.specs.Serving.{Serves}
use Rattle.xp.proofs.attending.attend_named.Goals as goal

-- the keeper with which serving began is this one
pub returns-in_ok-watch-in-None : goal.returns-in_ok-watch-in-None
returns-in_ok-watch-in-None g c =
    subst (λ keeper. Serves g.K.RecordKeeper.kept g.K.RecordSink.keeps c.args.subs keeper c.serve_attended.result.keeper c.serve_attended.result.outcome)
    c.new-attending.ensures c.serve_attended.ensures
