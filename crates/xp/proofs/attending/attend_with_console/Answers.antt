use Rattle.std.proofs.Common.{IfOk, subst}
use Rattle.xp_serve.specs.Serving.{Serves}
use Rattle.xp.proofs.attending.attend_with_console.Goals as goal

-- the keeper with which serving began is this one
pub returns : goal.returns
returns g c =
    subst (λ keeper. IfOk c.serve_beside.result (λ end. Serves g.K.RecordKeeper.kept g.K.RecordSink.keeps c.args.subs keeper end.keeper end.outcome))
    c.new-attending.ensures c.serve_beside.ensures
