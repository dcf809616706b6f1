use Rattle.xp_serve.proofs.OfKeeper.{serves_keeper}
use Rattle.xp_serve.proofs.attending.serve_attended.Goals as goal

pub returns : goal.returns
returns g c =
    serves_keeper c.args.attending c.serve-keeper.result.keeper (λ attending. attending.keeper) g.K.RecordKeeper.kept g.K.RecordSink.keeps c.args.subs c.serve-keeper.result.outcome
    c.serve-keeper.ensures.serves
