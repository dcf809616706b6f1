use Rattle.std.proofs.Common.{refl}
use Rattle.xp_core.proofs.stalling.fall.Goals as goal

pub returns-clause-fallen : goal.returns-clause-fallen
returns-clause-fallen g c =
    let found = c.charged_on.ensures.charged c.args.event.now.moment in
    let put = c.tell-outputs.ensures c.args.before.now.items found in
    record {
      plain = refl;
      outputs = put;
      records = c.charge-records.ensures.records c.args.before.now.items found;
    }
