use Rattle.xp_keeping.proofs.Doubted.{doubted_flushed}
use Rattle.xp_keeping.proofs.doubt.write_doubted.Goals as goal

pub returns-in-Ok : goal.returns-in-Ok
returns-in-Ok g c =
    let old = g.W.Write.contents c.args.output.now in
    let between = g.W.Write.contents c.write_unflushed.new.output in
    let new = g.W.Write.contents c.flush.new.output in
    doubted_flushed c.args.run.now c.args.keeper.now old between new c.flush.result c.in-Ok.ensures c.flush.ensures
