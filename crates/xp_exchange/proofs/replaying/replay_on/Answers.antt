use Rattle.std.proofs.Common.{◌≡◌, ◌∙◌, ap, sym, subst, Err, IfSome}
use Rattle.xp_exchange.specs.declared.fault.ReplayFault.TheVariants.{Memory}
use Rattle.xp_exchange.proofs.Script.{Wrote, told_first, told_from_start}
use Rattle.xp_exchange.proofs.replaying.replay_on.Goals as goal

pub returns-in-Ok : goal.returns-in-Ok
returns-in-Ok g c =
    let run = c.read_all-ended in
    let same : c.into_core-core.result ≡ run.new.self.state.exchange = c.into_core-core.ensures ∙ ap (λ progress. progress.state.exchange) c.script.view_is in
    subst (λ after. IfSome (g.R.Read.remaining c.args.reader.now) (Wrote c.args.core c.args.named.now (g.W.Write.contents c.args.writer.now) (g.W.Write.contents run.new.writer) run.result (g.R.Read.remaining run.new.reader) after))
    (sym same)
    (told_from_start c.args.core c.args.named.now (g.R.Read.remaining c.args.reader.now) _ _ _ c.in-Ok.script run.result _ c.in-Ok.ensures.ok run.ensures)

pub returns-in-Err : goal.returns-in-Err
returns-in-Err g c =
    let known = g.W.Write.contents c.args.writer.now in
    let source = g.R.Read.remaining c.args.reader.now in
    subst (λ after. IfSome source (Wrote c.args.core c.args.named.now known known (Err Memory) source after)) (sym c.in-Err.ensures.err) (told_first c.args.core c.args.named.now source known)
