use Rattle.std.proofs.Common.{◌∙◌, ap, refl, sym, subst, Err, IfSome}
use Rattle.std.proofs.lemmas.Result.{err_from_is_err_and}
use Rattle.xp_exchange.specs.declared.fault.ReplayFault.TheVariants.{Memory}
use Rattle.xp_exchange.specs.Play.{opened}
use Rattle.xp_exchange.proofs.Script.{WroteAlone, told_alone, told_first}
use Rattle.xp_exchange.proofs.replaying.replay.Goals as goal

pub returns-in_err-core : goal.returns-in_err-core
returns-in_err-core g c =
    let p = err_from_is_err_and c.from_residual.result c.from_residual.ensures.1 in
    let known = g.W.Write.contents c.args.writer.now in
    let source = g.R.Read.remaining c.args.reader in
    subst (λ result. IfSome source (WroteAlone g.row.A.Denot c.args.subs c.args.named.now known known result)) (sym (p.1 ∙ ap Err p.2))
    (told_alone g.row.A.Denot c.args.subs c.args.named.now source known known source _ _ (Err Memory) refl (told_first (opened c.args.subs) c.args.named.now source known))

pub returns : goal.returns
returns g c =
    told_alone g.row.A.Denot c.args.subs c.args.named.now (g.R.Read.remaining c.args.reader) (g.W.Write.contents c.args.writer.now) _ _ c.in_ok-core.core _ c.replay_on-ended.result.ended
    c.in_ok-core.ensures c.replay_on-ended.ensures
