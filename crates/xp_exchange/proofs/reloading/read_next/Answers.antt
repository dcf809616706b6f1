use Rattle.std.proofs.Common.{◌∙◌, All, ap, refl, subst, sym, arith}
use Rattle.xp_step.proofs.InForce.{run_frame}
use Rattle.xp_step.specs.Exchange.{world_of}
use Rattle.xp_exchange.specs.FrameEvents.{Fits}
use Rattle.xp_exchange.specs.Play.{force_in, stalls_at}
use Rattle.xp_exchange.proofs.TablesLines.{is_next, stalls_fit}
use Rattle.xp_exchange.proofs.reloading.read_next.Goals as goal

pub going-requires : goal.going-requires
going-requires g c =
    c.in_ok-subs.ensures.may.frame.count ∙ (run_frame c.args.core.now.subs c.args.core.now.history (world_of c.args.core.now) c.count-entries.ensures.run).count

pub returns-clause-ok : goal.returns-clause-ok
returns-clause-ok g c =
    is_next c.args.core.now c.args.named.now c.args.asked.tables c.args.moment c.in_ok-subs.subs c.in_ok-going.going.items c.put_stalls.new.events.items c.count-entries.ensures.run
    (record { over = c.in_ok-subs.ensures.over; may = c.in_ok-subs.ensures.may; goes = c.in_ok-going.ensures })
    (c.in_ok-put_stalls.ensures ∙ ap (stalls_at c.args.moment) c.deref.ensures.value)
    (omega (arith, c.if-entries-len.false, c.count-entries.ensures.count, c.len.ensures, c.journal.ensures, ap (λ subs. subs.journal) c.subs.ensures))

pub returns-clause-fit : goal.returns-clause-fit
returns-clause-fit g c =
    let same = (run_frame c.args.core.now.subs c.args.core.now.history (world_of c.args.core.now) c.count-entries.ensures.run).count in
    subst (All (Fits c.args.core.now.subs)) (sym (c.in_ok-put_stalls.ensures ∙ ap (stalls_at c.args.moment) c.deref.ensures.value))
    (stalls_fit (force_in c.args.core.now) c.args.core.now.subs (world_of c.args.core.now) c.in_ok-subs.subs c.args.moment c.in_ok-going.going.items same c.in_ok-going.ensures.each)
