use Rattle.std.proofs.Common.{sym, subst}
use Rattle.xp_relay.specs.StoredCoupled.{RepresentsCall}
use Rattle.xp_relay.proofs.relay.Relay.judge.Goals as goal

pub returns-in-Caller : goal.returns-in-Caller
returns-in-Caller g c = λ call h.
    let s = subst (λ k. RepresentsCall k call) (sym c.self.view_is) h in
    rw (c.in-Caller.is) (c.judge.ensures.judged call.from_caller call.from_called s.from_caller s.from_called)

pub returns-in-Called : goal.returns-in-Called
returns-in-Called g c = λ call h.
    let s = subst (λ k. RepresentsCall k call) (sym c.self.view_is) h in
    rw (c.in-Called.is) (c.judge-in-Called.ensures.judged call.from_called call.from_caller s.from_called s.from_caller)
