use Rattle.std.proofs.Common.{sym, subst}
use Rattle.std.proofs.lemmas.Result.{IfOk-weaker}
use Rattle.xp_relay.specs.StoredCoupled.{RepresentsCall}
use Rattle.xp_relay.specs.Turns.{turn_of}
use Rattle.xp_relay.proofs.Calls.{follows_caller, follows_called}
use Rattle.xp_relay.proofs.relay.Relay.take.Goals as goal

pub returns-in-Caller-clause-ok : goal.returns-in-Caller-clause-ok
returns-in-Caller-clause-ok g c =
    IfOk-weaker c.turn.result _ _ (λ made turns call h.
    let s = subst (λ k. RepresentsCall k call) (sym c.self.view_is) h in
    follows_caller c.args.here c.in-Caller.is (turn_of c.args.here c.args.packet.now) call _ _ (turns call.from_caller call.from_called s.from_caller s.from_called)) c.turn.ensures.ok

pub returns-in-Called-clause-ok : goal.returns-in-Called-clause-ok
returns-in-Called-clause-ok g c =
    IfOk-weaker c.turn-in-Called.result _ _ (λ made turns call h.
    let s = subst (λ k. RepresentsCall k call) (sym c.self.view_is) h in
    follows_called c.args.here c.in-Called.is (turn_of c.args.here c.args.packet.now) call _ _ (turns call.from_called call.from_caller s.from_called s.from_caller)) c.turn-in-Called.ensures.ok
