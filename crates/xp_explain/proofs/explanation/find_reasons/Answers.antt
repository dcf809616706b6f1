use Rattle.std.proofs.Common.{ℕ, Option, length, sym, subst}
use Rattle.xp_decide.specs.Asks.{wanted_of}
use Rattle.xp_decide.specs.LinesForCaller.{state_for_caller}
use Rattle.xp_decide.specs.declared.acceptance.Wanted.{Wanted}
use Rattle.xp_explain.specs.Rules.{TellsRuleAt}
use Rattle.xp_explain.specs.Way.{IsWay}
use Rattle.xp_explain.specs.declared.rule.Rule.{Rule}
use Rattle.xp_explain.proofs.RuleLemmas.{told_at}
use Rattle.xp_hunt.specs.declared.lines.LineState.{LineState}
use Rattle.xp_explain.proofs.explanation.find_reasons.Goals as goal

pub returns-in_ok-way-in-Ok : goal.returns-in_ok-way-in-Ok
returns-in_ok-way-in-Ok g c =
    let states : ℕ → LineState = state_for_caller c.args.from (g.L.Lines.states c.args.lines.now) in
    let way = c.in_ok-way-in-Ok.way in
    let W : Wanted → Type 0 = λ wanted. IsWay c.args.subs.now states wanted c.args.block.now.called way in
    let is_way = subst W c.wanted.ensures c.in_ok-way-in-Ok.ensures in
    let R : Option Rule → Type 0 = λ rule. TellsRuleAt c.args.subs.now states (wanted_of c.in-Ok.request) way.last.now way.end rule in
    record {
      asked = (c.in-Ok.ensures, is_way);
      refused_by = subst R (sym c.rule-refused_by.ensures) (told_at c.args.subs.now states (wanted_of c.in-Ok.request) (length way.hops.items) way.last.now way.end is_way.ends);
    }
