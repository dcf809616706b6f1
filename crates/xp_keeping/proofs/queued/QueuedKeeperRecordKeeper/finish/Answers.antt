use Rattle.std.proofs.Common.{◌≡◌, ◌++◌, map, rules, subst}
use Rattle.xp_cdr.specs.Ended.{ended_as}
use Rattle.xp_cdr.specs.declared.ended.EndedBy.TheVariants.{Stop}
use Rattle.xp_keeping.specs.Queued.{AreKeptBeside}
use Rattle.xp_keeping.proofs.EndedLemmas.{keeps_all}
use Rattle.xp_keeping.proofs.queued.QueuedKeeperRecordKeeper.finish.Goals as goal

pub returns-then-has_ended-clause-all : goal.returns-then-has_ended-clause-all
returns-then-has_ended-clause-all g c =
    let whole : c.has_ended.new.self.given ≡ c.args.self.now.given ++ map (ended_as c.args.self.now.subs Stop) c.args.rest.now = search rules in
    let kept = AreKeptBeside g.K.CallKeeper.kept g.K.CallKeeper.keeps c.end.new.self in
    keeps_all kept c.args.self.now.subs Stop c.args.self.now.given c.args.rest.now c.end.result (subst (λ calls. kept calls c.end.result) whole c.end.ensures.kept)

pub returns-else-has_ended-clause-all : goal.returns-else-has_ended-clause-all
returns-else-has_ended-clause-all g c =
    let whole : c.has_ended.new.self.given ≡ c.args.self.now.given ++ map (ended_as c.args.self.now.subs Stop) c.args.rest.now = search rules in
    let kept = AreKeptBeside g.K.CallKeeper.kept g.K.CallKeeper.keeps c.has_ended.new.self in
    keeps_all kept c.args.self.now.subs Stop c.args.self.now.given c.args.rest.now c.give_up.result (subst (λ calls. kept calls c.give_up.result) whole c.give_up.ensures)
