use Rattle.xp_lines.proofs.Worked.{gone_kept, linked_stays, turn_worked, worked_line}
use Rattle.xp_lines.proofs.turning.turn.Goals as goal

pub returns-clause-turn : goal.returns-clause-turn
returns-clause-turn g c =
    let works = c.write_and_read-worked.ensures in
    (_, (_, c.now-now.ensures), turn_worked _ _ _ _ _ _ _ _ _ _ _ _ c.if-session.false works.works works.owed c.finish.ensures.says c.finish.ensures.follows)

pub returns-clause-line : goal.returns-clause-line
returns-clause-line g c = worked_line _ _ _ _ _ _ _ _ _ _ _ _ c.write_and_read-worked.ensures.works c.finish.ensures.follows

pub returns-clause-left : goal.returns-clause-left
returns-clause-left g c = λ linked. c.write_and_read-worked.ensures.left (linked_stays _ _ _ _ _ _ c.finish.ensures.follows linked)

pub returns-clause-gone : goal.returns-clause-gone
returns-clause-gone g c = λ dropped enough. c.write_and_read-worked.ensures.gone (gone_kept _ _ _ _ _ _ _ c.finish.ensures.follows c.finish.ensures.says dropped enough)
