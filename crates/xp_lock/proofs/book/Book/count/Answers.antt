use Rattle.std.proofs.Common.{All, subst}
use Rattle.xp_subs.specs.Tables.{line_count}
use Rattle.xp_step.specs.Worlds.{world_after}
use Rattle.xp_step.specs.Agreed.{AllHaveTerms}
use Rattle.xp_core.specs.Delivered.{AreDelivered}
use Rattle.xp_core.specs.Lines.{HasLines}
use Rattle.xp_lock.specs.Histories.{AreForced}
use Rattle.xp_lock.proofs.book.Book.count.Goals as goal

pub returns-clause-lines : goal.returns-clause-lines
returns-clause-lines g c =
    subst (λ book. All (HasLines (line_count book.subs)) book.history) c.self.view_is c.count.ensures.lines

pub returns-clause-terms : goal.returns-clause-terms
returns-clause-terms g c =
    subst (λ book. AllHaveTerms book.subs (world_after book.subs book.history)) c.self.view_is c.count.ensures.terms

pub returns-clause-delivered : goal.returns-clause-delivered
returns-clause-delivered g c =
    subst (λ book. AreDelivered book.subs book.history (world_after book.subs book.history)) c.self.view_is c.count.ensures.delivered

pub returns-clause-forced : goal.returns-clause-forced
returns-clause-forced g c = subst (λ book. AreForced book.subs book.history) c.self.view_is c.self.invariant.1
