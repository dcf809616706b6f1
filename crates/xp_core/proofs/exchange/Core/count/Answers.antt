use Rattle.std.proofs.Common.{All, arith, subst}
use Rattle.xp_step.specs.Agreed.{AllHaveTerms}
use Rattle.xp_core.specs.Delivered.{AreDelivered}
use Rattle.xp_step.specs.Exchange.{Exchange, world_of}
use Rattle.xp_core.specs.Joined.{AreJoined}
use Rattle.xp_step.specs.Worlds.{world_after}
use Rattle.xp_core.specs.Writable.{AreWritable}
use Rattle.xp_subs.specs.Tables.{line_count}
use Rattle.xp_core.specs.Lines.{HasLines}
use Rattle.xp_step.proofs.Agreed.{run_agreed}
use Rattle.xp_core.proofs.Delivered.{run_delivered}
use Rattle.xp_core.proofs.Fitting.{run_fits}
use Rattle.xp_core.proofs.Joined.{run_joined}
use Rattle.xp_core.proofs.Names.{run_named}
use Rattle.xp_core.proofs.exchange.Core.count.Goals as goal

pub returns-clause-writable : goal.returns-clause-writable
returns-clause-writable g c =
    let P : Exchange _ → Type 0 = λ core. All (λ entry. AreWritable core.subs entry.outputs) core.history in
    subst P c.self.view_is (run_fits c.self.inside.subs.opening c.self.inside.journal.history (world_after c.self.inside.subs.opening c.self.inside.journal.history)
    c.self.invariant.core.sound c.self.invariant.core.run c.self.invariant.core.readable)

pub returns-clause-lines : goal.returns-clause-lines
returns-clause-lines g c =
    let P : Exchange _ → Type 0 = λ core. All (HasLines (line_count core.subs)) core.history in
    subst P c.self.view_is (run_named c.self.inside.subs.opening c.self.inside.journal.history (world_after c.self.inside.subs.opening c.self.inside.journal.history)
    c.self.invariant.core.sound c.self.invariant.core.run)

pub returns-clause-joined : goal.returns-clause-joined
returns-clause-joined g c =
    let P : Exchange _ → Type 0 = λ core. AreJoined core.subs core.history (world_of core) in
    subst P c.self.view_is (run_joined c.self.inside.subs.opening c.self.inside.journal.history (world_after c.self.inside.subs.opening c.self.inside.journal.history)
    c.self.invariant.core.sound c.self.invariant.core.run)

pub returns-clause-terms : goal.returns-clause-terms
returns-clause-terms g c =
    let P : Exchange _ → Type 0 = λ core. AllHaveTerms core.subs (world_of core) in
    subst P c.self.view_is (run_agreed c.self.inside.subs.opening c.self.inside.journal.history _ c.self.invariant.core.run)

pub returns-clause-delivered : goal.returns-clause-delivered
returns-clause-delivered g c =
    let P : Exchange _ → Type 0 = λ core. AreDelivered core.subs core.history (world_of core) in
    subst P c.self.view_is (run_delivered c.self.inside.subs.opening c.self.inside.journal.history _ c.self.invariant.core.run)

pub returns-clause-few : goal.returns-clause-few
returns-clause-few g c =
    let within = c.self.invariant.core.within in
    let most = c.self.invariant.core.sound.limits.most_entries in
    omega (arith, c.count.ensures.count, within, most)
