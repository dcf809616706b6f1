use Rattle.std.proofs.Common.{All, subst}
use Rattle.xp_charge.specs.Lines.{HasLines}
use Rattle.xp_subs.specs.Tables.{line_count}
use Rattle.xp_step.specs.Exchange.{Exchange}
use Rattle.xp_step.specs.Worlds.{world_after}
use Rattle.xp_core.proofs.Names.{run_named, waiting_named}
use Rattle.xp_core.proofs.RecordCounts.{can_count}
use Rattle.xp_core.proofs.exchange.Core.take_records_into.Goals as goal

pub take_records_into-requires-clause-few : goal.take_records_into-requires-clause-few
take_records_into-requires-clause-few g c =
    can_count c.self.inside.subs.opening c.self.inside.journal.history c.self.inside.machine c.self.inside.relays c.self.inside.journal.given c.self.inside.journal.waiting c.self.invariant.core

pub returns-clause-lines : goal.returns-clause-lines
returns-clause-lines g c =
    let inside = c.self.inside in
    let lines = line_count inside.subs.opening in
    let named = waiting_named lines inside.journal.history inside.journal.given inside.journal.waiting c.self.invariant.core.charged
    (run_named inside.subs.opening inside.journal.history (world_after inside.subs.opening inside.journal.history) c.self.invariant.core.sound c.self.invariant.core.run) in
    let P : Exchange _ → Type 0 = λ core. All (HasLines (line_count core.subs)) core.waiting in
    subst P c.self.view_is named
