use Rattle.std.proofs.Common.{◌≡◌, ◌++◌, List, All, subst, sym}
use Rattle.xp_charge.specs.Lines.{HasLines}
use Rattle.xp_subs.specs.Tables.{line_count}
use Rattle.xp_step.specs.Exchange.{Exchange, world_of}
use Rattle.xp_core.specs.Records.{OneRecordEach, records_of}
use Rattle.xp_step.specs.Worlds.{world_after}
use Rattle.xp_core.proofs.Endings.{one_record_each}
use Rattle.xp_core.proofs.Names.{run_named, waiting_named}
use Rattle.xp_core.proofs.exchange.Core.records.Goals as goal

pub returns-clause-one_each : goal.returns-clause-one_each
returns-clause-one_each g c =
    let P : Exchange _ → Type 0 = λ core. OneRecordEach core.subs core.history (world_of core) in
    subst P c.self.view_is (one_record_each c.self.inside.subs.opening c.self.inside.journal.history (world_after c.self.inside.subs.opening c.self.inside.journal.history) c.self.invariant.core.run)

pub returns-clause-each : goal.returns-clause-each
returns-clause-each g c =
    let P : Exchange _ → Type 0 = λ core. core.given ++ core.waiting ≡ records_of core.history in
    subst P c.self.view_is c.self.invariant.core.charged

pub returns-clause-lines : goal.returns-clause-lines
returns-clause-lines g c =
    let named = run_named c.self.inside.subs.opening c.self.inside.journal.history (world_after c.self.inside.subs.opening c.self.inside.journal.history) c.self.invariant.core.sound c.self.invariant.core.run in
    let P : Exchange _ → Type 0 = λ core. All (HasLines (line_count core.subs)) c.records.result.now in
    let Q : List _ → Type 0 = λ records. All (HasLines (line_count c.self.inside.subs.opening)) records in
    subst P c.self.view_is (subst Q (sym c.records.ensures) (waiting_named (line_count c.self.inside.subs.opening) c.self.inside.journal.history c.self.inside.journal.given c.self.inside.journal.waiting c.self.invariant.core.charged named))
