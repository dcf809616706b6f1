use Rattle.std.proofs.Common.{ap, length, length-append, sym, ◌∙◌}
use Rattle.xp_core.specs.Records.{records_of}
use Rattle.xp_core.proofs.RecordCounts.{can_count}
use Rattle.xp_core.proofs.exchange.Core.record_count.Goals as goal

pub record_count-requires : goal.record_count-requires
record_count-requires g c = record { few = can_count c.self.inside.subs.opening c.self.inside.journal.history c.self.inside.machine c.self.inside.relays c.self.inside.journal.given c.self.inside.journal.waiting c.self.invariant.core }

pub returns : goal.returns
returns g c =
    c.record_count.ensures ∙ sym (length-append c.self.inside.journal.given c.self.inside.journal.waiting) ∙ ap length c.self.invariant.core.charged
    ∙ ap (λ core. length (records_of core.history)) c.self.view_is
