use Rattle.std.proofs.Common.{ap, sym, ◌∙◌}
use Rattle.std.specs.Prelude.{replicate}
use Rattle.xp_subs.specs.Tables.{line_count}
use Rattle.xp_lock.proofs.exchange.Exchange.start.Goals as goal

pub first_passes-requires-clause-count : goal.first_passes-requires-clause-count
first_passes-requires-clause-count g c = c.prepared.invariant.8 ∙ ap line_count (ap (λ b. b.subs) c.prepared.view_is ∙ sym c.requires.subs)

pub new-requires-clause-taken : goal.new-requires-clause-taken
new-requires-clause-taken g c =
    c.prepared.invariant.9 ∙ ap (λ t. replicate (line_count t) 0) (ap (λ b. b.subs) c.prepared.view_is ∙ sym c.requires.subs)
