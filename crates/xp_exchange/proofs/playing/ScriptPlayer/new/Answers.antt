use Rattle.std.proofs.Common.{◌∙◌, [], ap, length}
use Rattle.std.proofs.lemmas.List.{length-replicate}
use Rattle.xp_subs.specs.Tables.{line_count}
use Rattle.xp_exchange.proofs.playing.ScriptPlayer.new.Goals as goal

pub invariant_of-result : goal.invariant_of-result
invariant_of-result g c = ap length (c.new-in-Ok.ensures.streams ∙ c.in-Ok.ensures) ∙ length-replicate c.counts.result.lines [] ∙ c.counts.ensures.lines ∙ ap line_count c.subs.ensures
