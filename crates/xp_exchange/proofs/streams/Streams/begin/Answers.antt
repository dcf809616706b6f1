use Rattle.std.proofs.Common.{◌∙◌, ap, [], slice_set}
use Rattle.std.proofs.lemmas.List.Elements.{All-set}
use Rattle.xp_exchange.specs.steps.Acting.{IsBetweenFrames}
use Rattle.xp_exchange.proofs.Idle.{idle_set, is_between}
use Rattle.xp_exchange.proofs.streams.Streams.begin.Goals as goal

pub invariant_of-self : goal.invariant_of-self
invariant_of-self g c = All-set IsBetweenFrames c.self.inside.streams.items c.from.result _ (is_between _ c.new.ensures) c.self.invariant

pub returns : goal.returns
returns g c = idle_set _ _ _ _ c.new.ensures c.from.ensures ∙ ap (λ rests. slice_set rests c.args.line []) c.self.view_is
