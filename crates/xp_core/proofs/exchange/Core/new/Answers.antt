use Rattle.std.proofs.Common.{◌++◌, ap, sym, replicate, None, ◌∙◌}
use Rattle.xp_step.specs.InForce.{in_force}
use Rattle.xp_machine.specs.World.{opening}
use Rattle.xp_core.proofs.Showing.{opening_shows}
use Rattle.xp_core.proofs.exchange.Core.new.Goals as goal

pub invariant_of-result : goal.invariant_of-result
invariant_of-result g c = record {
  force = sym (ap (in_force c.args.subs) c.new-3.ensures.history);
  core =
      opening_shows c.args.subs c.new-3.result.history c.in_ok-machine.machine c.in_ok-relays.relays (c.new-3.result.given ++ c.new-3.result.waiting) c.counts-lines.ensures.sound c.new-3.ensures.history
      (c.in_ok-machine.ensures ∙ ap opening c.counts-lines.ensures.lines) (c.in_ok-relays.ensures ∙ ap (λ n. replicate n None) c.counts-lines.ensures.lines) (ap (λ r. r ++ c.new-3.result.waiting) c.new-3.ensures.given ∙ c.new-3.ensures.waiting);
}
