use Rattle.std.proofs.Common.{rules}
use Rattle.xp_step.proofs.Leaving.{meter_kept, meter_not_lost}
use Rattle.xp_step.proofs.plan.event_line.meter_of.Goals as goal

pub returns-in-None : goal.returns-in-None
returns-in-None g c live =
    absurd (meter_not_lost c.args.subs.now c.args._before.now.items c.args.call.now c.args._machine.now c.args.relays.now c.requires live (search rules) (search rules))

pub returns-in-Some : goal.returns-in-Some
returns-in-Some g c live =
    meter_kept c.args.subs.now c.args._before.now.items c.args.call.now c.args._machine.now c.args.relays.now c.requires live (search rules) c.in-Some.metered.now (search rules)
