use Rattle.std.proofs.Common.{string_bytes}
use Rattle.std.specs.IoError.{error_kind}
use Rattle.std.specs.Result.{result_map_both}
use Rattle.xp_renewal.proofs.Again.{copied}
use Rattle.xp_renewal.proofs.subscription_file.SubscriptionFile.copy.Goals as goal

pub returns-in-Ok : goal.returns-in-Ok
returns-in-Ok g c =
    copied c.args.self.now.in_force c.args.laid.now c.in_ok-next.next c.in-Ok.copy (result_map_both string_bytes error_kind c.args.text.now)
    c.requires c.in_ok-next.ensures c.in-Ok.ensures.laid c.counts.ensures.sound c.counts-2.ensures.sound c.counts-in-Ok.ensures.sound
