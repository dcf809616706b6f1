use Rattle.std.proofs.Common.{inr}
use Rattle.xp_live.proofs.kept_text.KeptText.of.Goals as goal

pub invariant_of-result : goal.invariant_of-result
invariant_of-result c = record { run = c.args.run.now; calls = c.args.calls.now; are = inr c.requires; text_is = c.in_ok-octets.ensures }
