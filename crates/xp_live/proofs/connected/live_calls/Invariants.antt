use Rattle.std.specs.Prelude.{◌≡◌}
use Rattle.xp_live.specs.LiveCalls.{live_calls_of}
use Rattle.xp_live.proofs.connected.live_calls.Given as goal

abbrev pub invariant-loop-line : goal.invariant-loop-line
invariant-loop-line l = l.calls.items ≡ live_calls_of l.subs l.moment l.view.lines.items l.line
