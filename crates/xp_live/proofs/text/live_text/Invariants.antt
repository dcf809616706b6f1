use Rattle.std.specs.Prelude.{◌≡◌, ◌++◌, flat_map}
use Rattle.std.proofs.Common.{take}
use Rattle.xp_cdr.specs.Details.{detail_text, header_text}
use Rattle.xp_live.proofs.text.live_text.Given as goal

abbrev pub invariant-loop-call : goal.invariant-loop-call
invariant-loop-call l = l.text.items ≡ header_text ++ flat_map (detail_text l.run) (take l.call-index l.calls)
