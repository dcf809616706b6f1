use Rattle.std.proofs.Common.{◌≡◌, map, replicate, [], All}
use Rattle.xp_exchange.specs.steps.Acting.{IsBetweenFrames}
use Rattle.xp_exchange.proofs.streams.Streams.new.Given as goal

abbrev pub invariant-loop : goal.invariant-loop
invariant-loop g l = (map (λ stream. stream.rest) l.streams.items ≡ replicate l.counter []) × All IsBetweenFrames l.streams.items
