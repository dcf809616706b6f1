use Rattle.std.proofs.Common.{◌≡◌, take, false}
use Rattle.xp_clearing.specs.Calls.{Passes}
use Rattle.xp_clearing.specs.Clearings.{after_sent, is_settled}
use Rattle.xp_clearing.specs.Frames.{IsUnfinished}
use Rattle.xp_clearing.proofs.call_watch.send_through.Given as goal

abbrev pub invariant-loop-place : goal.invariant-loop-place
invariant-loop-place l =
    Passes after_sent is_settled l.fn.clearing l.fn.sent (take l.place l.octets) l.clearing l.sent
    × (is_settled l.clearing ≡ false) × IsUnfinished l.sent
