use Rattle.std.proofs.Common.{◌≡◌, take, false}
use Rattle.xp_clearing.specs.Calls.{Passes}
use Rattle.xp_clearing.specs.Clearings.{after_received, takes_no_more}
use Rattle.xp_clearing.specs.Frames.{IsUnfinished}
use Rattle.xp_clearing.proofs.call_watch.receive_through.Given as goal

abbrev pub invariant-loop-place : goal.invariant-loop-place
invariant-loop-place l =
    Passes after_received takes_no_more l.fn.clearing l.fn.received (take l.place l.octets) l.clearing l.received
    × (takes_no_more l.clearing ≡ false) × IsUnfinished l.received
