use Rattle.std.proofs.Common.{List, length}
use Rattle.xp_outbox.specs.Ends.{Putting}
use Rattle.xp_step.specs.declared.output.Outgoing.{Outgoing}
use Rattle.xp_lock.specs.steps.Outboxes.{HasRoomFor, IsPut}
use Rattle.xp_lock.proofs.outboxes.put_all.Given as goal

-- there is room for the outputs that are left, and to put those is to put them all
abbrev pub invariant-loop-output : goal.invariant-loop-output
invariant-loop-output g l = record {
  room : HasRoomFor l.left l.outboxes.items;
  put : (after : List (Putting (Outgoing _))) → IsPut l.left l.outboxes.items after → IsPut l.fn.outputs l.fn.outboxes.items after;
}

-- each turn takes an output out
abbrev pub decreases-loop-output : goal.decreases-loop-output
decreases-loop-output g l = length l.left
