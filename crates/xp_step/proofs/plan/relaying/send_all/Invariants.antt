use Rattle.std.proofs.Common.{◌≡◌, ◌≤◌, ◌++◌, length, map}
use Rattle.xp_machine.specs.StoredState.{call_of_stored}
use Rattle.xp_step.specs.EventOutputs.{send_on}
use Rattle.xp_step.proofs.plan.relaying.send_all.Given as goal

-- what is put so far, and what is left, is what is to be sent; there is room for what is left
abbrev pub invariant-loop-carried : goal.invariant-loop-carried
invariant-loop-carried g l = record {
  sent : l.outputs.outputs ++ map (send_on l.fn.machine (call_of_stored l.fn.call)) l.moves.moves
      ≡ map (send_on l.fn.machine (call_of_stored l.fn.call)) l.fn.moves.moves;
  room : length l.moves.moves ≤ l.outputs.room;
}

-- each turn takes a move out
abbrev pub decreases-loop-carried : goal.decreases-loop-carried
decreases-loop-carried g l = length l.moves.moves
