-- The exit status of a task that fails, and what is told of a replay.
use Rattle.std.specs.Prelude.{◌≡◌, ◌⊎◌, ℕ, Result, Ok, Err}
use Rattle.xp_exchange.specs.declared.fault.ReplayFault.{ReplayFault}
use Rattle.xp_exchange.specs.declared.fault.ReplayFault.TheVariants as replays
use Rattle.xp_tasks.specs.declared.failure.TaskFailure.{TaskFailure}
use Rattle.xp_tasks.specs.declared.failure.TaskFailure.TheVariants.{File, Subscriptions, Replay, Memory, Output}

-- 2 for the script, 4 for want of room, 5 for input and output
abbrev pub replay_status : ReplayFault → ℕ
replay_status (replays.Script line) = 2
replay_status (replays.Lay line tables) = 2
replay_status (replays.Reload line tables why) = 2
replay_status replays.Journal = 4
replay_status replays.Memory = 4
replay_status replays.Read = 5
replay_status replays.Write = 5

-- likewise, and 3 for the subscription file
abbrev pub status_of : TaskFailure → ℕ
status_of File = 3
status_of (Subscriptions fault) = 3
status_of (Replay fault) = replay_status fault
status_of Memory = 4
status_of Output = 5

-- what is told of a replay: what it answers, or that what it put out could not all be handed on
abbrev pub Tells : Result (Unit {0}) ReplayFault → Result (Unit {0}) TaskFailure → Type 0
Tells (Ok done) (Ok told) = Unit {0}
Tells (Ok done) (Err failure) = failure ≡ Output
Tells (Err fault) (Ok told) = ⊥
Tells (Err fault) (Err failure) = (failure ≡ Replay fault) ⊎ (failure ≡ Output)
