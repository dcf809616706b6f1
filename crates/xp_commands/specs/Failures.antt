-- The exit status of a command that fails.
use Rattle.std.specs.Prelude.{ℕ}
use Rattle.xp_tasks.specs.Failures.{status_of as status_of_task}
use Rattle.xp_commands.specs.declared.failure.CommandFailure.{CommandFailure}
use Rattle.xp_commands.specs.declared.failure.CommandFailure.TheVariants.{Address, Arguments, Ask, CallRefused, Explained, NeedsStop, Question, Refused, Reload, Task, Unread}

-- 1 for a call that is refused, 2 for what was asked, 3 for subscriptions that do not come into force
abbrev pub status_of : CommandFailure → ℕ
status_of (Arguments told) = 2
status_of (Question fault told) = 2
status_of CallRefused = 1
status_of (Task failure) = status_of_task failure
status_of (Explained failure reason) = status_of_task failure
status_of (Refused failure reason) = status_of_task failure
status_of Unread = 5
status_of (Reload reason) = 3
status_of NeedsStop = 3
status_of (Address text) = 5
status_of (Ask fault) = 5
