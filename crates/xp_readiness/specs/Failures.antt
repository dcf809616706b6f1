-- The exit status of the program where it fails.
use Rattle.std.specs.Prelude.{ℕ}
use Rattle.xp_commands.specs.Failures.{status_of as status_of_command}
use Rattle.xp_listening.specs.Failures.{status_of as status_of_serving}
use Rattle.xp_readiness.specs.declared.failure.Failure.{Failure}
use Rattle.xp_readiness.specs.declared.failure.Failure.TheVariants.{Cdr, Command, Console, Explained, Live, Serve, Trace, TraceLines}

-- 5 for files and the console of serving
abbrev pub status_of : Failure → ℕ
status_of (Command failure) = status_of_command failure
status_of (Cdr fault) = 5
status_of (Live fault) = 5
status_of (Trace fault) = 5
status_of (TraceLines name) = 5
status_of (Console fault) = 5
status_of (Serve failure) = status_of_serving failure
status_of (Explained failure reason) = status_of_serving failure
