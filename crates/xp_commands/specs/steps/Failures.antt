-- For private steps. The exit status of a command that fails.
use Rattle.std.specs.Prelude.{◌≡◌, ◌≢◌, ℕ}
use Rattle.clap.specs.declared.error.Error.{Error}
use Rattle.clap.specs.Words.{kind_of}
use Rattle.clap.specs.declared.error.kind.ErrorKind.TheVariants.{OutOfMemory}
use Rattle.xp_tasks.specs.declared.failure.TaskFailure.TheVariants.{Memory}
use Rattle.xp_commands.specs.declared.failure.CommandFailure.{CommandFailure}
use Rattle.xp_commands.specs.declared.failure.CommandFailure.TheVariants.{Arguments, Task}

-- arguments that are refused, and what is told of them
pub record IsOfArguments (told : Error) (failure : CommandFailure) : Type 0 where
  pub memory : kind_of told ≡ OutOfMemory → failure ≡ Task Memory
  pub refused : kind_of told ≢ OutOfMemory → failure ≡ Arguments told
