-- For private steps. What is told beside records in doubt.
use Rattle.std.specs.Prelude.{Result, Ok, Err}
use Rattle.xp_keeping.specs.declared.keep_fault.KeepFault.{KeepFault}
use Rattle.xp_keeping.specs.declared.keep_fault.KeepFault.TheVariants as faults
use Rattle.xp_listening.specs.declared.failure.ServeFailure.{ServeFailure}
use Rattle.xp_listening.specs.declared.failure.ServeFailure.TheVariants.{Memory, Output}

-- what is told where they could not be written
abbrev pub failure_beside : Result (Unit {0}) ServeFailure → KeepFault → ServeFailure
failure_beside (Err Memory) fault = Memory
failure_beside outcome faults.Memory = Memory
failure_beside outcome fault = Output

-- what is told once this came of serving, and this of writing them
abbrev pub told_beside : Result (Unit {0}) ServeFailure → Result (Unit {0}) KeepFault → Result (Unit {0}) ServeFailure
told_beside outcome (Ok done) = outcome
told_beside outcome (Err fault) = Err (failure_beside outcome fault)
