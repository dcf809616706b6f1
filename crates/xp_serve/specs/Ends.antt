-- What the ends of lines come to: the lowest line that ended before its time is told.
use Rattle.std.specs.Prelude.{ℕ, suc, List, [], ◌∷◌, Option, None, Some}
use Rattle.xp_lines.specs.declared.line.EndReason.{EndReason}
use Rattle.xp_lines.specs.declared.line.EndReason.TheVariants as why
use Rattle.xp_subs.specs.Tables.{Tables}
use Rattle.xp_listening.specs.Failures.{name_at}
use Rattle.xp_serve.specs.declared.ends.EarlyEndCause.{EarlyEndCause}
use Rattle.xp_serve.specs.declared.ends.EarlyEndCause.TheVariants as causes
use Rattle.xp_serve.specs.declared.ends.EarlyEnd.{EarlyEnd}
use Rattle.xp_listening.specs.declared.failure.ServeFailure.{ServeFailure}
use Rattle.xp_listening.specs.declared.failure.ServeFailure.TheVariants.{Port, Journal, Thread}

-- what ended a line before its time, if anything did
abbrev pub early_end_cause : EndReason → Option EarlyEndCause
early_end_cause why.Turns = None
early_end_cause why.Halted = None
early_end_cause why.Journal = Some causes.Journal
early_end_cause why.Port = Some causes.Port
early_end_cause why.NotStarted = Some causes.Thread
early_end_cause why.Stopped = None
early_end_cause why.Memory = Some causes.Thread

-- that this line ended before its time, or else a later one
abbrev pub early_end_or : ℕ → Option EarlyEndCause → Option EarlyEnd → Option EarlyEnd
early_end_or line None later = later
early_end_or line (Some cause) later = Some (record { line = line; cause = cause })

-- the lowest line that ended before its time, where these are the ends of the lines from this one on
abbrev pub first_early_end : ℕ → List EndReason → Option EarlyEnd
first_early_end line [] = None
first_early_end line (reason ∷ reasons) = early_end_or line (early_end_cause reason) (first_early_end (suc line) reasons)

abbrev pub failure_by : Tables → ℕ → EarlyEndCause → ServeFailure
failure_by tables line causes.Journal = Journal
failure_by tables line causes.Port = Port (name_at tables line)
failure_by tables line causes.Thread = Thread

-- what is told of it
abbrev pub failure_of : Tables → EarlyEnd → ServeFailure
failure_of tables early_end = failure_by tables early_end.line early_end.cause
