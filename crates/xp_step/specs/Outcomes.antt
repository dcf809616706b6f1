-- What an event settled that the table of actions leaves open.
use Rattle.std.specs.Prelude.{ℕ, Option, None, Some}
use Rattle.xp_decide.specs.IncomingCalls.{default_window_sizes}
use Rattle.xp_packets.specs.declared.end.End.{End}
use Rattle.xp_packets.specs.declared.end.End.TheVariants.{Caller}
use Rattle.xp_step.specs.declared.outcome.Outcome.{Outcome}
use Rattle.xp_step.specs.declared.outcome.Outcome.TheVariants.{Plain, Put, Refused, Connected, Declined, Exceeded}

-- the line that a new call was put to
abbrev pub taken_by : Outcome → Option ℕ
taken_by (Put line setup) = Some line
taken_by Plain = None
taken_by (Refused why) = None
taken_by (Connected agreement) = None
taken_by (Declined diagnostic) = None
taken_by Exceeded = None

-- the same, with another line taken
abbrev pub with_line : ℕ → Outcome → Outcome
with_line other (Put line setup) = Put other setup
with_line other Plain = Plain
with_line other (Refused why) = Refused why
with_line other (Connected agreement) = Connected agreement
with_line other (Declined diagnostic) = Declined diagnostic
with_line other Exceeded = Exceeded

-- the same, with windows of the usual size in place of those indicated
abbrev pub with_usual_windows : Outcome → Outcome
with_usual_windows (Put line setup) = Put line (record setup { indicated = record setup.indicated { window = default_window_sizes } })
with_usual_windows Plain = Plain
with_usual_windows (Refused why) = Refused why
with_usual_windows (Connected agreement) = Connected agreement
with_usual_windows (Declined diagnostic) = Declined diagnostic
with_usual_windows Exceeded = Exceeded

-- who pays for the call that a call request made: the caller for one that was refused
abbrev pub payer_of : Outcome → End
payer_of (Put line setup) = setup.payer
payer_of Plain = Caller
payer_of (Refused why) = Caller
payer_of (Connected agreement) = Caller
payer_of (Declined diagnostic) = Caller
payer_of Exceeded = Caller
