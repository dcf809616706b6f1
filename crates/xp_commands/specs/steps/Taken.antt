-- Which line takes a call of a router.
use Rattle.std.specs.Prelude.{◌<◌}
use Rattle.xp_commands.specs.declared.router_callers.Taken.{Taken}
use Rattle.xp_commands.specs.declared.router_callers.Taken.TheVariants.{By, ByNobody, Refused}
use Rattle.xp_subs.specs.Tables.{Tables, line_count}

-- it is a line of the file, if it is one
abbrev pub IsOfFile : Tables → Taken → Type 0
IsOfFile tables (By line modulus) = line < line_count tables
IsOfFile tables (Refused choice) = Unit {0}
IsOfFile tables ByNobody = Unit {0}
