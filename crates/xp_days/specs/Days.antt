-- The day of a moment, and the name of the file of a day.
use Rattle.std.specs.Prelude.{ℕ, ◌/◌, List, ◌++◌, codes, min}
use Rattle.xp_cdr.specs.Moments.{date_text}

-- the last day that has a date of its own, 9999-12-30, by its number from the first of January 1970 on
abbrev pub last_day : ℕ
last_day = 2_932_895

-- The day of a moment in seconds since 1970, in UTC. Moments after the last day count to it.
abbrev pub day_of : ℕ → ℕ
day_of moment = min (moment / 86_400) last_day

-- the name of the file of a day, as `calls-2026-11-28.csv`
abbrev pub file_name : ℕ → List ℕ
file_name day = codes "calls-" ++ date_text (min day last_day) ++ codes ".csv"
