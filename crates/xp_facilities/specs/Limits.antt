-- The largest window size, and the longest duration that charging information tells, in seconds: 99 days, 23 hours, 59
-- minutes and 59 seconds (X.25 clauses 6.22 and 7.2.2.1.2).
use Rattle.std.specs.Prelude.{ℕ}

abbrev pub largest_window : ℕ
largest_window = 15

abbrev pub largest_duration : ℕ
largest_duration = 8_639_999
