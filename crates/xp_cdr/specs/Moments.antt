-- The text of a moment: its date and its time of day in UTC, as RFC 3339 writes them.
use Rattle.std.specs.Prelude.{◌≡◌, ℕ, zero, suc, ◌+◌, ◌-◌, ◌*◌, ◌/◌, ◌%◌, ◌≤◌, nat_le, nat_lt, false, if◌then◌else◌, List, [], ◌∷◌, ◌++◌, None, decimal, pos}
use Rattle.jiff_core.specs.Calendar.{days_in_month, days_in_year}
use Rattle.jiff_core.specs.DateTime.{civil_nanos}
use Rattle.jiff_core.specs.declared.civil.datetime.DateTime.{DateTime}
use Rattle.jiff_fmt.specs.Text.{datetime_text, pad2, pad4, zulu_text}

-- The last moment that is written as a date and a time: 9999-12-30T22:00:00Z.
abbrev pub last_moment : ℕ
last_moment = 253_402_207_200

-- The year, and the day in it from 0, that is `day` days after the first of January of `year`. It is looked for in `more`
-- years.
unfoldable pub year_and_day : ℕ → ℕ → ℕ → ℕ × ℕ
year_and_day zero year day = (year, day)
year_and_day (suc more) year day =
    if nat_lt day (days_in_year (pos year)) then (year, day)
    else year_and_day more (year + 1) (day - days_in_year (pos year))

-- The month of the year, and the day in it from 1, that is `day` days after the first of `month`. It is looked for in `more`
-- months.
unfoldable pub month_and_day : ℕ → ℕ → ℕ → ℕ → ℕ × ℕ
month_and_day zero year month day = (month, day + 1)
month_and_day (suc more) year month day =
    if nat_lt day (days_in_month (pos year) month) then (month, day + 1)
    else month_and_day more year (month + 1) (day - days_in_month (pos year) month)

-- the day of the year `dated.0` that is the day `dated.1` in it, as `2026-11-26`
abbrev pub date_in_year : ℕ × ℕ → List ℕ
date_in_year dated =
    let there = month_and_day 12 dated.0 1 dated.1 in
    pad4 dated.0 ++ 45 ∷ pad2 there.0 ++ 45 ∷ pad2 there.1

-- the date that many days after the first of January 1970; the last year is 9999
abbrev pub date_text : ℕ → List ℕ
date_text days = date_in_year (year_and_day 8_030 1_970 days)

-- the time of day that many seconds after midnight, as `12:15:00`
abbrev pub time_text : ℕ → List ℕ
time_text seconds = pad2 (seconds / 3_600) ++ 58 ∷ pad2 (seconds % 3_600 / 60) ++ 58 ∷ pad2 (seconds % 60)

-- the moment that many seconds after the first of January 1970, as `2026-11-26T12:15:00Z`
unfoldable pub calendar_text : ℕ → List ℕ
calendar_text seconds = date_text (seconds / 86_400) ++ 84 ∷ time_text (seconds % 86_400) ++ 90 ∷ []

-- A moment after the last is written as its number of seconds.
abbrev pub moment_text : ℕ → List ℕ
moment_text seconds = if nat_le seconds last_moment then calendar_text seconds else decimal seconds

-- The text of a moment is that of the date and the time that a clock in UTC shows then.
abbrev pub IsWhatClockShows : Type 0
IsWhatClockShows =
    (seconds : ℕ) (shown : DateTime) → seconds ≤ last_moment → civil_nanos shown ≡ pos (seconds * 1_000_000_000)
    → moment_text seconds ≡ datetime_text false 84 None shown ++ zulu_text false
