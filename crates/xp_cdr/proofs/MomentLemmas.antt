-- The calendar that the text of a moment is made by is that of the dates that a clock shows.
use Rattle.std.proofs.Common.{◌≡◌, ℕ, List, zero, suc, ◌+◌, ◌-◌, ◌*◌, ◌/◌, ◌%◌, ◌<◌, ◌≤◌, ◌++◌, [], ◌∷◌, inl, inr, nat_lt, true, false, refl, sym, ap, ◌∙◌, arith, ℤ, pos, negsuc, None}
use Rattle.std.proofs.lemmas.Bool.{cases_order, lt-ltb, le-ltb}
use Rattle.jiff_core.specs.declared.civil.datetime.DateTime.{DateTime}
use Rattle.jiff_core.specs.Calendar.{IsCivilDate, day_count, day_of_year, days_from_civil, days_in_month, days_in_year, days_of_months}
use Rattle.jiff_core.specs.Date.{epoch_day}
use Rattle.jiff_core.specs.DateTime.{civil_nanos}
use Rattle.jiff_core.specs.Time.{time_nanos}
use Rattle.jiff_core.proofs.CalendarLemmas.{day_count-day_of_year, day_count-epoch, day_count-later_year, day_count-lt_year, day_count-next_year, day_of_year_bound, days_from_civil-day_count, days_of_months-zero, days_of_months_mono, days_of_months_more}
use Rattle.jiff_core.proofs.DateLemmas.{civil}
use Rattle.jiff_core.proofs.DateTimeLemmas.{civil_nanos-parts, time_nanos_bound}
use Rattle.jiff_core.proofs.SignedLemmas.{signed_arith}
use Rattle.jiff_core.specs.declared.timestamp.Timestamp.{Timestamp}
use Rattle.jiff_fmt.specs.declared.temporal.printer.DateTimePrinter.{DateTimePrinter}
use Rattle.jiff_fmt.specs.Printer.{IsTimestampText, options}
use Rattle.jiff_fmt.specs.Text as jiff
use Rattle.xp_cdr.specs.Moments.{calendar_text, date_in_year, date_text, last_moment, moment_text, month_and_day, time_text, year_and_day, IsWhatClockShows}

-- the day lies in the year that is looked at
year_here : (more from day : ℕ) → day < days_in_year (pos from) → year_and_day (suc more) from day ≡ (from, day)
unfolding year_and_day
year_here more from day h =
    let test : nat_lt day (days_in_year (pos from)) ≡ true = lt-ltb day (days_in_year (pos from)) h in
    rw test

-- or in a later one
year_later : (more from day : ℕ) → days_in_year (pos from) ≤ day → year_and_day (suc more) from day ≡ year_and_day more (from + 1) (day - days_in_year (pos from))
unfolding year_and_day
year_later more from day h =
    let test : nat_lt day (days_in_year (pos from)) ≡ false = le-ltb day (days_in_year (pos from)) h in
    rw test

-- the day that is `rest` days into a year
year_is : (more from year day rest : ℕ) → from ≤ year → year < from + more → rest < days_in_year (pos year) → day + day_count (pos from) 1 1 ≡ day_count (pos year) 1 1 + rest → year_and_day more from day ≡ (year, rest)
year_is zero from year day rest low high short e = absurd (omega arith)
year_is (suc more) from year day rest low high short e =
    elim (cases_order from year) [
      | inl same ↦
          let day_is : day ≡ rest = omega (arith, rw same at e) in
          year_here more from day (rw (same, day_is) short) ∙ rw (same, day_is) refl
      | inr (inl lt) ↦
          let next = day_count-next_year (pos from) (pos (from + 1)) (omega (arith, signed_arith)) (omega (arith, signed_arith)) in
          let later = day_count-later_year (pos from) (pos year) (omega (arith, signed_arith)) (omega (arith, signed_arith)) in
          let passed : days_in_year (pos from) ≤ day = omega arith in
          year_later more from day passed
          ∙ year_is more (from + 1) year (day - days_in_year (pos from)) rest (omega arith) (omega arith) short (omega arith)
      | inr (inr gt) ↦ absurd (omega arith)
    ]

month_here : (more year from day : ℕ) → day < days_in_month (pos year) from → month_and_day (suc more) year from day ≡ (from, day + 1)
unfolding month_and_day
month_here more year from day h =
    let test : nat_lt day (days_in_month (pos year) from) ≡ true = lt-ltb day (days_in_month (pos year) from) h in
    rw test

month_later : (more year from day : ℕ) → days_in_month (pos year) from ≤ day → month_and_day (suc more) year from day ≡ month_and_day more year (from + 1) (day - days_in_month (pos year) from)
unfolding month_and_day
month_later more year from day h =
    let test : nat_lt day (days_in_month (pos year) from) ≡ false = le-ltb day (days_in_month (pos year) from) h in
    rw test

-- the day that is the day `day` of a month
month_is : (more year from month rest day : ℕ) → 1 ≤ from → from ≤ month → month < from + more → 1 ≤ day → day ≤ days_in_month (pos year) month → rest + 1 + days_of_months (pos year) (from - 1) ≡ days_of_months (pos year) (month - 1) + day → month_and_day more year from rest ≡ (month, day)
month_is zero year from month rest day first low high early late e = absurd (omega arith)
month_is (suc more) year from month rest day first low high early late e =
    elim (cases_order from month) [
      | inl same ↦
          let day_is : rest + 1 ≡ day = omega (arith, rw same at e) in
          let short : rest < days_in_month (pos year) from = rw same (omega arith) in
          month_here more year from rest short ∙ rw (same, day_is) refl
      | inr (inl lt) ↦
          let next = days_of_months_more (pos year) from first in
          let later = days_of_months_mono (pos year) from (month - 1) (omega arith) in
          let passed : days_in_month (pos year) from ≤ rest = omega arith in
          let back : from + 1 - 1 ≡ from = omega arith in
          let reached : rest - days_in_month (pos year) from + 1 + days_of_months (pos year) from ≡ days_of_months (pos year) (month - 1) + day = omega arith in
          month_later more year from rest passed
          ∙ month_is more year (from + 1) month (rest - days_in_month (pos year) from) day (omega arith) (omega arith) (omega arith) early late (rw back reached)
      | inr (inr gt) ↦ absurd (omega arith)
    ]

-- a day that is counted from 1970 on lies in no year before it
since_1970 : (year month day days : ℕ) → IsCivilDate (pos year) month day → day_count (pos year) month day ≡ days + 4_371_953 → 1_970 ≤ year
since_1970 year month day days is counted =
    elim (cases_order year 1_970) [
      | inl same ↦ omega arith
      | inr (inl lt) ↦
          let before = day_count-lt_year (pos year) month day (pos 1_970) 1 1 is (omega arith) (omega (arith, signed_arith)) in
          absurd (omega (arith, day_count-epoch))
      | inr (inr gt) ↦ omega arith
    ]

-- the text of a date is that of its year, month and day
pub date_is : (year : ℤ) (month day days : ℕ) → IsCivilDate year month day → days_from_civil year month day ≡ pos days → jiff.year_text year ++ 45 ∷ [] ++ jiff.pad2 month ++ 45 ∷ [] ++ jiff.pad2 day ≡ date_text days
date_is (negsuc n) month day days is e =
    let before = day_count-lt_year (negsuc n) month day (pos 1970) 1 1 is (omega arith) (omega (arith, signed_arith)) in
    absurd (omega (arith, signed_arith, days_from_civil-day_count (negsuc n) month day, day_count-epoch))
date_is (pos year) month day days is e =
    let counted : day_count (pos year) month day ≡ days + 4_371_953 = omega (arith, signed_arith, days_from_civil-day_count (pos year) month day) in
    let low : 1_970 ≤ year = since_1970 year month day days is counted in
    let high : year < 1_970 + 8_030 = omega (arith, signed_arith, is.0) in
    let place = day_count-day_of_year (pos year) month day is.2.0 in
    let most = day_of_year_bound (pos year) month day is in
    let rest = day_of_year (pos year) month day - 1 in
    let year_found : year_and_day 8_030 1_970 days ≡ (year, rest) = year_is 8_030 1_970 year days rest low high (omega (arith, is.2.0)) (omega (arith, day_count-epoch, is.2.0)) in
    let month_found : month_and_day 12 year 1 rest ≡ (month, day) =
    month_is 12 year 1 month rest day (omega arith) is.1.0 (omega (arith, is.1.1)) is.2.0 is.2.1 (omega (arith, is.2.0, days_of_months-zero (pos year))) in
    sym (ap date_in_year year_found ∙ ap (λ there. jiff.pad4 year ++ 45 ∷ jiff.pad2 there.0 ++ 45 ∷ jiff.pad2 there.1) month_found)

-- what a clock shows at a moment: the days before that day, and the seconds since its midnight
shown_day : (seconds : ℕ) (shown : DateTime) → civil_nanos shown ≡ pos (seconds * 1_000_000_000) → epoch_day shown.date ≡ pos (seconds / 86_400)
shown_day seconds shown e =
    omega (arith, signed_arith, civil_nanos-parts shown, time_nanos_bound shown.time)

shown_time : (seconds : ℕ) (shown : DateTime) → civil_nanos shown ≡ pos (seconds * 1_000_000_000) → time_nanos shown.time ≡ seconds % 86_400 * 1_000_000_000
shown_time seconds shown e =
    omega (arith, signed_arith, civil_nanos-parts shown, time_nanos_bound shown.time)

-- the text of a time of day is that of its hour, minute and second
time_is : (seconds : ℕ) (shown : DateTime) → time_nanos shown.time ≡ seconds % 86_400 * 1_000_000_000 → jiff.time_text None shown.time ≡ time_text (seconds % 86_400)
time_is seconds shown e =
    let hour : shown.time.hour ≡ seconds % 86_400 / 3_600 = omega arith in
    let minute : shown.time.minute ≡ seconds % 86_400 % 3_600 / 60 = omega arith in
    let second : shown.time.second ≡ seconds % 86_400 % 60 = omega arith in
    let whole : shown.time.subsec_nanosecond ≡ 0 = omega arith in
    rw (hour, minute, second, whole)

pub clock_shows : (seconds : ℕ) (shown : DateTime) → civil_nanos shown ≡ pos (seconds * 1_000_000_000) → jiff.datetime_text false 84 None shown ++ jiff.zulu_text false ≡ calendar_text seconds
unfolding calendar_text
clock_shows seconds shown e =
    let date = date_is shown.date.year shown.date.month shown.date.day (seconds / 86_400) (civil shown.date) (shown_day seconds shown e) in
    let time = time_is seconds shown (shown_time seconds shown e) in
    ap (λ front. front ++ 84 ∷ jiff.time_text None shown.time ++ 90 ∷ []) date
    ∙ ap (λ rest. date_text (seconds / 86_400) ++ 84 ∷ rest ++ 90 ∷ []) time

-- a moment that is not after the last is written by the calendar
pub calendar_is : (seconds : ℕ) → seconds ≤ last_moment → moment_text seconds ≡ calendar_text seconds
calendar_is seconds h = grind arith

pub what_clock_shows : IsWhatClockShows
what_clock_shows seconds shown h e = calendar_is seconds h ∙ sym (clock_shows seconds shown e)

-- what a printer with jiff's own options writes
pub printed_is : (printer : DateTimePrinter) (instant : Timestamp) (text : List ℕ) (seconds : ℕ) → options printer ≡ (false, 84, None) → instant.nanosecond ≡ pos (seconds * 1_000_000_000) → IsTimestampText printer instant text → seconds ≤ last_moment → text ≡ moment_text seconds
printed_is printer instant text seconds plain moment written h =
    written.2
    ∙ ap (λ how. jiff.datetime_text how.0 how.1 how.2 written.0 ++ jiff.zulu_text how.0) plain
    ∙ sym (what_clock_shows seconds written.0 h (written.1 ∙ moment))
