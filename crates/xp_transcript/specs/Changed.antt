-- The lines that come and go as other tables come into force. A line that stays stands where it stood, so a place whose name is
-- another one has another line.
use Rattle.std.specs.Prelude.{ℕ, zero, suc, ◌+◌, ◌&&◌, Bool, not, if◌then◌else◌}
use Rattle.xp_charge.specs.Text.{name_of}
use Rattle.xp_subs.specs.Tables.{Tables, is_spare, line_at, line_count, same}

-- the place has another line than before, or none
abbrev pub is_other : Tables → Tables → ℕ → Bool
is_other old next line = not (same (name_of old line) (name_of next line))

-- a line comes to this place
abbrev pub comes : Tables → Tables → ℕ → Bool
comes old next line = is_other old next line && not (is_spare (line_at next line))

-- how many come to the first so many places
abbrev pub coming : Tables → Tables → ℕ → ℕ
coming old next zero = 0
coming old next (suc line) = coming old next line + (if comes old next line then 1 else 0)

abbrev pub new_lines : Tables → Tables → ℕ
new_lines old next = coming old next (line_count old)

-- a line goes where it would come if the tables changed back
abbrev pub gone_lines : Tables → Tables → ℕ
gone_lines old next = coming next old (line_count old)
