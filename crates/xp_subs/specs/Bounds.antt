-- How many stations and lines an exchange may have.
use Rattle.std.specs.Prelude.{ℕ}

-- the most stations of an exchange
abbrev pub most_stations : ℕ
most_stations = 4_096

-- the most lines of an exchange, of all stations together, with the places that are kept for further lines
abbrev pub most_lines : ℕ
most_lines = 4_096
