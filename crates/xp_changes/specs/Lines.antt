-- The lines that other subscriptions bring, and those that go.
use Rattle.std.specs.Prelude.{◌≡◌, ℕ, List, None}
use Rattle.xp_changes.specs.Numbers.{AreAllOf}
use Rattle.xp_subs.specs.Tables.{IsThere, Tables, line_at, line_count, line_named_of}

-- the place has a line, and the others have none with its name
abbrev pub IsOnlyIn : Tables → Tables → ℕ → Type 0
IsOnlyIn tables others line = IsThere tables line × (line_named_of others (line_at tables line).name ≡ None)

-- the places of these lines, in ascending order
abbrev pub AreOnlyIn : Tables → Tables → List ℕ → Type 0
AreOnlyIn tables others lines = AreAllOf (IsOnlyIn tables others) (line_count tables) lines
