-- The characters of which addresses and names consist.
use Rattle.std.specs.Prelude.{ℕ, List, Bool, ◌&&◌, nat_le, length}
use Rattle.std.specs.List.{list_all}
use Rattle.xp_file.specs.declared.letters.Letters.{Letters}
use Rattle.xp_file.specs.declared.letters.Letters.TheVariants as letters
use Rattle.xp_file.specs.Address.{is_digit}
use Rattle.xp_file.specs.Name.{is_line_letter, is_group_letter}
use Rattle.xp_file.specs.Sources.{is_ip_letter, is_source_letter}

-- the character is one of these
abbrev pub is_of : Letters → ℕ → Bool
is_of letters.Digits = is_digit
is_of letters.LineName = is_line_letter
is_of letters.GroupName = is_group_letter
is_of letters.IpAddress = is_ip_letter
is_of letters.Source = is_source_letter

-- `low` to `high` of them
abbrev pub is_spelled : Letters → ℕ → ℕ → List ℕ → Bool
is_spelled these low high text = (nat_le low (length text) && nat_le (length text) high) && list_all (is_of these) text
