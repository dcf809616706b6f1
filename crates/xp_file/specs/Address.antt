-- An address as text.
use Rattle.std.specs.Prelude.{ℕ, ◌-◌, List, Bool, ◌&&◌, nat_le, length}
use Rattle.std.specs.List.{list_all}

abbrev pub is_digit : ℕ → Bool
is_digit octet = nat_le 48 octet && nat_le octet 57

-- 1 to 15 digits
abbrev pub is_address : List ℕ → Bool
is_address text = (nat_le 1 (length text) && nat_le (length text) 15) && list_all is_digit text

abbrev pub digit_of : ℕ → ℕ
digit_of octet = octet - 48
