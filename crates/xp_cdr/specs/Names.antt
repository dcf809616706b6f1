-- The names of exchanges.
use Rattle.std.specs.Prelude.{◌≡◌, ℕ, List, Bool, true, ◌&&◌, ◌||◌, nat_eq, nat_le, codes, if◌then◌else◌, length, map, take}
use Rattle.std.specs.List.{list_all}
use Rattle.xp_file.specs.Name.{is_group_letter}

-- a letter, a digit, `-` or `.`, as its code: none of them calls for quotes
abbrev pub is_exchange_letter : ℕ → Bool
is_exchange_letter octet = is_group_letter octet || nat_eq octet 45 || nat_eq octet 46

-- 1 to 64 characters
abbrev pub has_length : List ℕ → Bool
has_length text = nat_le 1 (length text) && nat_le (length text) 64

abbrev pub is_exchange_name : List ℕ → Bool
is_exchange_name text = has_length text && list_all is_exchange_letter text

abbrev pub IsExchangeName : List ℕ → Type 0
IsExchangeName text = list_all is_exchange_letter text ≡ true

-- any other character becomes `-`
abbrev pub clean_letter : ℕ → ℕ
clean_letter octet = if is_exchange_letter octet then octet else 45

-- the name of an exchange on a host of this name: `localhost` where it has none
abbrev pub cleaned : List ℕ → List ℕ
cleaned host = if nat_eq (length host) 0 then codes "localhost" else map clean_letter (take 64 host)
