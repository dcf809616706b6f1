-- The addresses and networks from which the connections of a line may come, as texts.
use Rattle.std.specs.Prelude.{ℕ, ◌≤◌, List, Bool, ◌&&◌, ◌||◌, nat_le, nat_eq, length, All, IsTrue}
use Rattle.std.specs.List.{list_all}

-- a digit, a letter a to f of either case, a colon or a full stop, as its code
abbrev pub is_ip_letter : ℕ → Bool
is_ip_letter octet =
    ((nat_le 48 octet && nat_le octet 58) || (nat_le 97 octet && nat_le octet 102)) || ((nat_le 65 octet && nat_le octet 70) || nat_eq octet 46)

-- 2 to 45 of them: the form of an IPv4 or IPv6 address
abbrev pub is_ip_address : List ℕ → Bool
is_ip_address text = (nat_le 2 (length text) && nat_le (length text) 45) && list_all is_ip_letter text

-- one of them, or a slash
abbrev pub is_source_letter : ℕ → Bool
is_source_letter octet = is_ip_letter octet || nat_eq octet 47

-- 2 to 45 of these: the form of an address, or of a network with the length of its prefix
abbrev pub is_source : List ℕ → Bool
is_source text = (nat_le 2 (length text) && nat_le (length text) 45) && list_all is_source_letter text

-- 1 to 8, as many as the key may list
abbrev pub are_few : ℕ → Bool
are_few count = nat_le 1 count && nat_le count 8

-- at most 8 texts of this form
pub record AreSources (texts : List (List ℕ)) : Type 0 where
  pub few : length texts ≤ 8
  pub spelled : All (λ text. IsTrue (is_source text)) texts
