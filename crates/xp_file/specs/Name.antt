-- The names of lines and of groups.
use Rattle.std.specs.Prelude.{ℕ, List, Bool, ◌&&◌, ◌||◌, nat_le, nat_eq, length}
use Rattle.std.specs.Cmp.Lexicographic.{pointwise}
use Rattle.std.specs.List.{list_all}

-- the two texts, or the two addresses, are equal
abbrev pub same : List ℕ → List ℕ → Bool
same a b = pointwise nat_eq a b

-- 1 to 16 characters
abbrev pub has_length : List ℕ → Bool
has_length text = nat_le 1 (length text) && nat_le (length text) 16

-- a small letter or a digit, as its code
abbrev pub is_line_letter : ℕ → Bool
is_line_letter octet = (nat_le 97 octet && nat_le octet 122) || (nat_le 48 octet && nat_le octet 57)

abbrev pub is_line_name : List ℕ → Bool
is_line_name text = has_length text && list_all is_line_letter text

-- a letter or a digit, as its code
abbrev pub is_group_letter : ℕ → Bool
is_group_letter octet =
    (nat_le 65 octet && nat_le octet 90) || (nat_le 97 octet && nat_le octet 122) || (nat_le 48 octet && nat_le octet 57)

abbrev pub is_group_name : List ℕ → Bool
is_group_name text = has_length text && list_all is_group_letter text
