-- Octets in hexadecimal and as text.
use Rattle.std.specs.Prelude.{ℕ, ◌/◌, ◌%◌, ◌&&◌, codes, flat_map, if◌then◌else◌, length, map, nat_le, List, [], ◌∷◌, ◌++◌, false}
use Rattle.std.specs.Fmt.{decimal, digit_glyph}

-- two hexadecimal digits, in lower case
abbrev pub hex_pair : ℕ → List ℕ
hex_pair octet = digit_glyph false (octet / 16) ∷ digit_glyph false (octet % 16) ∷ []

abbrev pub hex_text : List ℕ → List ℕ
hex_text octets = flat_map hex_pair octets

-- a printable character of ASCII stands for itself, and a full stop for any other octet
abbrev pub shown : ℕ → ℕ
shown octet = if nat_le 32 octet && nat_le octet 126 then octet else 46

-- `68656c6c6f "hello"`
abbrev pub both_texts : List ℕ → List ℕ
both_texts octets = hex_text octets ++ codes " \"" ++ map shown octets ++ codes "\""

-- `5 octets 68656c6c6f "hello"`
abbrev pub octets_text : List ℕ → List ℕ
octets_text [] = codes "no octets"
octets_text (octet ∷ []) = codes "1 octet " ++ both_texts (octet ∷ [])
octets_text (octet ∷ octets) = decimal (length (octet ∷ octets)) ++ codes " octets " ++ both_texts (octet ∷ octets)
