-- The XOT router of a line: its address and port, and how the subscription file spells them.
use Rattle.std.specs.Prelude.{ℕ, ◌≤◌, List, [], ◌∷◌, Bool, ◌&&◌, Option, None, Some, IsTrue, option_and_then, option_map, is_some, nat_le, nat_eq, length, if◌then◌else◌}
use Rattle.std.specs.Char.{is_ascii_digit}
use Rattle.std.specs.List.{list_all}
use Rattle.std.specs.Str.Parse.{digits_value}
use Rattle.xp_file.specs.Sources.{is_ip_address}

pub record RouterData : Type 0 where
  pub address : List ℕ
  pub port : ℕ

-- a valid TCP port
abbrev pub IsPort : ℕ → Type 0
IsPort port = (1 ≤ port) × (port ≤ 65_535)

-- the address has the form of one, and the port is valid
pub record IsRouter (router : RouterData) : Type 0 where
  pub spelled : IsTrue (is_ip_address router.address)
  pub port : IsPort router.port

-- the TCP port that is registered for XOT, which stands for one that is not written
abbrev pub registered_port : ℕ
registered_port = 1998

-- the codes of `:`, `[` and `]`
abbrev pub colon : ℕ
colon = 58

abbrev pub opening_bracket : ℕ
opening_bracket = 91

abbrev pub closing_bracket : ℕ
closing_bracket = 93

-- 1 to 5 digits
abbrev pub has_port_digits : List ℕ → Bool
has_port_digits text = (nat_le 1 (length text) && nat_le (length text) 5) && list_all is_ascii_digit text

abbrev pub valid_port : ℕ → Option ℕ
valid_port port = if nat_le 1 port && nat_le port 65535 then Some port else None

abbrev pub port_spelled : List ℕ → Option ℕ
port_spelled text = if has_port_digits text then valid_port (digits_value 10 text) else None

-- the text behind its first octet, if that has this code
abbrev pub behind : ℕ → List ℕ → Option (List ℕ)
behind code [] = None
behind code (octet ∷ octets) = if nat_eq octet code then Some octets else None

-- the texts before and behind the first octet of this code; none where there is no such octet
abbrev pub parted : ℕ → List ℕ → Option (List ℕ × List ℕ)
parted code [] = None
parted code (octet ∷ octets) =
    if nat_eq octet code then Some ([], octets) else option_map (λ parts. (octet ∷ parts.0, parts.1)) (parted code octets)

-- a router at an address that has the form of one
abbrev pub router_at : List ℕ → ℕ → Option RouterData
router_at address port = if is_ip_address address then Some (record { address = address; port = port }) else None

-- what stands behind a closing bracket: nothing, or `:PORT`
abbrev pub port_behind : List ℕ → Option ℕ
port_behind [] = Some registered_port
port_behind (octet ∷ octets) = option_and_then port_spelled (behind colon (octet ∷ octets))

-- what stands behind an opening bracket: `ADDRESS]` or `ADDRESS]:PORT`
abbrev pub in_brackets : List ℕ → Option RouterData
in_brackets text = option_and_then (λ parts. option_and_then (router_at parts.0) (port_behind parts.1)) (parted closing_bracket text)

-- Without brackets: `ADDRESS`, or `ADDRESS:PORT` where there is one colon. A text with two colons or more is an IPv6
-- address.
abbrev pub without_brackets : List ℕ → Option RouterData
without_brackets text = by (parted colon text) where
  by : Option (List ℕ × List ℕ) → Option RouterData
  by None = router_at text registered_port
  by (Some parts) =
      if is_some (parted colon parts.1) then router_at text registered_port else option_and_then (router_at parts.0) (port_spelled parts.1)

-- the router that a text spells
abbrev pub router_spelled : List ℕ → Option RouterData
router_spelled text = by (behind opening_bracket text) where
  by : Option (List ℕ) → Option RouterData
  by None = without_brackets text
  by (Some rest) = in_brackets rest
