-- Hosts and networks from which a line's connections may come, and how a text writes them.
use Rattle.std.specs.Prelude.{◌≡◌, ◌==◌, ◌/◌, ◌-◌, ◌^◌, ◌&&◌, ℕ, Bool, List, Option, None, Some, length, nat_le, if◌then◌else◌}
use Rattle.std.specs.Char.{is_ascii_digit}
use Rattle.std.specs.List.{after_first, before_first, list_all}
use Rattle.std.specs.Net.Addr.{ipv4_bits, ipv6_bits}
use Rattle.std.specs.Net.Grammar.{IsIpText}
use Rattle.std.specs.Str.Parse.{digits_value}
use Rattle.std.specs.declared.net.ip_addr.IpAddr.{IpAddr}
use Rattle.std.specs.declared.net.ip_addr.IpAddr.TheVariants.{V4, V6}
use Rattle.xp_door.specs.Hosts.{IsCanonical, IsSameHost}
use Rattle.xp_tcp.specs.declared.source.Source.{Source}
use Rattle.xp_tcp.specs.declared.source.Source.TheVariants.{Host, Network}

-- Both addresses are IPv4, or both IPv6, and so many of their first bits are equal: what is left of each without the bits behind
-- them. An IPv4 address is a number of 32 bits, an IPv6 address one of 128.
abbrev pub BeginAlike : ℕ → IpAddr → IpAddr → Type 0
BeginAlike count (V4 address) (V4 other) = ipv4_bits address / 2 ^ (32 - count) ≡ ipv4_bits other / 2 ^ (32 - count)
BeginAlike count (V6 address) (V6 other) = ipv6_bits address / 2 ^ (128 - count) ≡ ipv6_bits other / 2 ^ (128 - count)
BeginAlike count (V4 address) (V6 other) = ⊥
BeginAlike count (V6 address) (V4 other) = ⊥

-- a peer is that host; or its canonical form begins as the network's address does
abbrev pub Includes : Source → IpAddr → Type 0
Includes (Host address) peer = IsSameHost address peer
Includes (Network address count) peer = (form : IpAddr) × IsCanonical peer form × BeginAlike count address form

-- the code of `/`
abbrev pub is_slash : ℕ → Bool
is_slash octet = octet == 47

-- one digit or more
abbrev pub are_digits : List ℕ → Bool
are_digits text = nat_le 1 (length text) && list_all is_ascii_digit text

-- the number of at most so much that the digits write
abbrev pub number_up_to : ℕ → List ℕ → Option ℕ
number_up_to most text = if are_digits text && nat_le (digits_value 10 text) most then Some (digits_value 10 text) else None

-- how many bits an address has
abbrev pub width : IpAddr → ℕ
width (V4 address) = 32
width (V6 address) = 128

-- before the first slash of the text stands an address, and behind it how many bits of the address count
pub record IsNetworkText (text : List ℕ) (address : IpAddr) (count : ℕ) : Type 0 where
  pub named : IsIpText (before_first is_slash text) address
  pub counted : number_up_to (width address) (after_first is_slash text) ≡ Some count

-- the text writes this host, or this network
abbrev pub IsSourceText : List ℕ → Source → Type 0
IsSourceText text (Host address) = IsIpText text address
IsSourceText text (Network address count) = IsNetworkText text address count

-- no address has that text, and no network
abbrev pub IsNoSourceText : List ℕ → Type 0
IsNoSourceText text =
    ((address : IpAddr) → IsIpText text address → ⊥) × ((address : IpAddr) (count : ℕ) → IsNetworkText text address count → ⊥)
