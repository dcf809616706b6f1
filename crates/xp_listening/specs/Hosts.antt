-- The address that a host is, on whose ports the exchange listens, and the addresses from which lines may be connected to.
use Rattle.std.specs.Prelude.{◌≡◌, ◌⊎◌, ℕ, List, [], ◌∷◌, Contains, codes}
use Rattle.std.specs.Net.Addr.{IsV4And, ipv4_octets}
use Rattle.std.specs.Net.Grammar.{IsIpText}
use Rattle.std.specs.declared.net.ip_addr.IpAddr.{IpAddr}

-- the address is 127.0.0.1
abbrev pub IsLocal : IpAddr → Type 0
IsLocal address = IsV4And address (λ ip. ipv4_octets ip ≡ 127 ∷ 0 ∷ 0 ∷ 1 ∷ [])

-- `localhost` is 127.0.0.1, and the text of an IPv4 or IPv6 address is that address
abbrev pub IsHost : List ℕ → IpAddr → Type 0
IsHost host address = ((host ≡ codes "localhost") × IsLocal address) ⊎ IsIpText host address

-- the host is neither `localhost` nor the text of an address
abbrev pub IsNoHost : List ℕ → Type 0
IsNoHost host = (address : IpAddr) → IsHost host address → ⊥

-- one of the texts is that of no address
pub record HasNoAddress (texts : List (List ℕ)) : Type 0 where
  pub text : List ℕ
  pub is_among : Contains texts text
  pub none : (address : IpAddr) → IsIpText text address → ⊥
