-- The addresses of hosts.
use Rattle.std.specs.Prelude.{◌≡◌}
use Rattle.std.specs.Net.Addr.{IsCanonicalOf, MatchIp}
use Rattle.std.specs.declared.net.ip_addr.IpAddr.{IpAddr}

-- the canonical form of an address: of an IPv4-mapped IPv6 address the IPv4 address in it, and of any other that itself
abbrev pub IsCanonical : IpAddr → IpAddr → Type 0
IsCanonical address form = MatchIp address (λ _. form ≡ address) (λ ip. IsCanonicalOf ip form)

-- two addresses are those of one host: they have the same canonical form
abbrev pub IsSameHost : IpAddr → IpAddr → Type 0
IsSameHost address other = (form : IpAddr) × IsCanonical address form × IsCanonical other form
