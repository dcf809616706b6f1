-- Which hosts are the console itself.
use Rattle.std.specs.Prelude.{◌≡◌, ◌==◌, ◌⊎◌, ℕ, codes, if◌then◌else◌, List, [], ◌∷◌, map}
use Rattle.std.specs.List.{before_first}
use Rattle.std.specs.Char.{to_ascii_lowercase}
use Rattle.std.specs.Net.Addr.{IsLoopbackV4, IsLoopbackV6, MatchIp}
use Rattle.std.specs.Net.Grammar.{IsIpText}
use Rattle.std.specs.declared.net.ip_addr.IpAddr.{IpAddr}

-- the name or the address in the value of a `Host` field, without its port: `localhost` of `localhost:9980`, `::1` of
-- `[::1]:9980`
abbrev pub name_in : List ℕ → List ℕ
name_in [] = []
name_in (first ∷ rest) =
    if first == 91 then before_first (λ x. x == 93) rest else before_first (λ x. x == 58) (first ∷ rest)

-- an address of this machine alone, or the console's own
abbrev pub IsOwnAddress : IpAddr → IpAddr → Type 0
IsOwnAddress own address = MatchIp address IsLoopbackV4 IsLoopbackV6 ⊎ (address ≡ own)

-- the text of such an address
abbrev pub HasOwnAddress : IpAddr → List ℕ → Type 0
HasOwnAddress own text = (address : IpAddr) × IsIpText text address × IsOwnAddress own address

-- `localhost` in any case, or the text of such an address
abbrev pub IsOwnName : IpAddr → List ℕ → Type 0
IsOwnName own name = (map to_ascii_lowercase name ≡ codes "localhost") ⊎ HasOwnAddress own name

-- the value of a `Host` field names the console
abbrev pub NamesConsole : IpAddr → List ℕ → Type 0
NamesConsole own host = IsOwnName own (name_in host)
