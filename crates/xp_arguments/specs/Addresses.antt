-- The address of a console, as an operator writes it.
use Rattle.std.specs.Prelude.{ℕ, ◌-◌, ◌<◌, List, ◌++◌, codes, drop, if◌then◌else◌, length, nat_eq, take}
use Rattle.std.specs.List.{ends_with, starts_with}
use Rattle.std.specs.Net.Grammar.{IsSocketText}
use Rattle.std.specs.Net.Socket.{socket_port}
use Rattle.std.specs.declared.net.socket_addr.SocketAddr.{SocketAddr}

-- the text without this front, where it has it
abbrev pub without_front : List ℕ → List ℕ → List ℕ
without_front text front = if starts_with nat_eq text front then drop (length front) text else text

-- the text without this end, where it has it
abbrev pub without_end : List ℕ → List ℕ → List ℕ
without_end text tail = if ends_with nat_eq text tail then take (length text - length tail) text else text

-- the text without `http://` in front of it and without a slash behind it
abbrev pub bare : List ℕ → List ℕ
bare text = without_end (without_front text (codes "http://")) (codes "/")

-- the text with 127.0.0.1 where it has `localhost` before a port
abbrev pub in_numbers : List ℕ → List ℕ
in_numbers text = if starts_with nat_eq text (codes "localhost:") then codes "127.0.0.1:" ++ drop 10 text else text

-- the text writes this address, with a port from 1 to 65535
abbrev pub Writes : List ℕ → SocketAddr → Type 0
Writes text address = IsSocketText text address × (0 < socket_port address)

-- The text writes the address of a console: `ADDRESS:PORT`, where ADDRESS is an IPv4 address, an IPv6 address in brackets, or
-- `localhost`. `http://` may stand in front of it, and a slash behind it.
abbrev pub IsConsoleAddress : List ℕ → SocketAddr → Type 0
IsConsoleAddress text address = Writes (in_numbers (bare text)) address
