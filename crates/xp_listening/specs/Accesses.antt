-- From where the connections of lines come.
use Rattle.std.specs.Prelude.{◌≡◌, ℕ, List, [], ◌∷◌}
use Rattle.std.specs.Net.Grammar.{IsIpText}
use Rattle.std.specs.Net.Socket.{socket_ip, socket_port}
use Rattle.std.specs.declared.net.socket_addr.SocketAddr.{SocketAddr}
use Rattle.xp_file.specs.declared.entry.Access.{Access}
use Rattle.xp_file.specs.declared.entry.Access.TheVariants as subscribed
use Rattle.xp_links.specs.Pairs.{AreEach}
use Rattle.xp_door.specs.Callers.{caller_of}
use Rattle.xp_subs.specs.Tables.{Tables}
use Rattle.xp_subs.specs.declared.line.Line.{Line}
use Rattle.xp_tcp.specs.Accesses.{Origin, AtPort, Behind, Spare}
use Rattle.xp_tcp.specs.Networks.{IsSourceText}
use Rattle.xp_tcp.specs.declared.source.Source.{Source}

-- these are the hosts and networks of the texts, in order
abbrev pub AreSources : List (List ℕ) → List Source → Type 0
AreSources [] [] = Unit {0}
AreSources [] (source ∷ sources) = ⊥
AreSources (text ∷ texts) [] = ⊥
AreSources (text ∷ texts) (source ∷ sources) = IsSourceText text source × AreSources texts sources

-- a line with this access is served so: on its own port, for connections from its own sources, or with the router of the address that
-- the text writes, at its port, whose calls are matched with the line and its station; and a spare place from nowhere
abbrev pub IsServedBy : Tables → Line → Access → Origin → Type 0
IsServedBy tables line (subscribed.Port port) origin =
    (sources : List Source) × (origin ≡ AtPort port sources) × AreSources line.from sources
IsServedBy tables line (subscribed.Router router) origin =
    (at : SocketAddr) × (origin ≡ Behind at (caller_of tables line)) × IsIpText router.address (socket_ip at) × (socket_port at ≡ router.port)
IsServedBy tables line subscribed.Spare origin = origin ≡ Spare

-- a line is served where it is subscribed
abbrev pub IsServedAt : Tables → Line → Origin → Type 0
IsServedAt tables line origin = IsServedBy tables line line.access origin

-- all lines are, in the order of lines
abbrev pub AreServedAt : Tables → List Origin → Type 0
AreServedAt tables origins = AreEach (IsServedAt tables) tables.lines origins
