-- Where the connections of lines come from.
use Rattle.std.specs.Prelude.{◌≡◌, ℕ, ◌<◌, List, [], ◌∷◌, ◌++◌, Option, None, Some}
use Rattle.std.specs.declared.net.socket_addr.SocketAddr.{SocketAddr}
use Rattle.xp_door.specs.declared.choosing.Caller.{Caller}
use Rattle.xp_tcp.specs.declared.access.Access.{Access}
use Rattle.xp_tcp.specs.declared.access.Access.TheVariants.{Port, Router, Spare as NoLine}
use Rattle.xp_tcp.specs.declared.source.Source.{Source}

-- Where the connections of a line come from: to a port of its own, from these hosts and networks, or from any address where there are
-- none; or between it and the router of this address, whose calls are matched with this; or from nowhere, where there is no line.
pub data Origin : Type 0 where
  AtPort : ℕ → List Source → Origin
  Behind : SocketAddr → Caller → Origin
  Spare : Origin

abbrev pub access_of : Origin → Access
access_of (AtPort port admitted) = Port port
access_of (Behind router caller) = Router router
access_of Spare = NoLine

-- the first of some
abbrev pub first_origin : List Origin → Origin
first_origin [] = Spare
first_origin (origin ∷ origins) = origin

-- The next line is listened for on this port, for connections from these sources: the port that was asked for, or where that is 0,
-- one that the system picks.
pub record Listens (old : List Origin) (asked : ℕ) (admitted : List Source) (new : List Origin) : Type 0 where
  pub port : ℕ
  pub one_more : new ≡ old ++ AtPort port admitted ∷ []
  pub as_asked : 0 < asked → port ≡ asked

-- the port of a line that has one of its own
abbrev pub port_of : Option Origin → Option ℕ
port_of (Some (AtPort port admitted)) = Some port
port_of (Some (Behind router caller)) = None
port_of (Some Spare) = None
port_of None = None
