-- What serving needs of a line before it listens.
use Rattle.std.specs.Prelude.{List}
use Rattle.std.specs.Net.Grammar.{IsIpText}
use Rattle.std.specs.declared.net.ip_addr.IpAddr.{IpAddr}
use Rattle.xp_file.specs.declared.entry.Access.{Access}
use Rattle.xp_file.specs.declared.entry.Access.TheVariants as access
use Rattle.xp_subs.specs.declared.line.Line.{Line}
use Rattle.xp_listening.specs.Accesses.{AreSources}
use Rattle.xp_tcp.specs.declared.source.Source.{Source}

-- its router has an address, if it is behind one
abbrev pub HasAddress : Access → Type 0
HasAddress (access.Port port) = Unit {0}
HasAddress access.Spare = Unit {0}
HasAddress (access.Router router) = (address : IpAddr) × IsIpText router.address address

-- each of its sources is a host or a network, and its router has an address
abbrev pub HasAddresses : Line → Type 0
HasAddresses line = ((sources : List Source) × AreSources line.from sources) × HasAddress line.access
