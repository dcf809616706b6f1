-- The action for a packet that a state does not allow (X.25 Annex C, tables C-2 and C-3, and clause 4.1). Only
-- contracts of private functions use this.
use Rattle.std.specs.Prelude.{ℕ}
use Rattle.xp_channel.specs.declared.action.Action.{Action}
use Rattle.xp_channel.specs.declared.action.Action.TheVariants.{Nothing, Error}
use Rattle.xp_channel.specs.declared.channel.Channel.{Channel}
use Rattle.xp_channel.specs.declared.channel.Channel.TheVariants.{Off, P1, P2, P3, P4, P7}

-- an error whose diagnostic is packet type invalid for this state; off and p7 ignore the packet
abbrev pub invalid : Channel → Action
invalid Off = Nothing
invalid P1 = Error 20
invalid P2 = Error 21
invalid P3 = Error 22
invalid P4 = Error 23
invalid P7 = Nothing
