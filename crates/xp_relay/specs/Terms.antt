-- What was agreed for a call, and which values are allowed.
use Rattle.std.specs.Prelude.{◌<◌, ◌≤◌}
use Rattle.xp_packets.specs.declared.end.End.{End}
use Rattle.xp_packets.specs.declared.end.End.TheVariants.{Caller, Called}
use Rattle.xp_packets.specs.declared.modulus.Modulus.{Modulus}
use Rattle.xp_packets.specs.Numbers.{numbers}
use Rattle.xp_relay.specs.declared.terms.Terms.{Terms}
use Rattle.xp_relay.specs.declared.terms.DirectionTerms.{DirectionTerms}

-- Packet sizes are 16 to 1,024 octets (X.25 clause 7.2.2.1). Windows are at least 1, at most 15, and below the modulus
-- of both lines (clause 7.2.2.2). So they are 1 to 7, unless both lines number modulo 128.
pub record AreDirectionTerms (way : DirectionTerms) : Type 0 where
  pub least_size : 4 ≤ way.size
  pub most_size : way.size ≤ 10
  pub least_window : 1 ≤ way.window
  pub most_window : way.window ≤ 15
  pub sender : way.window < numbers way.sender
  pub receiver : way.window < numbers way.receiver

-- how the line at an end numbers its packets (clause 4.4.1.1)
abbrev pub modulus_at : End → Terms → Modulus
modulus_at Caller terms = terms.caller
modulus_at Called terms = terms.called

-- the terms of the direction that one end sends
abbrev pub terms_from : End → Terms → DirectionTerms
terms_from Caller terms =
    record { size = terms.from_caller.size; window = terms.from_caller.window; sender = terms.caller; receiver = terms.called }
terms_from Called terms =
    record { size = terms.from_called.size; window = terms.from_called.window; sender = terms.called; receiver = terms.caller }

-- the terms of both directions are allowed
pub record IsWithinTerms (terms : Terms) : Type 0 where
  pub from_caller : AreDirectionTerms (terms_from Caller terms)
  pub from_called : AreDirectionTerms (terms_from Called terms)
