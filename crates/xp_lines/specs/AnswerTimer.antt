-- Since when an incoming call waits for its answer, and when it expires (T11, X.25 Annex D). Times are in seconds.
use Rattle.std.specs.Prelude.{◌≡◌, ℕ, ◌-◌, ◌==◌, Bool, true, false, cond, nat_le, List, [], ◌∷◌, Option, Some, None}
use Rattle.xp_packets.specs.declared.packet.Packet.{Packet}
use Rattle.xp_packets.specs.declared.packet.Packet.TheVariants as packets
use Rattle.xp_step.specs.declared.event.What.{What}
use Rattle.xp_step.specs.declared.event.What.TheVariants.{Expire}
use Rattle.xp_step.specs.declared.output.Outgoing.{Outgoing}
use Rattle.xp_step.specs.declared.output.Put.{Put}
use Rattle.xp_step.specs.declared.output.Put.TheVariants.{Send, Close}

module _ {A : Type 0} where
  -- A written incoming call begins to wait. A written clear indication ends the wait.
  abbrev pub since_after : ℕ → Option ℕ → Packet A → Option ℕ
  since_after now since (packets.Call d block) = Some now
  since_after now since (packets.Clear cause diagnostic block) = None
  since_after now since packet = since

  -- the same after one output
  abbrev pub since_after_put : ℕ → Option ℕ → Put A → Option ℕ
  since_after_put now since (Send identifier packet) = since_after now since packet
  since_after_put now since Close = since

  -- the same after all outputs in order, of which those for another connection are not written
  abbrev pub since_after_all : ℕ → ℕ → Option ℕ → List (Outgoing A) → Option ℕ
  since_after_all now connection since [] = since
  since_after_all now connection since (item ∷ items) = since_after_all now connection (cond (item.connection == connection) (since_after_put now since item.put) since) items

-- the list is not empty
abbrev pub has_any : {T : Type 0} → List T → Bool
has_any [] = false
has_any (x ∷ xs) = true

-- A packet that the line sent is its answer: no call waits any more.
abbrev pub answered : Bool → Option ℕ → Option ℕ
answered sent since = cond sent None since

-- the call has waited for 180 seconds
abbrev pub has_expired : ℕ → Option ℕ → Bool
has_expired now (Some since) = nat_le 180 (now - since)
has_expired now None = false

module _ {A : Type 0} where
  -- the event of a call that expired, or none
  abbrev pub expiry : Bool → List (What A)
  expiry true = Expire ∷ []
  expiry false = []

  -- While the link stays, the exchange accepts one expiry of a call that is late, which then waits no more. Where the link goes,
  -- it accepts none.
  abbrev pub Expires : Bool → ℕ → Option ℕ → List (What A) → Option ℕ → Type 0
  Expires true now since expired after = (expired ≡ expiry (has_expired now since)) × (after ≡ answered (has_expired now since) since)
  Expires false now since expired after = expired ≡ []
