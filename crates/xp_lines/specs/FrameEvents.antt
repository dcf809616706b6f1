-- The event that each packet from a link is.
use Rattle.std.specs.Prelude.{Bool, true, false, ℕ, List, [], ◌∷◌}
use Rattle.xp_packets.specs.Examination.{IsMalformed}
use Rattle.xp_packets.specs.Spelling.{Spells}
use Rattle.xp_packets.specs.declared.modulus.Modulus.{Modulus}
use Rattle.xp_step.specs.declared.event.What.{What}
use Rattle.xp_step.specs.declared.event.What.TheVariants.{Up, Down, Frame, WrongFrame, Expire, Stall, Reload}

module _ {A : Type 0} where
  -- the event that the link went
  abbrev pub is_down : What A → Bool
  is_down Down = true
  is_down Up = false
  is_down (Frame identifier packet) = false
  is_down (WrongFrame wrong) = false
  is_down Expire = false
  is_down Stall = false
  is_down Reload = false

  -- By this modulus the octets of a packet are this event: the packet that they spell, or what is wrong with them.
  abbrev pub IsReadAs : Modulus → List ℕ → What A → Type 0
  IsReadAs modulus packet (Frame identifier read) = Spells modulus packet identifier read
  IsReadAs modulus packet (WrongFrame wrong) = IsMalformed modulus packet wrong
  IsReadAs modulus packet Up = ⊥
  IsReadAs modulus packet Down = ⊥
  IsReadAs modulus packet Expire = ⊥
  IsReadAs modulus packet Stall = ⊥
  IsReadAs modulus packet Reload = ⊥

  -- one event for each packet, in the same order
  abbrev pub AreReadAs : Modulus → List (List ℕ) → List (What A) → Type 0
  AreReadAs modulus [] [] = Unit {0}
  AreReadAs modulus (packet ∷ packets) (what ∷ whats) = IsReadAs modulus packet what × AreReadAs modulus packets whats
  AreReadAs modulus [] (what ∷ whats) = ⊥
  AreReadAs modulus (packet ∷ packets) [] = ⊥
