-- The packet and window sizes of a call (X.25 clause 6.12).
use Rattle.std.specs.Prelude.{ℕ, ◌≤◌, min, max, nat_le, Bool, true, ◌&&◌, ◌||◌, Option, None, Some, unwrap_or}
use Rattle.xp_decide.specs.Indicated.{largest_window_on}
use Rattle.xp_decide.specs.IncomingCalls.{default_packet_sizes, default_window_sizes}
use Rattle.xp_facilities.specs.declared.requested.RequestedFacilities.{RequestedFacilities}
use Rattle.xp_facilities.specs.declared.direction_sizes.DirectionSizes.{DirectionSizes}
use Rattle.xp_facilities.specs.declared.indicated.IndicatedFacilities.{IndicatedFacilities}
use Rattle.xp_packets.specs.declared.modulus.Modulus.{Modulus}
use Rattle.xp_answer.specs.declared.terms.Terms.{Terms}

-- both sizes are within these bounds
pub record AreBetween (least most : ℕ) (sizes : DirectionSizes) : Type 0 where
  pub called_least : least ≤ sizes.from_called
  pub called_most : sizes.from_called ≤ most
  pub calling_least : least ≤ sizes.from_calling
  pub calling_most : sizes.from_calling ≤ most

-- packets of 16 to 1,024 octets, by powers of two, and windows of 1 to the largest of a line with this modulus
pub record AreTerms (modulus : Modulus) (terms : Terms) : Type 0 where
  pub packet : AreBetween 4 10 terms.packet
  pub window : AreBetween 1 (largest_window_on modulus) terms.window

-- `size` is between the two, whichever is greater, or equal to one of them
abbrev pub is_between : ℕ → ℕ → ℕ → Bool
is_between one other size = (nat_le one size && nat_le size other) || (nat_le other size && nat_le size one)

-- The requested sizes, if there are any, are between the indicated and the usual (default) ones, in each direction.
abbrev pub is_offered : DirectionSizes → DirectionSizes → Option DirectionSizes → Bool
is_offered indicated usual None = true
is_offered indicated usual (Some asked) =
    is_between indicated.from_called usual.from_called asked.from_called
    && is_between indicated.from_calling usual.from_calling asked.from_calling

module _ {A : Type 0} where
  -- the sizes that an incoming call indicates
  abbrev pub indicated_by : IndicatedFacilities A → Terms
  indicated_by told = record {
    packet = unwrap_or told.packet default_packet_sizes;
    window = unwrap_or told.window default_window_sizes;
  }

  -- the sizes that an answer may request
  abbrev pub are_offered : Terms → RequestedFacilities A → Bool
  are_offered indicated asked =
      is_offered indicated.packet default_packet_sizes asked.packet && is_offered indicated.window default_window_sizes asked.window

  -- The sizes of the call: those that the answer requests, otherwise those that were indicated.
  abbrev pub settled : Terms → RequestedFacilities A → Terms
  settled indicated asked = record {
    packet = unwrap_or asked.packet indicated.packet;
    window = unwrap_or asked.window indicated.window;
  }

-- from the lesser of two sizes to the greater, both included
abbrev pub IsWithin : ℕ → ℕ → ℕ → Type 0
IsWithin one other size = (min one other ≤ size) × (size ≤ max one other)

pub record AreWithin (one other sizes : DirectionSizes) : Type 0 where
  pub from_called : IsWithin one.from_called other.from_called sizes.from_called
  pub from_calling : IsWithin one.from_calling other.from_calling sizes.from_calling

-- each size is between the indicated and the default one
pub record AreWithinIndicated (indicated terms : Terms) : Type 0 where
  pub packet : AreWithin indicated.packet default_packet_sizes terms.packet
  pub window : AreWithin indicated.window default_window_sizes terms.window

-- sizes that a line with this modulus may have, each of them between the indicated and the default one
pub record AreSettled (modulus : Modulus) (indicated terms : Terms) : Type 0 where
  pub sizes : AreTerms modulus terms
  pub within : AreWithinIndicated indicated terms
