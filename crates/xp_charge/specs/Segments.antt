-- The segments charged for a data packet (X.25 clause 6.22; a segment is 64 octets of user data).
use Rattle.std.specs.Prelude.{ℕ, ◌*◌, ◌≤◌, max}
use Rattle.std.specs.Int.{div_ceil}

-- the larger of 1 and the octets divided by 64, rounded up
abbrev pub segments : ℕ → ℕ
segments octets = max 1 (div_ceil octets 64)

-- `count` segments hold these octets, and a packet has at least one
abbrev pub Hold : ℕ → ℕ → Type 0
Hold octets count = (1 ≤ count) × (octets ≤ 64 * count)

-- no fewer segments hold these octets
pub record IsFewest (octets count : ℕ) : Type 0 where
  pub holds : Hold octets count
  pub fewest : (other : ℕ) → Hold octets other → count ≤ other

abbrev pub AreFewest : Type 0
AreFewest = (octets : ℕ) → IsFewest octets (segments octets)
