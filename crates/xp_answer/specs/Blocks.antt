-- The content of a packet's block; a packet without a block carries nothing (X.25 clauses 5.2.3 and 5.2.4).
use Rattle.std.specs.Prelude.{ℕ, List, [], Option, None, Some}
use Rattle.xp_packets.specs.declared.block.Block.{Block}

module _ {A : Type 0} where
  abbrev pub facilities_in : Option (Block A) → List ℕ
  facilities_in None = []
  facilities_in (Some block) = block.facilities

  abbrev pub user_in : Option (Block A) → List ℕ
  user_in None = []
  user_in (Some block) = block.user
