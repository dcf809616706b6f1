-- The octets that are stored in place or in a shared block.
use Rattle.std.specs.Prelude.{ℕ, List}
use Rattle.std.specs.Arc.{arc_slice_items}
use Rattle.xp_packets.specs.declared.octets.Storage.{Storage}
use Rattle.xp_packets.specs.declared.octets.Storage.TheVariants.{InPlace, Shared}

abbrev pub stored_octets : {A : Type 0} → Storage A → List ℕ
stored_octets (InPlace few) = few
stored_octets (Shared block) = arc_slice_items block
