use Rattle.std.proofs.Common.{◌/◌, refl}
use Rattle.std.proofs.lemmas.Nat.{and_mask}
use Rattle.xp_packets.specs.steps.Numbers.{data_numbers_at}
use Rattle.xp_packets.proofs.BitLemmas.{bit_test}
use Rattle.xp_packets.proofs.numbers.data_numbers.Goals as goal

pub returns-in-Eight-default : goal.returns-in-Eight-default
unfolding data_numbers_at
returns-in-Eight-default c = rw (c.in-Eight-default.is-0, bit_test c.args.octet 4, and_mask (c.args.octet / 2) 3) refl
