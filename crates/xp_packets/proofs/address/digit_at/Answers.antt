use Rattle.std.proofs.Common.{◌-◌, length}
use Rattle.xp_packets.proofs.HalfOctets.{AreDigits-at}
use Rattle.xp_packets.proofs.address.digit_at.Goals as goal

pub returns-then-place-called-clause-below : goal.returns-then-place-called-clause-below
returns-then-place-called-clause-below c = AreDigits-at c.args.called.now c.args.place c.requires.called_digits

pub returns-then-place-called-2-clause-below : goal.returns-then-place-called-2-clause-below
returns-then-place-called-2-clause-below c = AreDigits-at c.args.calling.now (c.args.place - length c.args.called.now) c.requires.calling_digits
