use Rattle.std.proofs.Common.{◌<◌}
use Rattle.xp_packets.proofs.BitLemmas.{data_bits}
use Rattle.xp_packets.proofs.numbers.push_data_octets.Goals as goal

pub returns-in-Eight : goal.returns-in-Eight
returns-in-Eight g c =
    let sent : c.args.ps < 8 = rw c.in-Eight.is at c.requires.sent in
    let received : c.args.pr < 8 = rw c.in-Eight.is at c.requires.received in
    rw c.in-Eight.is (rw (c.flagged.ensures, data_bits c.args.ps c.args.pr c.args.more sent received) at c.push_octets.ensures)
