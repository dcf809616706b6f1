use Rattle.std.proofs.Common.{take}
use Rattle.xp_keeping.proofs.Fronts.{front_of}
use Rattle.xp_keeping.proofs.writing.write_lines.Goals as goal

pub returns-in-Err : goal.returns-in-Err
returns-in-Err g c =
    let put = c.in-Err.ensures in
    (take put.0 c.args.lines.now, put.1, front_of put.0 c.args.lines.now)
