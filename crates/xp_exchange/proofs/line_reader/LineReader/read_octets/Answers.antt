use Rattle.std.proofs.Common.{◌<◌, subst, sym}
use Rattle.xp_subs.specs.Tables.{line_count}
use Rattle.xp_exchange.proofs.line_reader.LineReader.read_octets.Goals as goal

pub returns-clause-fit : goal.returns-clause-fit
returns-clause-fit g c = λ k d within.
    let fits = c.in_ok-read_events.ensures.fit k d within in
    (subst (λ line. line < line_count c.args.core.now.subs) (sym fits.0) c.requires.line, fits.1)
