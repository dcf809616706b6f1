use Rattle.std.proofs.Common.{◌≡◌, ◌∙◌, sym, None, rules}
use Rattle.std.specs.List.{position}
use Rattle.xp_transcript.specs.Telling.{is_feed}
use Rattle.xp_transcript.proofs.Feeds.{lines-cut, lines-uncut}
use Rattle.xp_transcript.proofs.lines.cut_line.Goals as goal

pub returns-in_err-place-clause-lines : goal.returns-in_err-place-clause-lines
returns-in_err-place-clause-lines c =
    let none : c.from_residual.result ≡ None = search rules in
    let nowhere : position is_feed c.args.script.now ≡ None = search rules in
    rw none (lines-uncut c.args.script.now nowhere)

pub returns-clause-lines : goal.returns-clause-lines
returns-clause-lines c = lines-cut c.args.script.now c.in_ok-place.place (sym c.place_of_feed.ensures ∙ c.in_ok-place.was)
