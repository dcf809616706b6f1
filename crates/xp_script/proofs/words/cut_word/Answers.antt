use Rattle.std.proofs.Common.{◌≡◌, ◌∙◌, sym, None, rules}
use Rattle.std.specs.List.{position}
use Rattle.xp_script.specs.Command.{is_space}
use Rattle.xp_script.proofs.WordLemmas.{words-cut, words-uncut}
use Rattle.xp_script.proofs.words.cut_word.Goals as goal

pub returns-in_err-place : goal.returns-in_err-place
returns-in_err-place c =
    let none : c.from_residual.result ≡ None = search rules in
    let nowhere : position is_space c.args.text.now ≡ None = search rules in
    rw none (words-uncut c.args.text.now nowhere)

pub returns : goal.returns
returns c = words-cut c.args.text.now c.in_ok-place.place (sym c.place_of_space.ensures ∙ c.in_ok-place.was)
