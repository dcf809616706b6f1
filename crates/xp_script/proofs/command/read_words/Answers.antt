use Rattle.std.proofs.Common.{◌≡◌, ◌∙◌, ◌∷◌, ap}
use Rattle.xp_script.specs.Command.{words}
use Rattle.xp_script.proofs.SaidLemmas.{said-cut, brings-cut}
use Rattle.xp_script.proofs.command.read_words.Goals as goal

pub returns-in-Some-cut_word-clause-said : goal.returns-in-Some-cut_word-clause-said
returns-in-Some-cut_word-clause-said g c =
    let verb = c.in-Some.verb.now in
    let name = c.in-Some-cut_word.name.now in
    let digits = c.in-Some-cut_word.digits.now in
    let all : words c.args.text.now ≡ verb ∷ name ∷ words digits = c.in-Some.ensures ∙ ap (λ words. verb ∷ words) c.in-Some-cut_word.ensures in
    rw (all, said-cut c.args.subs.now c.args.named.now verb name digits, ← c.line_named.ensures.found) c.about_octets.ensures.said

pub returns-in-Some-cut_word-clause-memory : goal.returns-in-Some-cut_word-clause-memory
returns-in-Some-cut_word-clause-memory g c = λ lacks.
    let verb = c.in-Some.verb.now in
    let name = c.in-Some-cut_word.name.now in
    let digits = c.in-Some-cut_word.digits.now in
    let all : words c.args.text.now ≡ verb ∷ name ∷ words digits = c.in-Some.ensures ∙ ap (λ words. verb ∷ words) c.in-Some-cut_word.ensures in
    rw (all, brings-cut c.args.subs.now verb name digits (c.about_octets.ensures.digits lacks), ← c.line_named.ensures.found) (c.about_octets.ensures.memory lacks)
