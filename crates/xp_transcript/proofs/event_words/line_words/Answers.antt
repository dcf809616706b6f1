use Rattle.std.proofs.Common.{◌≡◌, ◌++◌, ◌∙◌, ℕ, List, IfOk, ap, codes, string_bytes, subst}
use Rattle.xp_charge.specs.Text.{name_of}
use Rattle.xp_words.specs.declared.direction.Direction.TheVariants.{FromDte}
use Rattle.xp_transcript.specs.Words.{heading_words, what_words}
use Rattle.xp_transcript.proofs.Pieces.{pieces3}
use Rattle.xp_transcript.proofs.event_words.line_words.Goals as goal

pub returns : goal.returns
returns c =
    let what : List ℕ = what_words c.args.event.now.what in
    subst (λ told. IfOk c.format.result (λ text. string_bytes text ≡ told))
    (ap (λ name. heading_words c.args.event.now.moment name FromDte ++ (what ++ codes "\n")) c.name_of.ensures
    ∙ pieces3 (heading_words c.args.event.now.moment (name_of c.args.subs.now c.args.event.now.line) FromDte) what (codes "\n"))
    c.format.ensures.ok
