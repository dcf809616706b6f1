use Rattle.std.proofs.Common.{◌≡◌, ◌++◌, ◌∙◌, ℕ, List, IfOk, ap, codes, string_bytes, subst}
use Rattle.std.specs.Fmt.{decimal}
use Rattle.xp_charge.specs.Text.{name_of}
use Rattle.xp_words.specs.Causes.{cause_text, diagnostic_text}
use Rattle.xp_words.specs.Names.{clearing_causes}
use Rattle.xp_transcript.specs.Words.{call_words, called_words, charge_words}
use Rattle.xp_transcript.proofs.Pieces.{pieces10}
use Rattle.xp_transcript.proofs.record_words.record_words.Goals as goal

pub returns : goal.returns
returns c =
    let ended = c.args.ended.now in
    let caller : List ℕ = name_of c.args.subs.now ended.caller in
    let called : List ℕ = called_words c.args.subs.now ended.called in
    let charge : List ℕ = charge_words ended in
    let cause : List ℕ = cause_text clearing_causes ended.cause in
    let diagnostic : List ℕ = diagnostic_text ended.diagnostic in
    let told : List ℕ → List ℕ → List ℕ = λ caller called.
    decimal ended.ended ++ (codes "  record of " ++ (call_words ended.number caller called ended.dialled ++ (codes ", " ++ (charge
    ++ (codes ", cause " ++ (cause ++ (codes ", diagnostic " ++ (diagnostic ++ codes "\n")))))))) in
    subst (λ told. IfOk c.format.result (λ text. string_bytes text ≡ told))
    (ap (λ name. told name c.called_words.result.now) c.name_of.ensures
    ∙ ap (told caller) c.called_words.ensures
    ∙ pieces10 (decimal ended.ended) (codes "  record of ") (call_words ended.number caller called ended.dialled) (codes ", ") charge (codes ", cause ") cause (codes ", diagnostic ") diagnostic (codes "\n"))
    c.format.ensures.ok
