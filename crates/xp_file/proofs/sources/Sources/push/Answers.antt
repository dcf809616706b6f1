use Rattle.std.proofs.Common.{◌≡◌, ◌∙◌, ◌++◌, [], ◌∷◌, ap, map, rules, sym}
use Rattle.std.proofs.lemmas.List.{map-append}
use Rattle.arrayvec.specs.ArrayString.{ArrayString}
use Rattle.xp_file.proofs.sources.Sources.push.Goals as goal

pub returns-clause-added : goal.returns-clause-added
returns-clause-added c =
    let pushed = c.in_ok-ok.field-0 in
    let text : pushed.bytes ≡ c.args.text.now = search rules in (
      sym c.is_source.ensures ∙ c.if-not-is_source.false,
      ap (map (λ (text : ArrayString). text.bytes)) c.push.ensures.items
          ∙ map-append (λ (text : ArrayString). text.bytes) c.self.inside.texts.items (pushed ∷ [])
          ∙ ap (λ texts. texts ++ pushed.bytes ∷ []) c.self.view_is
          ∙ ap (λ text. c.args.self.now ++ text ∷ []) text,
    )
