use Rattle.std.proofs.Common.{◌∙◌, ◌++◌, [], ◌∷◌, ap, get_or, sym}
use Rattle.std.proofs.lemmas.List.{map_more}
use Rattle.xp_file.specs.Address.{digit_of}
use Rattle.xp_file.proofs.digits.read_digits.Goals as goal

pub loop-octet-preserved : goal.loop-octet-preserved
loop-octet-preserved c =
    let octets = c.as_bytes-octet-items.result.now in
    c.push.ensures
    ∙ ap (λ digits. digits ++ digit_of (get_or octets c.loop-octet.octet-index 0) ∷ []) c.loop-octet.invariant
    ∙ sym (map_more digit_of octets c.loop-octet.octet-index 0 c.loop-octet-test.true)
