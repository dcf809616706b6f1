use Rattle.std.proofs.Common.{◌≡◌, [], ◌∷◌, ◌++◌, ap, arith, ◌∙◌}
use Rattle.std.proofs.lemmas.Result.{on_ok_weaker}
use Rattle.csv.specs.Records.{fields_of}
use Rattle.xp_cdr.specs.Moments.{moment_text}
use Rattle.xp_cdr.proofs.MomentLemmas.{printed_is}
use Rattle.xp_cdr.proofs.moment.push_moment.Goals as goal

pub returns-clause-fields : goal.returns-clause-fields
returns-clause-fields c =
    let text = printed_is c.new.result c.to_plain.result c.timestamp_text-text.result.bytes c.args.seconds c.new.ensures (ap (λ instant. instant.nanosecond) c.to_plain.ensures ∙ c.instant-instant.ensures) c.timestamp_text-text.ensures (omega arith) in
    let octets : c.as_bytes.result.now ≡ moment_text c.args.seconds = c.as_bytes.ensures.value ∙ c.deref.ensures.0 ∙ text in
    on_ok_weaker c.push_field.result
    (λ fields. fields ∙ ap (λ field. fields_of c.args.row.now ++ field ∷ []) (ap (λ begun. begun ++ c.as_bytes.result.now) c.requires.begun ∙ octets))
    c.push_field.ensures.fields
