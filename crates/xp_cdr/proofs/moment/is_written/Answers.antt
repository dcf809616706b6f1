use Rattle.std.proofs.Common.{◌≡◌, ap, sym, ◌∙◌}
use Rattle.std.proofs.lemmas.Slice.Eq.{bytes_eq-Decides}
use Rattle.xp_cdr.specs.Moments.{moment_text}
use Rattle.xp_cdr.proofs.MomentLemmas.{printed_is}
use Rattle.xp_cdr.proofs.moment.is_written.Goals as goal

pub returns : goal.returns
returns c =
    let text = printed_is c.new.result c.to_plain.result c.timestamp_text-written.result.bytes c.args.seconds c.new.ensures (ap (λ instant. instant.nanosecond) c.to_plain.ensures ∙ c.instant.ensures) c.timestamp_text-written.ensures c.requires in
    let octets : c.as_bytes.result.now ≡ moment_text c.args.seconds = c.as_bytes.ensures.value ∙ c.deref.ensures.0 ∙ text in
    λ same. sym ((bytes_eq-Decides _ _).0 (sym c.eq.ensures ∙ same)) ∙ octets
