use Rattle.std.proofs.Common.{nat_eq, ◌∙◌, sym}
use Rattle.std.specs.Cmp.Lexicographic.{pointwise}
use Rattle.std.specs.Cmp.Derive.Mapped.{pointwise-map}
use Rattle.arrayvec.specs.ArrayString.{ArrayString as Text}
use Rattle.xp_file.proofs.sources.SourcesPartialEq.eq.Goals as goal

pub returns : goal.returns
returns c =
    rw (← c.self.view_is, ← c.other.view_is)
    (c.eq.ensures ∙ sym (pointwise-map (λ (text : Text). text.bytes) (pointwise nat_eq) c.self.inside.texts.items c.other.inside.texts.items))
