-- Frames that are the same.
use Rattle.std.proofs.Common.{◌≡◌, ℕ, refl, ap, sym, ◌∙◌, inl, inr, arith}
use Rattle.std.proofs.lemmas.Bool.{cases_lt}
use Rattle.std.proofs.lemmas.List.{get_or_past}
use Rattle.xp_subs.specs.Tables.{Tables, line_count, modulus_of, no_line}
use Rattle.xp_reload.specs.Frame.{IsSameFrame}

pub frame_kept : (tables : Tables) → IsSameFrame tables tables
frame_kept tables = record {
  count = refl;
  moduli = λ line within. refl;
  settings = record { segment_limit = refl; journal = refl; host = refl; xot_port = refl; name = refl };
}

pub frame_through : (one two three : Tables) → IsSameFrame one two → IsSameFrame two three → IsSameFrame one three
frame_through one two three first second = record {
  count = second.count ∙ first.count;
  moduli = λ line within. second.moduli line (omega (arith, first.count, within)) ∙ first.moduli line within;
  settings = record {
    segment_limit = second.settings.segment_limit ∙ first.settings.segment_limit;
    journal = second.settings.journal ∙ first.settings.journal;
    host = second.settings.host ∙ first.settings.host;
    xot_port = second.settings.xot_port ∙ first.settings.xot_port;
    name = second.settings.name ∙ first.settings.name;
  };
}

-- each place keeps its modulus, also one that neither has
pub modulus_kept : (old new : Tables) → IsSameFrame old new → (line : ℕ) → modulus_of new line ≡ modulus_of old line
modulus_kept old new frame line = elim (cases_lt line (line_count old)) [
  | inl within ↦ frame.moduli line within
  | inr past ↦ ap (λ l. l.modulus) (get_or_past new.lines line no_line (omega (arith, frame.count, past)) ∙ sym (get_or_past old.lines line no_line past))
]
