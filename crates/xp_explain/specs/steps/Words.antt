-- A decision in words.
use Rattle.std.specs.Prelude.{codes, List, ℕ, ◌++◌}
use Rattle.xp_explain.specs.declared.verdict.VerdictWords.{VerdictWords}
use Rattle.xp_explain.specs.declared.verdict.VerdictWords.TheVariants.{Rings, Refused}
use Rattle.xp_words.specs.Causes.{cause_text, diagnostic_text}
use Rattle.xp_words.specs.Names.{clearing_causes}

abbrev pub words_text : VerdictWords → List ℕ
words_text (Rings name) = codes "line " ++ name.now ++ codes " rings"
words_text (Refused refusal) =
    codes "refused: cause " ++ cause_text clearing_causes refusal.cause ++ codes ", diagnostic " ++ diagnostic_text refusal.diagnostic
