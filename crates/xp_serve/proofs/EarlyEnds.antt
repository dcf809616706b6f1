-- Why lines ended, one after the other, and that the lowest line that ended before its time is one of the lines.
use Rattle.std.proofs.Common.{◌≡◌, ℕ, suc, ◌+◌, ◌<◌, List, [], ◌∷◌, ◌++◌, Option, Some, None, IfSome, ap, arith, get_or, length, map, sym, take, ◌∙◌}
use Rattle.std.proofs.lemmas.List.{map-append, take_more}
use Rattle.xp_lines.specs.declared.line.EndReason.{EndReason}
use Rattle.xp_serve.specs.Ends.{early_end_cause, early_end_or, first_early_end}
use Rattle.xp_serve.specs.declared.ends.EarlyEndCause.{EarlyEndCause}
use Rattle.xp_serve.specs.declared.ends.EarlyEnd.{EarlyEnd}

within_or : (line end : ℕ) (cause : Option EarlyEndCause) (later : Option EarlyEnd) → line < end → IfSome later (λ early_end. early_end.line < end)
    → IfSome (early_end_or line cause later) (λ early_end. early_end.line < end)
within_or line end None later here there = there
within_or line end (Some cause) later here there = here

pub early_within : (line end : ℕ) (reasons : List EndReason) → line + length reasons ≡ end → IfSome (first_early_end line reasons) (λ early_end. early_end.line < end)
early_within line end [] count = tt
early_within line end (reason ∷ reasons) count =
    within_or line end (early_end_cause reason) (first_early_end (suc line) reasons) (omega (arith, count)) (early_within (suc line) end reasons (omega (arith, count)))

-- one line more
pub one_reason_more : {X Y : Type 0} (why : X → Y) (ends : List X) (i : ℕ) (end : X) → i < length ends → end ≡ get_or ends i end
    → map why (take (i + 1) ends) ≡ map why (take i ends) ++ why end ∷ []
one_reason_more why ends i end within is =
    ap (map why) (take_more ends i end within ∙ ap (λ end. take i ends ++ end ∷ []) (sym is)) ∙ map-append why (take i ends) (end ∷ [])
