-- A call sees its own line as busy, whatever its state.
use Rattle.std.proofs.Common.{◌≡◌, ◌≢◌, ℕ, Bool, true, false, nat_eq, if◌then◌else◌, Ok, Err, refl, sym, ◌∙◌, ap, subst}
use Rattle.std.proofs.lemmas.Bool.{eqb-false}
use Rattle.xp_hunt.specs.declared.lines.LineState.{LineState}
use Rattle.xp_hunt.specs.declared.lines.LineState.TheVariants.{Busy}
use Rattle.xp_packets.specs.declared.block.Block.{Block}
use Rattle.xp_subs.specs.Tables.{Tables}
use Rattle.xp_decide.specs.Asks.{wanted_of}
use Rattle.xp_decide.specs.Decided.{Decided}
use Rattle.xp_decide.specs.Decided as decided
use Rattle.xp_decide.specs.Routes.{Reaches}
use Rattle.xp_decide.specs.LinesForCaller.{state_for_caller}
use Rattle.xp_decide.specs.declared.verdict.Verdict.{Verdict}

module _ (from : ℕ) (states others : ℕ → LineState) (agree : (line : ℕ) → line ≢ from → states line ≡ others line) where
  seen_alike : (line : ℕ) → state_for_caller from states line ≡ state_for_caller from others line
  seen_alike line = by (nat_eq line from) refl where
    by : (own : Bool) → nat_eq line from ≡ own → state_for_caller from states line ≡ state_for_caller from others line
    by true own =
        ap (λ o. if o then Busy else states line) own ∙ sym (ap (λ o. if o then Busy else others line) own)
    by false other =
        ap (λ o. if o then Busy else states line) other ∙ agree line (eqb-false line from other) ∙ sym (ap (λ o. if o then Busy else others line) other)

  pub seen_same : state_for_caller from states ≡ state_for_caller from others
  seen_same = λ i line. seen_alike line i

pub decided_by_the_others : {A : Type 0} (tables : Tables) (states others : ℕ → LineState) (from : ℕ) (block : Block A) (verdict : Verdict A)
    → Decided tables states from block verdict → ((line : ℕ) → line ≢ from → states line ≡ others line)
    → Decided tables others from block verdict
decided_by_the_others tables states others from block verdict (decided.not_asked refusal may_not is) agree =
    decided.not_asked refusal may_not is
decided_by_the_others tables states others from block verdict (decided.not_reached request refusal asks reaches is) agree =
    let P : (ℕ → LineState) → Type 0 = λ seen. Reaches tables seen (wanted_of request) block.called (Err refusal) in
    decided.not_reached request refusal asks (subst P (seen_same from states others agree) reaches) is
decided_by_the_others tables states others from block verdict (decided.reached request end asks reaches is) agree =
    let P : (ℕ → LineState) → Type 0 = λ seen. Reaches tables seen (wanted_of request) block.called (Ok end) in
    decided.reached request end asks (subst P (seen_same from states others agree) reaches) is
