-- How a call request is decided.
use Rattle.std.specs.Prelude.{◌≡◌, ℕ, Bool, true, false, codes, List, ◌++◌, Result, Ok, Err}
use Rattle.std.specs.String.{string_bytes}
use Rattle.std.specs.declared.alloc.Global.{Global}
use Rattle.xp_causes.specs.declared.refusal.Refusal.{Refusal}
use Rattle.xp_decide.specs.Asks.{Asks, MayNotAsk, wanted_of}
use Rattle.xp_decide.specs.Decided.{Decided}
use Rattle.xp_decide.specs.LinesForCaller.{state_for_caller}
use Rattle.xp_decide.specs.declared.verdict.Verdict.{Verdict}
use Rattle.xp_decide.specs.declared.verdict.Verdict.TheVariants.{Take, Refuse}
use Rattle.xp_explain.specs.Rules.{TellsRule}
use Rattle.xp_explain.specs.Way.{IsWay}
use Rattle.xp_explain.specs.declared.explanation.Asked.{Asked}
use Rattle.xp_explain.specs.declared.explanation.Explanation.{Explanation}
use Rattle.xp_explain.specs.declared.explanation.Reasons.{Reasons}
use Rattle.xp_hunt.specs.declared.lines.LineState.{LineState}
use Rattle.xp_packets.specs.declared.block.Block.{Block}
use Rattle.xp_subs.specs.Tables.{Tables, line_at}
use Rattle.xp_words.specs.Causes.{cause_text, diagnostic_text}
use Rattle.xp_words.specs.Names.{clearing_causes}

-- what the rules for the caller found: the first reason to refuse, or the request, with the way of the call from the dialled
-- address
abbrev pub TellsAsked : Tables → (ℕ → LineState) → ℕ → Block Global → Result Asked Refusal → Type 0
TellsAsked tables states from block (Err refusal) = MayNotAsk tables from block refusal
TellsAsked tables states from block (Ok asked) =
    Asks tables from block asked.request
    × IsWay tables (state_for_caller from states) (wanted_of asked.request) block.called asked.way

-- `line b1 rings`, or `refused: cause 01 number busy, diagnostic 71 no logical channel available`
abbrev pub verdict_text : Tables → Verdict Global → List ℕ
verdict_text tables (Take ring) = codes "line " ++ (line_at tables ring.line).name ++ codes " rings"
verdict_text tables (Refuse refusal) =
    codes "refused: cause " ++ cause_text clearing_causes refusal.cause ++ codes ", diagnostic " ++ diagnostic_text refusal.diagnostic

-- the decision is to refuse
abbrev pub is_refusal : Verdict Global → Bool
is_refusal (Take ring) = false
is_refusal (Refuse refusal) = true

-- the text ends with the decision
abbrev pub EndsWithVerdict : Tables → Verdict Global → List ℕ → Type 0
EndsWithVerdict tables verdict text = (reasons : List ℕ) × (text ≡ reasons ++ (verdict_text tables verdict ++ codes "\n"))

pub record AreReasons (tables : Tables) (states : ℕ → LineState) (from : ℕ) (block : Block Global) (reasons : Reasons) : Type 0 where
  pub asked : TellsAsked tables states from block reasons.asked
  -- the rule that refuses, by the definition's own reason
  pub refused_by : TellsRule tables (state_for_caller from states) from block reasons.asked reasons.refused_by

pub record Explains (tables : Tables) (states : ℕ → LineState) (from : ℕ) (block : Block Global) (told : Explanation) : Type 0 where
  pub verdict : Decided tables states from block told.verdict
  pub reasons : AreReasons tables states from block told.reasons
  pub text : EndsWithVerdict tables told.verdict (string_bytes told.text)
