-- Laws of the decision on a call request.
use Rattle.std.specs.Prelude.{◌≡◌, ◌≢◌, ℕ, ◌<◌, ◌≤◌, List, length, None, Some, ◌⊎◌, Contains}
use Rattle.xp_causes.specs.Refusals.{call_refusals}
use Rattle.xp_groups.specs.MayJoin.{MayJoin}
use Rattle.xp_causes.specs.declared.refusal.Refusal.{Refusal}
use Rattle.xp_causes.specs.declared.refusal.TheConstants.Refusal.{OUT_OF_ORDER, NUMBER_BUSY}
use Rattle.xp_hunt.specs.Picks.{HasNoneIdle}
use Rattle.xp_hunt.specs.declared.lines.LineState.{LineState}
use Rattle.xp_hunt.specs.declared.lines.LineState.TheVariants.{Idle}
use Rattle.xp_packets.specs.declared.block.Block.{Block}
use Rattle.xp_subs.specs.Sound.{IsSound}
use Rattle.xp_subs.specs.Tables.{Tables, line_count, modulus_of}
use Rattle.xp_decide.specs.Asks.{station_of_line, Asks, wanted_of}
use Rattle.xp_decide.specs.Decided.{Decided}
use Rattle.xp_decide.specs.Indicated.{IndicatesSizesForBoth}
use Rattle.xp_decide.specs.Routes.{Place, place_at, Hop, Follows, IsLast}
use Rattle.xp_decide.specs.LinesForCaller.{state_for_caller}
use Rattle.xp_decide.specs.Written.{CanBeWritten}
use Rattle.xp_decide.specs.declared.request.Request.{Request}
use Rattle.xp_decide.specs.declared.verdict.IncomingCall.{IncomingCall}
use Rattle.xp_decide.specs.declared.verdict.Verdict.{Verdict}
use Rattle.xp_decide.specs.declared.verdict.Verdict.TheVariants.{Take, Refuse}

-- closed user groups permit the station of the line that rings to be joined with the caller's
abbrev pub TakenMayJoin : Type 0 → Type 0
TakenMayJoin A = (tables : Tables) (states : ℕ → LineState) (from : ℕ) (block : Block A) (ring : IncomingCall A)
    → IsSound tables → Decided tables states from block (Take ring)
    → MayJoin (station_of_line tables from) (station_of_line tables ring.line)

-- the line is in service, has no call and is not the caller's
pub record IsFree (tables : Tables) (states : ℕ → LineState) (from line : ℕ) : Type 0 where
  pub known : line < line_count tables
  pub idle : states line ≡ Idle
  pub others : line ≢ from

-- the line that rings is free
abbrev pub TakenIsFree : Type 0 → Type 0
TakenIsFree A =
    (tables : Tables) (states : ℕ → LineState) (from : ℕ) (block : Block A) (ring : IncomingCall A)
    → IsSound tables → Decided tables states from block (Take ring)
    → IsFree tables states from ring.line

-- The facilities for the line that rings can be written. The premise of at most 15 dialled digits holds by the type
-- of an address.
abbrev pub ToldCanBeWritten : Type 0 → Type 0
ToldCanBeWritten A =
    (tables : Tables) (states : ℕ → LineState) (from : ℕ) (block : Block A) (ring : IncomingCall A)
    → IsSound tables → length block.called ≤ 15 → Decided tables states from block (Take ring)
    → CanBeWritten ring.told

-- the line that rings receives packet and window sizes that it and the caller's line may have
abbrev pub ToldSizesAreIndicated : Type 0 → Type 0
ToldSizesAreIndicated A =
    (tables : Tables) (states : ℕ → LineState) (from : ℕ) (block : Block A) (ring : IncomingCall A)
    → Decided tables states from block (Take ring) → IndicatesSizesForBoth tables from ring

-- a refusal is one of the refusals of call requests
abbrev pub RefusalsAreKnown : Type 0 → Type 0
RefusalsAreKnown A =
    (tables : Tables) (states : ℕ → LineState) (from : ℕ) (block : Block A) (refusal : Refusal)
    → Decided tables states from block (Refuse refusal) → Contains call_refusals refusal

-- the refusals for the lack of an idle line
abbrev pub IsWantOfLine : Refusal → Type 0
IsWantOfLine refusal = (refusal ≡ OUT_OF_ORDER) ⊎ (refusal ≡ NUMBER_BUSY)

-- the call followed its redirections to the last address, which has no idle line
pub record EndsWithoutLine {A : Type 0} (tables : Tables) (states : ℕ → LineState) (from : ℕ) (block : Block A) : Type 0 where
  pub request : Request A
  pub asked : Asks tables from block request
  pub hops : List Hop
  pub last : List ℕ
  pub follows : Follows tables (state_for_caller from states) (wanted_of request) block.called hops last
  pub few : length hops ≤ 4
  pub ends : IsLast tables (state_for_caller from states) (wanted_of request) last
  pub place : Place
  pub known : place_at tables last ≡ Some place
  pub none_idle : HasNoneIdle (state_for_caller from states) place.lines

abbrev pub RefusesWithoutIdleLine : Type 0 → Type 0
RefusesWithoutIdleLine A = (tables : Tables) (states : ℕ → LineState) (from : ℕ) (block : Block A) (refusal : Refusal)
    → Decided tables states from block (Refuse refusal) → IsWantOfLine refusal
    → EndsWithoutLine tables states from block

-- The same outcome, except for the line that rings. What it is told is the same but for the windows, and the windows are
-- the same for lines with the same modulus.
pub record IsSameRing {A : Type 0} (tables : Tables) (one other : IncomingCall A) : Type 0 where
  pub told : modulus_of tables one.line ≡ modulus_of tables other.line → one.told ≡ other.told
  pub told_besides : record one.told { window = None } ≡ record other.told { window = None }
  pub asked : one.asked ≡ other.asked
  pub reason : one.reason ≡ other.reason

abbrev pub IsSameButLine : {A : Type 0} → Tables → Verdict A → Verdict A → Type 0
IsSameButLine tables (Take one) (Take other) = IsSameRing tables one other
IsSameButLine tables (Refuse one) (Refuse other) = one ≡ other
IsSameButLine tables (Take one) (Refuse other) = ⊥
IsSameButLine tables (Refuse one) (Take other) = ⊥

-- a call request has only one outcome, except for the line that rings
abbrev pub IsDeterminedButLine : Type 0 → Type 0
IsDeterminedButLine A =
    (tables : Tables) (states : ℕ → LineState) (from : ℕ) (block : Block A) (one other : Verdict A)
    → Decided tables states from block one → Decided tables states from block other → IsSameButLine tables one other

-- a verdict that the rules permit
pub record HasVerdict {A : Type 0} (tables : Tables) (states : ℕ → LineState) (from : ℕ) (block : Block A) : Type 0 where
  pub verdict : Verdict A
  pub decided : Decided tables states from block verdict

-- every call request has an outcome
abbrev pub EveryRequestIsDecided : Type 0 → Type 0
EveryRequestIsDecided A =
    (tables : Tables) (states : ℕ → LineState) (from : ℕ) (block : Block A) → HasVerdict tables states from block

-- the state of the caller's own line does not matter
abbrev pub DecisionIsByOtherLines : Type 0 → Type 0
DecisionIsByOtherLines A =
    (tables : Tables) (states others : ℕ → LineState) (from : ℕ) (block : Block A) (verdict : Verdict A)
    → Decided tables states from block verdict → ((line : ℕ) → line ≢ from → states line ≡ others line)
    → Decided tables others from block verdict
