-- The outcome of a call request. Several outcomes are permitted if several lines are idle: any of them may ring.
use Rattle.std.specs.Prelude.{◌≡◌, ℕ, Ok, Err}
use Rattle.xp_causes.specs.declared.refusal.Refusal.{Refusal}
use Rattle.xp_hunt.specs.declared.lines.LineState.{LineState}
use Rattle.xp_packets.specs.declared.block.Block.{Block}
use Rattle.xp_subs.specs.Tables.{Tables, modulus_of}
use Rattle.xp_decide.specs.Asks.{Asks, MayNotAsk, wanted_of}
use Rattle.xp_decide.specs.IncomingCalls.{incoming_call_of}
use Rattle.xp_decide.specs.Routes.{Reaches}
use Rattle.xp_decide.specs.LinesForCaller.{state_for_caller}
use Rattle.xp_decide.specs.declared.request.Request.{Request}
use Rattle.xp_decide.specs.declared.route.Destination.{Destination}
use Rattle.xp_decide.specs.declared.verdict.IncomingCall.{IncomingCall}
use Rattle.xp_decide.specs.declared.verdict.Verdict.{Verdict}
use Rattle.xp_decide.specs.declared.verdict.Verdict.TheVariants.{Take, Refuse}

module _ {A : Type 0} where
  pub data Decided (tables : Tables) (states : ℕ → LineState) (from : ℕ) (block : Block A) (verdict : Verdict A) : Type 0 where
    -- the caller may not make this call request
    not_asked : (refusal : Refusal) → MayNotAsk tables from block refusal
        → verdict ≡ Refuse refusal → Decided tables states from block verdict
    -- the call reaches no line
    not_reached : (request : Request A) (refusal : Refusal) → Asks tables from block request
        → Reaches tables (state_for_caller from states) (wanted_of request) block.called (Err refusal)
        → verdict ≡ Refuse refusal → Decided tables states from block verdict
    -- the call reaches a line that takes it, and is told what its modulus permits
    reached : (request : Request A) (end : Destination) → Asks tables from block request
        → Reaches tables (state_for_caller from states) (wanted_of request) block.called (Ok end)
        → verdict ≡ Take (incoming_call_of (modulus_of tables end.line) request.asked end block.called) → Decided tables states from block verdict

  -- a property of the line that rings, and one of the refusal
  abbrev pub IfTaken : Verdict A → (IncomingCall A → Type 0) → Type 0
  IfTaken (Take ring) holds = holds ring
  IfTaken (Refuse refusal) holds = Unit {0}

  abbrev pub IfRefused : Verdict A → (Refusal → Type 0) → Type 0
  IfRefused (Take ring) holds = Unit {0}
  IfRefused (Refuse refusal) holds = holds refusal
