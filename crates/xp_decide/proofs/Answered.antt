-- What a decision is, once the way is gone.
use Rattle.std.proofs.Common.{◌≡◌, ◌∙◌, ℕ, Result, Ok, Err, ap, subst}
use Rattle.xp_causes.specs.declared.refusal.Refusal.{Refusal}
use Rattle.xp_hunt.specs.declared.lines.LineState.{LineState}
use Rattle.xp_packets.specs.declared.block.Block.{Block}
use Rattle.xp_packets.specs.declared.modulus.Modulus.{Modulus}
use Rattle.xp_subs.specs.Tables.{Tables, modulus_of}
use Rattle.xp_decide.specs.Asks.{Asks, wanted_of}
use Rattle.xp_decide.specs.Asks.{Opens}
use Rattle.xp_decide.specs.Decided.{Decided}
use Rattle.xp_decide.specs.steps.Decided.{PutsThrough}
use Rattle.xp_decide.specs.Decided as decided
use Rattle.xp_decide.specs.IncomingCalls.{incoming_call_of}
use Rattle.xp_decide.specs.Routes.{Reaches}
use Rattle.xp_decide.specs.LinesForCaller.{state_for_caller}
use Rattle.xp_decide.specs.declared.acceptance.Wanted.{Wanted}
use Rattle.xp_decide.specs.declared.fault.CallFault.{CallFault}
use Rattle.xp_decide.specs.declared.fault.CallFault.TheVariants as faults
use Rattle.xp_decide.specs.declared.request.Request.{Request}
use Rattle.xp_decide.specs.declared.route.Destination.{Destination}
use Rattle.xp_decide.specs.declared.verdict.IncomingCall.{IncomingCall}
use Rattle.xp_decide.specs.declared.verdict.Verdict.TheVariants.{Take, Refuse}
use Rattle.std.proofs.Common.{refl}

-- a request that is refused before any address is looked at
pub stops : {A : Type 0} (tables : Tables) (states : ℕ → LineState) (from : ℕ) (block : Block A) (fault : CallFault)
    → Opens tables from block (Err fault) → PutsThrough tables states from block (Err fault)
stops tables states from block (faults.Refused refusal) may_not_ask = decided.not_asked refusal may_not_ask refl
stops tables states from block faults.Memory _ = record {}

module _ {A : Type 0} (tables : Tables) (states : ℕ → LineState) (from : ℕ) (block : Block A) (request : Request A) (wanted : Wanted)
    (same : wanted ≡ wanted_of request) (asked : Asks tables from block request) where
  reaches : (result : Result Destination Refusal) → Reaches tables (state_for_caller from states) wanted block.called result
      → Reaches tables (state_for_caller from states) (wanted_of request) block.called result
  reaches result way =
      let P : Wanted → Type 0 = λ w. Reaches tables (state_for_caller from states) w block.called result in subst P same way

  pub takes : (end : Destination) (ring : IncomingCall A) (modulus : Modulus) → Reaches tables (state_for_caller from states) wanted block.called (Ok end)
      → modulus ≡ modulus_of tables end.line → ring ≡ incoming_call_of modulus request.asked end block.called
      → Decided tables states from block (Take ring)
  takes end ring modulus way numbered is =
      decided.reached request end asked (reaches (Ok end) way)
      (ap Take (is ∙ ap (λ m. incoming_call_of m request.asked end block.called) numbered))

  pub refuses : (refusal : Refusal) → Reaches tables (state_for_caller from states) wanted block.called (Err refusal)
      → Decided tables states from block (Refuse refusal)
  refuses refusal way = decided.not_reached request refusal asked (reaches (Err refusal) way) refl
