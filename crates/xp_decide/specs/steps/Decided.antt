-- The outcome of a call request as the private functions return it: an incoming call, or the fault. Any idle line may
-- ring.
use Rattle.std.specs.Prelude.{ℕ, Result, Ok, Err}
use Rattle.xp_hunt.specs.declared.lines.LineState.{LineState}
use Rattle.xp_packets.specs.declared.block.Block.{Block}
use Rattle.xp_subs.specs.Tables.{Tables}
use Rattle.xp_decide.specs.declared.fault.CallFault.{CallFault}
use Rattle.xp_decide.specs.declared.fault.CallFault.TheVariants as faults
use Rattle.xp_decide.specs.declared.verdict.IncomingCall.{IncomingCall}
use Rattle.xp_decide.specs.declared.verdict.Verdict.TheVariants.{Take, Refuse}
use Rattle.xp_decide.specs.Decided.{Decided}

module _ {A : Type 0} where
  -- the same as `Decided`, with the incoming call as the result and the refusal as an error
  abbrev pub PutsThrough : Tables → (ℕ → LineState) → ℕ → Block A → Result (IncomingCall A) CallFault → Type 0
  PutsThrough tables states from block (Ok ring) = Decided tables states from block (Take ring)
  PutsThrough tables states from block (Err (faults.Refused refusal)) = Decided tables states from block (Refuse refusal)
  PutsThrough tables states from block (Err faults.Memory) = Unit {0}
