-- A line that a call is put to exists, is ready, and is not the caller's.
use Rattle.std.proofs.Common.{arith, ◌≡◌, ◌≢◌, ℕ, ◌<◌, eq-eqb, List, Ok, length}
use Rattle.std.proofs.lemmas.Bool.{cases_lt}
use Rattle.std.proofs.lemmas.List.{get_or_past}
use Rattle.xp_decide.specs.Decided.{Decided}
use Rattle.xp_decide.specs.Routes.{Reaches}
use Rattle.xp_decide.specs.LinesForCaller.{state_for_caller}
use Rattle.xp_decide.specs.declared.acceptance.Wanted.{Wanted}
use Rattle.xp_decide.specs.declared.route.Destination.{Destination}
use Rattle.xp_decide.specs.declared.verdict.IncomingCall.{IncomingCall}
use Rattle.xp_decide.specs.declared.verdict.Verdict.TheVariants.{Take}
use Rattle.xp_hunt.specs.declared.lines.LineState.{LineState}
use Rattle.xp_hunt.specs.declared.lines.LineState.TheVariants.{Idle}
use Rattle.xp_packets.specs.declared.block.Block.{Block}
use Rattle.xp_subs.specs.Tables.{Tables}
use Rattle.xp_machine.specs.World.{line_states, World, state_at}
use Rattle.xp_machine.specs.Channel.{State, Ready, line_state_of}

-- a line that counts as idle is idle, and not the caller's
seen_idle : (caller : ℕ) (states : ℕ → LineState) (line : ℕ) → state_for_caller caller states line ≡ Idle → (states line ≡ Idle) × (caller ≢ line)
seen_idle caller states line idle = grind (arith, eq-eqb)

module _ {A : Type 0} (tables : Tables) (states : ℕ → LineState) (from : ℕ) (block : Block A) (ring : IncomingCall A) where
  reached_idle : (wanted : Wanted) (dialled : List ℕ) (end : Destination) → Reaches tables (state_for_caller from states) wanted dialled (Ok end)
      → state_for_caller from states end.line ≡ Idle
  reached_idle wanted dialled end one = grind arith

  taken_idle : Decided tables states from block (Take ring) → state_for_caller from states ring.line ≡ Idle
  taken_idle one = grind (arith, reached_idle)

ready_of : (state : State) → line_state_of state ≡ Idle → state ≡ Ready
ready_of state is = grind arith

ready_within : (world : World) (line : ℕ) → state_at world line ≡ Ready → line < length world.lines
ready_within world line ready = grind (arith, cases_lt, get_or_past)

pub record IsReadyFor (world : World) (caller line : ℕ) : Type 0 where
  pub ready : state_at world line ≡ Ready
  pub within : line < length world.lines
  pub differ : caller ≢ line

pub taken_ready : {A : Type 0} (tables : Tables) (world : World) (caller : ℕ) (block : Block A) (ring : IncomingCall A)
    → Decided tables (line_states world) caller block (Take ring) → IsReadyFor world caller ring.line
taken_ready tables world caller block ring taken = grind (arith, ready_of, ready_within, seen_idle, taken_idle)
