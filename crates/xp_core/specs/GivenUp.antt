-- A stall gives a line up.
use Rattle.std.specs.Prelude.{◌≡◌, ℕ, true, None, List}
use Rattle.xp_subs.specs.Tables.{Tables}
use Rattle.xp_step.specs.declared.entry.Entry.{Entry}
use Rattle.xp_step.specs.declared.event.What.TheVariants.{Stall}
use Rattle.xp_step.specs.Run.{Run}
use Rattle.xp_step.specs.Step.{Step}
use Rattle.xp_machine.specs.Channel.{is_off}
use Rattle.xp_machine.specs.World.{World, call_on, state_at}

pub record GivesUp {A : Type 0} (world : World) (entry : Entry A) (next : World) : Type 0 where
  -- its line is out of service
  pub out : is_off (state_at next entry.event.line) ≡ true
  -- no line comes into service, and none into a call
  pub still_out : (line : ℕ) → is_off (state_at world line) ≡ true → is_off (state_at next line) ≡ true
  pub still_free : (line : ℕ) → call_on world line ≡ None → call_on next line ≡ None

-- by each stall in a state that a history leads to
abbrev pub StallsGiveUp : Type 0 → Type 0
StallsGiveUp A =
    (tables : Tables) (history : List (Entry A)) (world : World) (entry : Entry A) (next : World)
    → Run tables history world → Step tables history world entry next → entry.event.what ≡ Stall → GivesUp world entry next
