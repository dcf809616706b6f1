-- The states in which the table has an action.
use Rattle.std.proofs.Common.{◌≡◌, ℕ, None, refl}
use Rattle.xp_channel.specs.declared.action.Action.{Action}
use Rattle.xp_channel.specs.declared.action.Action.TheVariants.{Nothing, Rise, Fall, NewCall, Collision, Answer, Confirm, Free, Error, Relayed, Expired}
use Rattle.xp_channel.specs.declared.kind.EventKind.{EventKind}
use Rattle.xp_channel.specs.declared.kind.EventKind.TheVariants as kinds
use Rattle.xp_channel.specs.Table.{cell}
use Rattle.xp_channel.specs.Kinds.{kind_of as packet_kind, kind_of_malformed}
use Rattle.xp_step.specs.declared.event.What.{What}
use Rattle.xp_step.specs.declared.event.What.TheVariants as events
use Rattle.xp_step.specs.Table.{action_in}
use Rattle.xp_machine.specs.Channel.{State, Off, Ready, Waiting, Ringing, Talking, Cleared, call_of, channel_of}

abbrev pub Suits : Action → State → Type 0
Suits Rise state = call_of state ≡ None
Suits Free state = call_of state ≡ None
Suits NewCall state = state ≡ Ready
Suits Collision state = (number : ℕ) × (state ≡ Ringing number)
Suits Answer state = (number : ℕ) × (state ≡ Ringing number)
Suits Nothing state = Unit {0}
Suits Fall state = Unit {0}
Suits Confirm state = Unit {0}
Suits (Error diagnostic) state = Unit {0}
Suits Relayed state = Unit {0}
Suits Expired state = Unit {0}

suits : (state : State) (kind : EventKind) → Suits (cell (channel_of state) kind) state
suits Off kinds.Up = refl
suits Off kinds.Down = tt
suits Off kinds.Call = tt
suits Off kinds.Accepted = tt
suits Off kinds.Clear = tt
suits Off kinds.ClearConfirm = tt
suits Off kinds.Relayed = tt
suits Off kinds.Expire = tt
suits Off (kinds.Malformed diagnostic) = tt
suits Ready kinds.Up = tt
suits Ready kinds.Down = tt
suits Ready kinds.Call = refl
suits Ready kinds.Accepted = tt
suits Ready kinds.Clear = tt
suits Ready kinds.ClearConfirm = tt
suits Ready kinds.Relayed = tt
suits Ready kinds.Expire = tt
suits Ready (kinds.Malformed diagnostic) = tt
suits (Waiting number) kinds.Up = tt
suits (Waiting number) kinds.Down = tt
suits (Waiting number) kinds.Call = tt
suits (Waiting number) kinds.Accepted = tt
suits (Waiting number) kinds.Clear = tt
suits (Waiting number) kinds.ClearConfirm = tt
suits (Waiting number) kinds.Relayed = tt
suits (Waiting number) kinds.Expire = tt
suits (Waiting number) (kinds.Malformed diagnostic) = tt
suits (Ringing number) kinds.Up = tt
suits (Ringing number) kinds.Down = tt
suits (Ringing number) kinds.Call = (number, refl)
suits (Ringing number) kinds.Accepted = (number, refl)
suits (Ringing number) kinds.Clear = tt
suits (Ringing number) kinds.ClearConfirm = tt
suits (Ringing number) kinds.Relayed = tt
suits (Ringing number) kinds.Expire = tt
suits (Ringing number) (kinds.Malformed diagnostic) = tt
suits (Talking number) kinds.Up = tt
suits (Talking number) kinds.Down = tt
suits (Talking number) kinds.Call = tt
suits (Talking number) kinds.Accepted = tt
suits (Talking number) kinds.Clear = tt
suits (Talking number) kinds.ClearConfirm = tt
suits (Talking number) kinds.Relayed = tt
suits (Talking number) kinds.Expire = tt
suits (Talking number) (kinds.Malformed diagnostic) = tt
suits Cleared kinds.Up = tt
suits Cleared kinds.Down = tt
suits Cleared kinds.Call = tt
suits Cleared kinds.Accepted = tt
suits Cleared kinds.Clear = refl
suits Cleared kinds.ClearConfirm = refl
suits Cleared kinds.Relayed = tt
suits Cleared kinds.Expire = tt
suits Cleared (kinds.Malformed diagnostic) = tt

-- and of an event
pub suits_in : {A : Type 0} (state : State) (what : What A) → Suits (action_in (channel_of state) what) state
suits_in state events.Up = suits state kinds.Up
suits_in state events.Down = suits state kinds.Down
suits_in state (events.Frame identifier packet) = suits state (packet_kind packet)
suits_in state (events.WrongFrame wrong) = suits state (kind_of_malformed wrong)
suits_in state events.Expire = suits state kinds.Expire
suits_in state events.Stall = suits state kinds.Down
suits_in state events.Reload = tt
