-- From a turn of two stored directions to a turn of the call.
use Rattle.std.proofs.Common.{◌≡◌, List, sym, subst}
use Rattle.xp_packets.specs.declared.end.End.{End}
use Rattle.xp_packets.specs.declared.end.End.TheVariants.{Caller, Called}
use Rattle.xp_relay.specs.declared.moves.Move.{Move}
use Rattle.xp_relay.specs.Coupled.{Coupled}
use Rattle.xp_relay.specs.StoredCoupled.{Follows, StoredDirections}
use Rattle.xp_relay.specs.Direction.{Direction}
use Rattle.xp_relay.specs.steps.StoredDirection.{RepresentsTurn}
use Rattle.xp_relay.specs.Turns.{Turn}

pub follows_caller : {A : Type 0} (here : End) → here ≡ Caller → (turn : Direction A → Direction A → Turn A) (call : Coupled A) (new : StoredDirections A) (made : List (Move A)) → RepresentsTurn new.from_caller new.from_called made (turn call.from_caller call.from_called) → Follows here turn call new made
follows_caller here is turn call new made h =
    let at_caller : Follows Caller turn call new made = record { shown = record { from_caller = h.sent; from_called = h.received }; moves = h.moves } in
    subst (λ end. Follows end turn call new made) (sym is) at_caller

pub follows_called : {A : Type 0} (here : End) → here ≡ Called → (turn : Direction A → Direction A → Turn A) (call : Coupled A) (new : StoredDirections A) (made : List (Move A)) → RepresentsTurn new.from_called new.from_caller made (turn call.from_called call.from_caller) → Follows here turn call new made
follows_called here is turn call new made h =
    let at_called : Follows Called turn call new made = record { shown = record { from_caller = h.received; from_called = h.sent }; moves = h.moves } in
    subst (λ end. Follows end turn call new made) (sym is) at_called
