use Rattle.std.proofs.Common.{List, ◌∷◌, ap, arith, length, subst, sym}
use Rattle.xp_outbox.specs.Ends.{Putting}
use Rattle.xp_step.specs.declared.output.Outgoing.{Outgoing}
use Rattle.xp_step.specs.declared.output.Output.{Output}
use Rattle.xp_lock.specs.steps.Outboxes.{HasRoomFor, IsPut}
use Rattle.xp_lock.proofs.Putting.{put_none, put_rest, room_first, room_rest}
use Rattle.xp_lock.proofs.outboxes.put_all.Goals as goal

pub loop-output-init : goal.loop-output-init
loop-output-init g c = record { room = c.requires; put = λ after put. put }

pub put_one-requires : goal.put_one-requires
put_one-requires g c =
    let P : List (Output _) → Type 0 = λ xs. HasRoomFor xs c.loop-output.outboxes.items in
    room_first c.in-Some.output c.take_first.new.self c.loop-output.outboxes.items (subst P c.in-Some.ensures.some c.loop-output.invariant.room)

pub loop-output-preserved : goal.loop-output-preserved
loop-output-preserved g c =
    let was = c.loop-output.invariant in
    let outboxes = c.loop-output.outboxes.items in
    let rest = c.take_first.new.self in
    let items = c.in-Some.ensures.some in
    let Fits : List (Output _) → Type 0 = λ xs. HasRoomFor xs outboxes in
    let room : HasRoomFor (c.in-Some.output ∷ rest) outboxes = subst Fits items was.room in
    let Room : List (Putting (Outgoing _)) → Type 0 = λ bs. HasRoomFor rest bs in
    let set = c.put_one.ensures in
    record {
      room = subst Room (sym set) (room_rest c.in-Some.output rest outboxes room);
      put = λ after put.
          let Put : List (Putting (Outgoing _)) → Type 0 = λ bs. IsPut rest bs after in
          let All : List (Output _) → Type 0 = λ xs. IsPut xs outboxes after in
          was.put after (subst All (sym items) (put_rest c.in-Some.output rest outboxes room after (subst Put set put)));
    }

pub loop-output-smaller : goal.loop-output-smaller
loop-output-smaller g c = let items = ap length c.in-Some.ensures.some in omega (arith, items)

pub returns : goal.returns
returns g c =
    let outboxes = c.loop-output.outboxes.items in
    let All : List (Output _) → Type 0 = λ xs. IsPut xs outboxes outboxes in
    c.loop-output.invariant.put outboxes (subst All (sym c.in_default.ensures.none) (put_none outboxes))
