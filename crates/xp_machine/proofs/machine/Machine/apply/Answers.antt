use Rattle.std.proofs.Common.{◌≡◌, ℕ, None, ap, subst, sym, ◌∙◌}
use Rattle.slab.specs.Slab.{HasRoomFor}
use Rattle.xp_machine.specs.steps.StoredState.{places_for}
use Rattle.xp_machine.specs.StoredState.{stored_world}
use Rattle.xp_machine.specs.AppliedChange.{freed_if_any}
use Rattle.xp_machine.specs.World.{World, call_numbered}
use Rattle.xp_machine.proofs.Kept.{HasConnections, connections_freed, fresh_freed, roomy_kept}
use Rattle.xp_machine.proofs.machine.Machine.apply.Goals as goal

pub make_if_any-requires-clause-room : goal.make_if_any-requires-clause-room
make_if_any-requires-clause-room g c =
    let P : ℕ → Type 0 = λ n. HasRoomFor c.reserve.new.self n in
    c.free_if_any.ensures.room (places_for c.args.change) (subst P c.places.ensures c.in_ok-reserve.ensures.room)

pub make_if_any-requires-clause-fresh : goal.make_if_any-requires-clause-fresh
make_if_any-requires-clause-fresh g c =
    let freed : stored_world c.free_if_any.new.lines.items c.free_if_any.new.calls c.self.inside.next ≡ freed_if_any c.args.cancelled c.args.self.now =
    c.free_if_any.ensures.freed c.self.inside.next
    ∙ ap (freed_if_any c.args.cancelled)
    (roomy_kept c.self.inside.lines.items c.self.inside.calls c.reserve.new.self c.self.inside.next c.reserve.ensures.rest_kept ∙ c.self.view_is) in
    let P : World → Type 0 = λ w. call_numbered w w.next ≡ None in
    subst P (sym freed) (fresh_freed c.args.self.now c.args.cancelled c.requires.fresh)

pub make_if_any-requires-clause-connection : goal.make_if_any-requires-clause-connection
make_if_any-requires-clause-connection g c =
    let freed : stored_world c.free_if_any.new.lines.items c.free_if_any.new.calls c.self.inside.next ≡ freed_if_any c.args.cancelled c.args.self.now =
    c.free_if_any.ensures.freed c.self.inside.next
    ∙ ap (freed_if_any c.args.cancelled)
    (roomy_kept c.self.inside.lines.items c.self.inside.calls c.reserve.new.self c.self.inside.next c.reserve.ensures.rest_kept ∙ c.self.view_is) in
    let P : World → Type 0 = λ w. HasConnections w in
    subst P (sym freed) (connections_freed c.args.self.now c.args.cancelled c.requires.connection)
