use Rattle.std.proofs.Common.{◌++◌, ap, map, sym, ◌∙◌}
use Rattle.std.specs.declared.alloc.Global.{Global as Alloc}
use Rattle.xp_seats.specs.Recording.{Recording}
use Rattle.xp_serve.proofs.Passes.{were_served, were_stopped}
use Rattle.xp_serve.proofs.serving.serve_named.Goals as goal

pub serve_with_door-requires-clause-received : goal.serve_with_door-requires-clause-received
serve_with_door-requires-clause-received g c κs within = c.requires.received ∙ sym (ap (λ (r : Recording Alloc). r.received) c.in-Ok.ensures.recorder)

pub close-requires-clause-served : goal.close-requires-clause-served
close-requires-clause-served g c =
    were_served g.N.Name.subs _ (map (λ line. line.pass) c.in-Ok.ready.threads.lines.lines.items) (map (λ end. end.pass) c.in-Ok-serve_with_door.lines.ends.items)
    c.in-Ok.ensures.passes c.in-Ok-serve_with_door.ensures.served

pub close-requires-clause-stopped : goal.close-requires-clause-stopped
close-requires-clause-stopped g c =
    were_stopped g.N.Name.subs _ (map (λ line. line.pass) c.in-Ok.ready.threads.lines.lines.items) c.in-Ok-serve_with_door.lines.ends.items
    c.in-Ok.ensures.passes c.in-Ok-serve_with_door.ensures.served c.in-Ok-serve_with_door.ensures.stopped

pub returns-in-Ok-serve_with_door-clause-received : goal.returns-in-Ok-serve_with_door-clause-received
returns-in-Ok-serve_with_door-clause-received g c =
    let received = g.S.RecordSink.received in
    let hands = c.in-Ok-serve_with_door.ensures.recorded in
    let given = c.close.ensures.given ∙ hands.taken ∙ ap (λ (r : Recording Alloc). r.received ++ hands.more) c.in-Ok.ensures.recorder in
    ap received c.close.ensures.sink ∙ hands.given ∙ ap (λ more. received c.args.sink ++ more) (sym given)
