use Rattle.std.proofs.Common.{◌∙◌, ap, arith, length, sym}
use Rattle.xp_lock.specs.Given.{is_among}
use Rattle.xp_lock.proofs.GivenLines.{room_for}
use Rattle.xp_lock.proofs.given.add_lines.Goals as goal

pub push-requires : goal.push-requires
push-requires g c =
    let output = c.output-item.result in
    let out = sym (c.is_there.ensures ∙ ap (is_among output.line) c.as_slice.ensures.value) ∙ c.if-not-is_there.true in
    let room = room_for c.loop-output.given.items c.args.outputs.now c.loop-output.output-index output c.loop-output-test.true c.output-item.is out in
    let same = ap length c.loop-output.invariant in
    let few = c.requires in
    (omega arith, omega (arith, room, same, few))
