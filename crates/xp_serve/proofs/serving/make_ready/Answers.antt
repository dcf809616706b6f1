use Rattle.std.proofs.Common.{arith, subst, sym}
use Rattle.xp_lock.specs.Opening.{AreFirst}
use Rattle.xp_subs.specs.Tables.{line_count}
use Rattle.xp_serve.proofs.serving.make_ready.Goals as goal

pub returns : goal.returns
returns g c =
    let first = c.in_ok-exchange.ensures.passes.count in
    let all = c.in_ok-exchange.passes.ok.0 in
    let count = c.len.ensures in
    let also = c.len-2.ensures in
    let room = c.in_ok-room.ensures in
    let reasons = c.in_ok-room_of_reasons.ensures in
    let capacity = room.capacity in
    let other = reasons.capacity in
    record {
      passes = subst (AreFirst (line_count g.N.Name.subs)) (sym c.in_ok-threads.ensures.passes) c.in_ok-exchange.ensures.passes;
      recorder = c.in_ok-exchange.ensures.recorder;
      room = (room.items, omega (arith, first, all, count, capacity));
      room_of_reasons = (reasons.items, omega (arith, first, all, also, other));
    }
