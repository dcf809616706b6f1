use Rattle.std.proofs.Common.{◌∙◌, ◌+◌, ◌++◌, sym, ap, arith, length}
use Rattle.xp_packets.specs.Numbers.{numbers}
use Rattle.xp_relay.specs.Direction.{numbered}
use Rattle.xp_relay.proofs.Residues.{is_number, moved}
use Rattle.xp_relay.proofs.direction_state.putting.drained.Goals as goal

pub loop-carried-preserved : goal.loop-carried-preserved
loop-carried-preserved g c =
    let all = c.loop-carried.invariant.all in
    let items = c.in-Some.ensures.items in
    record {
      all = all;
      few = c.loop-carried.invariant.few;
      number = rw all (is_number c.args.modulus (c.loop-carried.next + 1));
      capacity = c.in-Some.ensures.capacity ∙ c.loop-carried.invariant.capacity;
      moves =
          rw (c.with-moves.ensures, c.numbered_move.ensures, all) (moved c.loop-carried.moves.moves c.args.side c.args.modulus c.args.pr c.loop-carried.next c.in-Some.carried c.pop_front.new.self.items c.loop-carried.invariant.number)
          ∙ ap (λ waiting. c.loop-carried.moves.moves ++ numbered c.args.side (numbers c.args.modulus) c.args.pr c.loop-carried.next waiting) (sym items)
          ∙ c.loop-carried.invariant.moves;
      room =
          let counted = ap length items in
          omega (arith, ap (λ made. made.room) c.with-moves.ensures, c.loop-carried.invariant.room);
    }
