use Rattle.std.proofs.Common.{refl, subst, sym, rules, ap}
use Rattle.xp_writing.proofs.Bytes.{PutSoFar, put_nothing, put_more, put_kept, put_all}
use Rattle.xp_writing.proofs.writing.write_out.Goals as goal
use Rattle.xp_writing.proofs.writing.write_out.Goals.{in-Ok, in-Err+else-ne}

pub loop-init : goal.loop-init
loop-init g c = put_nothing _ _

pub returns-then-is_empty : goal.returns-then-is_empty
returns-then-is_empty g c = put_all _ _ _ _ c.loop.invariant (search rules)

pub returns-in-Ok-eq0 : goal.returns-in-Ok-eq0
returns-in-Ok-eq0 g c =
    let more = put_more _ _ _ _ _ _ _ c.loop.invariant c.in-Ok-eq0.ensures.bound c.in-Ok-eq0.ensures.bytes refl in
    (more.count, more.puts)

pub returns-then-ne : goal.returns-then-ne
returns-then-ne g c =
    let kept = put_kept _ _ _ _ _ c.loop.invariant c.in-Err.ensures.bytes in
    (kept.count, kept.puts)

pub loop-preserved : goal.loop-preserved
loop-preserved g c = elim c.match-write.branch [
  | in-Ok w ↦ put_more _ _ _ _ _ _ _ c.loop.invariant w.in-Ok.ensures.bound w.in-Ok.ensures.bytes (ap (λ rest. rest.now) w.rest-is)
  | in-Err+else-ne w ↦ subst (λ rest. PutSoFar c.args.text.now rest.now (g.W.Write.contents c.args.writer.now) (g.W.Write.contents c.write.new.self)) (sym w.rest-is) (put_kept _ _ _ _ _ c.loop.invariant w.in-Err.ensures.bytes)
]

pub returns : goal.returns
returns g c = (c.loop.invariant.count, c.loop.invariant.puts)
