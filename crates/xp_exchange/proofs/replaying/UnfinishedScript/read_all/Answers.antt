use Rattle.std.proofs.Common.{◌∙◌, ap, sym, subst, Err, IfSome, arith, take, refl, ℕ}
use Rattle.std.proofs.lemmas.List.{length-take-le, length-replicate}
use Rattle.std.proofs.lemmas.Result.{err_from_is_err_and}
use Rattle.xp_writing.proofs.Bytes.{keeps_itself}
use Rattle.xp_exchange.proofs.Script.{Told, read_none, read_more, read_kept, told_stops, told_unread, told_all}
use Rattle.xp_exchange.proofs.replaying.UnfinishedScript.read_all.Goals as goal
use Rattle.xp_exchange.proofs.replaying.UnfinishedScript.read_all.Goals.{in-Ok+in_ok-take-in-Ok, in-Err+else-ne}

pub loop-init : goal.loop-init
loop-init g c = (read_none c.args.self.now _ _, omega (arith, c.requires.number), length-replicate {A = ℕ} 4096 0, c.requires.line)

pub returns-in-Ok-eq0 : goal.returns-in-Ok-eq0
returns-in-Ok-eq0 g c =
    told_all c.args.self.now _ _ (g.R.Read.remaining c.read.new.self) c.loop.self c.finish.new.self _ _ _ _ c.finish.result c.loop.invariant.0 c.in-Ok-eq0.ensures.bytes.0
    (ap (λ n. take n c.read.new.buf) c.in-Ok-eq0.field-0-test)
    (c.in-Ok-eq0.ensures.bytes.1 c.in-Ok-eq0.field-0-test (omega (arith, c.read.auto.buf, c.loop.invariant.2))) c.finish.ensures.line c.finish.ensures.finished

pub returns-in_err-take-in-Ok : goal.returns-in_err-take-in-Ok
returns-in_err-take-in-Ok g c =
    let p = err_from_is_err_and c.from_residual.result c.from_residual.ensures.1 in
    subst (λ result. IfSome (g.R.Read.remaining c.args.reader.now) (Told c.args.self.now (g.W.Write.contents c.args.writer.now) (g.W.Write.contents c.take.new.writer) result (g.R.Read.remaining c.read.new.self) c.take.new.self.state.exchange))
    (sym (p.1 ∙ ap Err p.2))
    (told_stops c.args.self.now _ _ (g.R.Read.remaining c.read.new.self) c.loop.self c.take.new.self _ _ _ _ _ c.in_err-take-in-Ok.field-0.0 c.loop.invariant.0 c.in-Ok.ensures.bytes.0 refl c.in_err-take-in-Ok.ensures.took)

pub returns-then-ne : goal.returns-then-ne
returns-then-ne g c = told_unread c.args.self.now _ _ (g.R.Read.remaining c.read.new.self) c.loop.self _ _ c.loop.invariant.0 c.in-Err.ensures.bytes c.loop.invariant.3

pub loop-preserved : goal.loop-preserved
loop-preserved g c = elim c.match-read.branch [
  | in-Ok+in_ok-take-in-Ok w ↦ rw w.self-is
      (rw w.writer-is (
        read_more c.args.self.now _ _ (g.R.Read.remaining c.read.new.self) c.loop.self w.take.new.self _ _ _ _ _ c.loop.invariant.0 w.in-Ok.ensures.bytes.0 refl w.in_ok-take-in-Ok.ensures.took,
        omega (arith, w.in_ok-take-in-Ok.ensures.number, length-take-le w.in-Ok.count c.read.new.buf w.in-Ok.ensures.bound.0, w.in-Ok.ensures.bound.0, c.read.auto.buf, c.loop.invariant.2, c.loop.invariant.1),
        c.read.auto.buf ∙ c.loop.invariant.2,
        w.in_ok-take-in-Ok.ensures.line,
      ))
  | in-Err+else-ne w ↦ rw w.self-is
      (rw w.writer-is (
        read_kept c.args.self.now _ _ (g.R.Read.remaining c.read.new.self) c.loop.self _ _ c.loop.invariant.0 w.in-Err.ensures.bytes,
        omega (arith, c.loop.invariant.1),
        c.read.auto.buf ∙ c.loop.invariant.2,
        c.loop.invariant.3,
      ))
]

pub returns : goal.returns
returns g c = told_unread c.args.self.now _ _ (g.R.Read.remaining c.loop.reader) c.loop.self _ _ c.loop.invariant.0 (keeps_itself _) c.loop.invariant.3
