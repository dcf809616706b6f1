use Rattle.std.proofs.Common.{◌≡◌, ◌++◌, length, map}
use Rattle.std.specs.Vec.Iter.{into_iter_items, into_iter_len}
use Rattle.xp_serve.proofs.serving.thread_inputs.Given as goal

abbrev pub invariant-loop-pass : goal.invariant-loop-pass
invariant-loop-pass g l = record {
  many : length (into_iter_items l.pass-iterator) ≡ into_iter_len l.pass-iterator;
  many_ends : length (into_iter_items l.ends) ≡ into_iter_len l.ends;
  ends : into_iter_len l.ends ≡ into_iter_len l.pass-iterator;
  passes : map (λ part. part.pass) l.served.items ++ into_iter_items l.pass-iterator ≡ l.fn.passes.items;
  ports : map (λ part. part.port) l.served.items ++ map (λ end. end.port) (into_iter_items l.ends) ≡ l.fn.sockets;
}
