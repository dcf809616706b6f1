use Rattle.std.proofs.Common.{Err, ◌++◌, ap, inl, inr, refl, sym, ◌∙◌}
use Rattle.xp_subs.specs.Tables.{line_count}
use Rattle.xp_listening.proofs.Accesses.{served_count}
use Rattle.xp_serve.proofs.Told.{early_line, host_told, no_sockets, same_told, wants_memory}
use Rattle.xp_serve.proofs.serving.serve.Goals as goal

pub returns-in-Err-clause-host : goal.returns-in-Err-clause-host
returns-in-Err-clause-host g c =
    host_told g.K.RecordKeeper.kept g.K.RecordSink.keeps c.args.subs c.args.keeper c.args.keeper (Err c.in-Err.failure) (λ none. same_told c.listen.result c.in-Err.failure c.in-Err.is (c.listen.ensures.host none)) (inl (refl, c.in-Err.ensures.wanting))

pub returns-in-Err-clause-serves : goal.returns-in-Err-clause-serves
returns-in-Err-clause-serves g c = inl (refl, c.in-Err.ensures.wanting)

pub serve_on-requires-clause-sockets : goal.serve_on-requires-clause-sockets
serve_on-requires-clause-sockets g c κs within = served_count c.args.subs c.args.subs.lines c.in-Ok.sockets c.in-Ok.ensures.accesses

pub serve_on-requires-clause-lines : goal.serve_on-requires-clause-lines
serve_on-requires-clause-lines g c κs within = g.met.K.RecordKeeper.has_lines c.args.keeper ∙ ap line_count c.requires.names

pub end-requires-clause-early_end : goal.end-requires-clause-early_end
end-requires-clause-early_end g c = early_line c.args.subs c.in-Ok-serve_on.recorded.served c.in-Ok-serve_on.ensures.served

pub end-requires-clause-lines : goal.end-requires-clause-lines
end-requires-clause-lines g c =
    let sink = c.in-Ok-serve_on.recorded.sink in
    g.met.K.RecordKeeper.keeps_lines c.args.keeper sink c.in-Ok-serve_on.ensures.keeps
    ∙ g.met.K.RecordKeeper.has_lines c.args.keeper
    ∙ ap line_count (c.requires.names ∙ sym c.in-Ok-serve_on.ensures.served.subs)

pub end-requires-clause-received : goal.end-requires-clause-received
end-requires-clause-received g c =
    c.in-Ok-serve_on.ensures.received ∙ ap (λ records. records ++ c.in-Ok-serve_on.recorded.served.book.given) c.requires.new

pub returns-in-Ok-serve_on-clause-serves : goal.returns-in-Ok-serve_on-clause-serves
returns-in-Ok-serve_on-clause-serves g c =
    let sink = c.in-Ok-serve_on.recorded.sink in
    let tells = c.end.ensures in
    inr (
      c.in-Ok-serve_on.recorded.served,
      c.in-Ok-serve_on.ensures.served,
      record {
        one_each = tells.one_each;
        keeping = tells.keeping;
        kept_is = tells.kept_is;
        keeps_on = g.met.K.RecordSink.keeps_on c.args.keeper sink c.end.result.keeper c.in-Ok-serve_on.ensures.keeps tells.keeps_on;
        told_is = tells.told_is;
      },
    )

pub returns-in-Ok-serve_on-clause-host : goal.returns-in-Ok-serve_on-clause-host
returns-in-Ok-serve_on-clause-host g c =
    let served = returns-in-Ok-serve_on-clause-serves g c in
    host_told g.K.RecordKeeper.kept g.K.RecordSink.keeps c.args.subs c.args.keeper c.end.result.keeper c.end.result.outcome (λ none. absurd (no_sockets c.listen.result c.in-Ok.sockets c.in-Ok.is (c.listen.ensures.host none))) served

pub returns-in-Err-serve_on-clause-host : goal.returns-in-Err-serve_on-clause-host
returns-in-Err-serve_on-clause-host g c =
    host_told g.K.RecordKeeper.kept g.K.RecordSink.keeps c.args.subs c.args.keeper c.in-Err-serve_on.fault.sink _ (λ none. absurd (no_sockets c.listen.result c.in-Ok.sockets c.in-Ok.is (c.listen.ensures.host none)))
    (wants_memory g.K.RecordKeeper.kept g.K.RecordSink.keeps c.args.subs c.args.keeper c.in-Err-serve_on.fault.sink c.in-Err-serve_on.ensures.err)

pub returns-in-Err-serve_on-clause-serves : goal.returns-in-Err-serve_on-clause-serves
returns-in-Err-serve_on-clause-serves g c = wants_memory _ _ c.args.subs c.args.keeper c.in-Err-serve_on.fault.sink c.in-Err-serve_on.ensures.err
