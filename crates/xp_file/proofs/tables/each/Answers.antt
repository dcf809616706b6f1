use Rattle.std.proofs.Common.{rules}
use Rattle.std.proofs.lemmas.Result.{err_from_is_err_and}
use Rattle.toml.specs.View.{table_view}
use Rattle.xp_file.proofs.EachLemmas.{each_more, each_refused}
use Rattle.xp_file.proofs.tables.each.Goals as goal

pub returns-in_err-read-clause-refused : goal.returns-in_err-read-clause-refused
returns-in_err-read-clause-refused g c =
    let p = err_from_is_err_and c.from_residual.result c.from_residual.ensures.1 in
    rw (p.1, p.2) (λ reading all apart. each_refused reading (λ table. table_view table.now) c.args.tables.now c.loop-table.table-index
    c.table-item.result c.loop-table.values.items _ c.loop-table-test.true c.table-item.is (c.loop-table.invariant reading all)
    (all c.table-item.result.now _ (search rules)))

pub loop-table-preserved : goal.loop-table-preserved
loop-table-preserved g c =
    rw c.in_ok-push.ensures.items (λ reading all. each_more reading (λ table. table_view table.now) c.args.tables.now c.loop-table.table-index
    c.table-item.result c.loop-table.values.items _ c.loop-table-test.true c.table-item.is (c.loop-table.invariant reading all)
    (all c.table-item.result.now _ (search rules)))
