use Rattle.std.proofs.Common.{◌≡◌, ◌∙◌, Err, Ok, refl, sym}
use Rattle.std.proofs.lemmas.Result.{err_from_is_err_and}
use Rattle.toml.specs.View.{table_view}
use Rattle.xp_file.proofs.EachLemmas.{examined_more, examined_refused}
use Rattle.xp_file.proofs.tables.examine.Goals as goal

pub returns-in_err-read : goal.returns-in_err-read
returns-in_err-read g c = λ reading all.
    let p = err_from_is_err_and c.from_residual.result c.from_residual.ensures.1 in
    let read : reading (table_view c.table-item.result.now) ≡ Err c.in_err-read.field-0.0 =
    all c.table-item.result.now _ (record { shown = c.table-item.result; shows = refl; says = record { met = c.in_err-read.ensures } }) in
    rw (p.1, p.2)
    (sym (examined_refused reading (λ table. table_view table.now) c.args.tables.now c.loop-table.table-index c.table-item.result _
    c.loop-table-test.true c.table-item.is read)
    ∙ c.loop-table.invariant reading all)

pub loop-table-preserved : goal.loop-table-preserved
loop-table-preserved g c = λ reading all.
    let read : reading (table_view c.table-item.result.now) ≡ Ok c.in_ok-read.field-0 =
    all c.table-item.result.now _ (record { shown = c.table-item.result; shows = refl; says = record { met = c.in_ok-read.ensures } }) in
    sym (examined_more reading (λ table. table_view table.now) c.args.tables.now c.loop-table.table-index c.table-item.result c.in_ok-read.field-0
    c.loop-table-test.true c.table-item.is read)
    ∙ c.loop-table.invariant reading all
