use Rattle.std.proofs.Common.{arith, length-append}
use Rattle.std.proofs.lemmas.Result.{err_from_is_err_and}
use Rattle.std.proofs.lemmas.List.Elements.{All-push}
use Rattle.toml.specs.View.{table_view}
use Rattle.xp_file.specs.Entries.{StationData, IsStationEntry}
use Rattle.xp_file.specs.SubscriptionFile.{entry_of}
use Rattle.xp_file.proofs.EachLemmas.{each_more, each_refused}
use Rattle.xp_file.proofs.file.entries.Goals as goal

pub returns-in_err-entry-clause-refused : goal.returns-in_err-entry-clause-refused
returns-in_err-entry-clause-refused c =
    let p = err_from_is_err_and c.from_residual.result c.from_residual.ensures.1 in
    rw (p.1, p.2) (λ apart. each_refused entry_of (λ table. table_view table.now) c.args.tables.now c.loop-table.table-index
    c.table-item.result c.loop-table.entries.items _ c.loop-table-test.true c.table-item.is c.loop-table.invariant.0 (c.in_err-entry.ensures.refused apart))

pub loop-table-preserved : goal.loop-table-preserved
loop-table-preserved c = (
  rw c.in_ok-push.ensures.items (each_more entry_of (λ table. table_view table.now) c.args.tables.now c.loop-table.table-index
      c.table-item.result c.loop-table.entries.items _ c.loop-table-test.true c.table-item.is c.loop-table.invariant.0 c.in_ok-entry.ensures.ok),
  rw c.in_ok-push.ensures.items (omega (arith, length-append {A = StationData})),
  rw c.in_ok-push.ensures.items (All-push IsStationEntry c.loop-table.entries.items _ c.loop-table.invariant.2 c.in_ok-entry.ensures.kept),
)
