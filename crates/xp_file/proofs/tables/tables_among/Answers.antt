use Rattle.std.proofs.Common.{[], ◌∷◌, arith, length-append, map, refl, sym}
use Rattle.std.proofs.lemmas.List.{map-append}
use Rattle.toml.specs.Data.{as_table}
use Rattle.toml.specs.View.{table_view}
use Rattle.xp_file.proofs.EachLemmas.{items_more, items_refused}
use Rattle.xp_file.proofs.tables.tables_among.Goals as goal

pub returns-in_default-clause-refused : goal.returns-in_default-clause-refused
returns-in_default-clause-refused c =
    λ apart. (items_refused as_table c.args.values.now c.loop-value.value-index c.value-item.result c.loop-value-test.true c.value-item.is (sym c.in_default.ensures), refl)

pub loop-value-preserved : goal.loop-value-preserved
loop-value-preserved c = (
  rw (c.in_ok-push.ensures.items, map-append)
      (items_more as_table c.args.values.now c.loop-value.value-index c.value-item.result
      (map (λ table. table_view table.now) c.loop-value.tables.items) (table_view c.in-Some.inner.now)
      c.loop-value-test.true c.value-item.is c.loop-value.invariant.0 (sym c.in-Some.ensures)),
  rw c.in_ok-push.ensures.items (omega (arith, c.loop-value.invariant.1, length-append c.loop-value.tables.items (c.in-Some.inner ∷ []))),
)
