-- The two ends of an outbox as contracts see them: `Putting` is the state of the end that puts items, `Taking` the state of
-- the end that takes them.
use Rattle.std.specs.Prelude.{ℕ, List}
use Rattle.atomic_table.specs.Seated.{TableId}

-- the put end: the name of its queue, how many items the queue has room for, all items that were put, and how many places
-- this end knows to be free
pub record Putting (T : Type 0) : Type 0 where
  pub queue : TableId
  pub capacity : ℕ
  pub put : List T
  pub free : ℕ

-- the take end: the name of its queue, how many items the queue has room for, all items that were taken, and all items that
-- were put when the put end last told this end of them
pub record Taking (T : Type 0) : Type 0 where
  pub queue : TableId
  pub capacity : ℕ
  pub taken : List T
  pub owed : List T
