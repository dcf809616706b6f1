-- For private steps. Records on their way to the thread that keeps them.
use Rattle.std.specs.Prelude.{◌≡◌, List}
use Rattle.atomic_table.specs.Seated.{TableId}
use Rattle.xp_cdr.specs.declared.ended.EndedCall.{EndedCall}

pub record Handing : Type 0 where
  -- the name of the queue between the two threads
  pub queue : TableId
  -- all records that were handed over, those of them that were put into the queue, and those that are left here
  pub all : List EndedCall
  pub put : List EndedCall
  pub left : List EndedCall

-- the same records on their way through the same queue
abbrev pub StaysWith : Handing → Handing → Type 0
StaysWith old new = (new.queue ≡ old.queue) × (new.all ≡ old.all)
