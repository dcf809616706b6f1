-- The charging records that went from the recorder of an exchange to a sink (`HandsOn`). `received` is what a sink was given so
-- far, and `keeps` what stays the same of it.
use Rattle.std.specs.Prelude.{◌≡◌, List, ◌++◌}
use Rattle.xp_charge.specs.declared.record.Record.{Record}
use Rattle.xp_seats.specs.Recording.{Recording}
use Rattle.xp_seats.specs.Views.{StartsWith}

module _ {A S : Type 0} (received : S → List Record) (keeps : S → S → Type 0) where
  -- The sink was given the records that the recorder took, all of them and in order. The recorder has seen more of the history.
  pub record HandsOn (old : Recording A) (before : S) (new : Recording A) (after : S) : Type 0 where
    pub more : List Record
    pub taken : new.received ≡ old.received ++ more
    pub given : received after ≡ received before ++ more
    pub seen : StartsWith new.seen old.seen
    pub kept : keeps before after
