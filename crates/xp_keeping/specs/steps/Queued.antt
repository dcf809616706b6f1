-- For private steps. What a keeper on a thread of its own keeps of the records that it was handed, and what stays the same of it.
use Rattle.std.specs.Prelude.{◌≡◌, ◌⊎◌, List, [], ◌∷◌, ◌++◌, Bool, true, false}
use Rattle.xp_cdr.specs.declared.ended.EndedCall.{EndedCall}
use Rattle.xp_keeping.specs.Details.{IsFirstOf}
use Rattle.xp_keeping.specs.Queued.{Queued}
use Rattle.xp_keeping.specs.steps.Queue.{Handing}

-- All records were handed to the thread, or a front of them where memory was wanting.
pub record IsHandedOn (handed given : List EndedCall) (is_short : Bool) : Type 0 where
  pub front : IsFirstOf handed given
  pub all : is_short ≡ false → handed ≡ given

-- memory is wanting, and the queue is as it was, or the record is behind the others
abbrev pub Adds : Bool → Handing → EndedCall → Bool → Handing → Type 0
Adds was_short old ended is_short new =
    (new.queue ≡ old.queue)
    × (((is_short ≡ true) × (new.all ≡ old.all)) ⊎ ((was_short ≡ false) × (is_short ≡ false) × (new.all ≡ old.all ++ ended ∷ [])))

-- what stays the same
abbrev pub GoesOnBeside : {K : Type 0} → Queued K → Queued K → Type 0
GoesOnBeside old new =
    (new.opening ≡ old.opening)
    × (new.named ≡ old.named)
    × (new.subs ≡ old.subs)
    × (new.first ≡ old.first)
    × (new.fault ≡ old.fault)
    × (new.last ≡ old.last)
    × (new.ended_by ≡ old.ended_by)
