-- For private steps. The rule of an outbox, `IsInOrder`: the items taken, followed by the items that the outbox holds, are
-- the items put. At most one end puts, and it knows all items put. At most one end takes, and it knows all items taken, and
-- some of those that were put.
use Rattle.std.specs.Prelude.{◌≡◌, ℕ, true, false, List, [], ◌++◌}
use mathlib.Core.List.{IsPrefix}
use mathlib.Core.Option.{some}
use lib.ListN.{get_elem?}
use Rattle.xp_outbox.specs.declared.rule.EndView.{EndView}

module _ {T : Type 0} where
  -- what an end knows that both puts and takes: a new queue has one, and so has a queue whose two ends were joined
  abbrev pub whole : List T → List T → EndView T
  whole put taken = record { puts = true; takes = true; put = put; taken = taken; owed = [] }

  -- what the put end knows
  abbrev pub putter : List T → EndView T
  putter put = record { puts = true; takes = false; put = put; taken = []; owed = [] }

  -- what the take end knows: all that it took, and the items of which it was told that they were put
  abbrev pub taker : List T → List T → EndView T
  taker taken owed = record { puts = false; takes = true; put = []; taken = taken; owed = owed }

  -- what is left of an end whose part went to another: it neither puts nor takes
  abbrev pub spent : EndView T
  spent = record { puts = false; takes = false; put = []; taken = []; owed = [] }

  -- What an end knows is true. An end that puts is the one in the put seat, and knows the items put. An end that takes is
  -- the one in the take seat, and knows the items taken. What it was told was put is a front of the items put
  pub record Fits (put_seat take_seat : ℕ) (put taken : List T) (seat : ℕ) (known : EndView T) : Type 0 where
    pub puts : known.puts ≡ true → (seat ≡ put_seat) × (known.put ≡ put)
    pub takes : known.takes ≡ true → (seat ≡ take_seat) × (known.taken ≡ taken) × IsPrefix known.owed put

  -- the rule: the outbox holds these items, and its ends know these views, one for each seat
  pub record IsInOrder (items : List T) (views : List (EndView T)) : Type 0 where
    pub put_seat : ℕ
    pub take_seat : ℕ
    pub put : List T
    pub taken : List T
    pub held : put ≡ taken ++ items
    pub each : (seat : ℕ) (known : EndView T) → get_elem? views seat ≡ some known → Fits put_seat take_seat put taken seat known
