-- For private steps. What a reload needs, and what the giving up of one line does.
use Rattle.std.specs.Prelude.{◌≡◌, ◌+◌, ◌*◌, ◌<◌, ◌≤◌, [], length, vec_capacity}
use Rattle.xp_subs.specs.Tables.{Tables}
use Rattle.xp_step.specs.declared.event.Event.{Event}
use Rattle.xp_step.specs.Exchange.{Exchange}
use Rattle.xp_core.specs.Reload.{AreGoingFrom, MayReplaceIn}
use Rattle.xp_lock.specs.Locked.{Locked, Takes}
use Rattle.xp_lock.specs.declared.giving_up.PreparedReload.{PreparedReload}
use Rattle.xp_lock.specs.declared.receipt.Receipt.{Receipt}

module _ {A : Type 0} where
  -- the tables may come into force once these lines are given up, and there are places of the history, stalls and room for records
  pub record IsPreparedFor (core : Exchange A) (next : Tables) (prepared : PreparedReload A) : Type 0 where
    pub may : MayReplaceIn core next
    pub going : AreGoingFrom core next prepared.going.items
    pub places : length core.history + 4 * length prepared.going.items < core.subs.journal
    pub stalls : 4 * length prepared.going.items ≤ core.stalls
    pub empty : prepared.room.items ≡ []
    pub room : length core.waiting + 4 * length prepared.going.items ≤ vec_capacity prepared.room

  -- the stall was entered, with the stalls that it forced
  abbrev pub GivesLineUp : Locked A → Event A → Locked A → Type 0
  GivesLineUp old event new = (done : Receipt) × Takes old event done new
