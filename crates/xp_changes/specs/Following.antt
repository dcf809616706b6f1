-- Subscriptions that may come into force after others.
use Rattle.xp_reload.specs.Frame.{HasSameSettings}
use Rattle.xp_subs.specs.Laid.{IsLaidOver}
use Rattle.xp_subs.specs.Tables.{Tables}

-- the new subscriptions can be laid over the old ones, and have the same settings: the exchange need not be stopped for them
pub record MayFollow (old new : Tables) : Type 0 where
  pub laid : Tables
  pub over : IsLaidOver old new laid
  pub settings : HasSameSettings old new
