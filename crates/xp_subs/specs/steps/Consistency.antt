-- The invariant of a `Subs`: its tables are sound, its index of addresses and its index of names agree with them, and its station
-- in place of one that does not exist is that of the tables.
use Rattle.std.specs.Prelude.{◌≡◌, ℕ, List}
use Rattle.indexmap.specs.IndexMap.{get}
use Rattle.xp_subs.specs.declared.subs.Subs.TheInside.{Inside}
use Rattle.xp_subs.specs.Sound.{IsSound}
use Rattle.xp_subs.specs.Tables.{same, no_station, target_of, line_named_of}
use Rattle.xp_subs.specs.Consistency.{tables}

pub record IsConsistent (inside : Inside) : Type 0 where
  pub sound : IsSound (tables inside)
  pub targets : (address : List ℕ) → get same inside.targets address ≡ target_of (tables inside) address
  pub names : (name : List ℕ) → get same inside.names name ≡ line_named_of (tables inside) name
  pub nobody : inside.nobody ≡ no_station
