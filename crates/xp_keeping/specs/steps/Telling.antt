-- For private steps. By which subscriptions the calls are told that a keeper is handed.
use Rattle.std.specs.Prelude.{List, [], ◌∷◌}
use Rattle.xp_cdr.specs.declared.ended.EndedCall.{EndedCall}
use Rattle.xp_subs.specs.Tables.{Tables}

pub record Told : Type 0 where
  -- those with which it began, all so far, in order, and the last of them, by which further calls are told
  pub opening : Tables
  pub named : List Tables
  pub subs : Tables
  -- the calls that were told
  pub given : List EndedCall

-- nothing was told yet
abbrev pub first_told : Tables → Told
first_told tables = record { opening = tables; named = tables ∷ []; subs = tables; given = [] }
