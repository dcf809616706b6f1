-- What the checks of a file have shown, once it has passed all of them.
use Rattle.std.specs.Prelude.{◌≡◌, true, None, Ok}
use Rattle.std.specs.List.{list_all}
use Rattle.xp_file.specs.SubscriptionFile.{FileData}
use Rattle.xp_subs.specs.Passes.{file_over, all_differ, has_own_indexes}
use Rattle.xp_subs.specs.steps.DefaultCallers.{are_rivals}
use Rattle.xp_subs.specs.steps.Passes.{Used, nothing_used, with_stations}

-- it is within the limits, uses these values, each once, no router has two default callers, and groups have their own indexes
pub record IsChecked (file : FileData) (used : Used) : Type 0 where
  pub within : file_over file ≡ None
  pub once : with_stations 0 0 file.stations nothing_used ≡ Ok used
  pub callers : all_differ are_rivals file.stations ≡ true
  pub own : list_all has_own_indexes file.stations ≡ true
