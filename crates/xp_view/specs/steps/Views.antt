-- The lines that were looked at so far.
use Rattle.std.specs.Prelude.{◌≡◌, ℕ, ◌<◌, List, Some, length, slice_get}
use Rattle.xp_step.specs.declared.entry.Entry.{Entry}
use Rattle.xp_view.specs.Views.{line_with_call}
use Rattle.xp_view.specs.declared.view.LineWithCall.{LineWithCall}
use Rattle.xp_subs.specs.Tables.{Tables}

-- these show so many lines, in order
pub record AreShown {A : Type 0} (tables : Tables) (history : List (Entry A)) (seen : ℕ) (lines : List LineWithCall) : Type 0 where
  pub count : length lines ≡ seen
  pub each : (line : ℕ) → line < seen → slice_get lines line ≡ Some (line_with_call tables history line)
