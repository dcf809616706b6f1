-- What the threads of the lines leave once all have ended (`IsServed`).
use Rattle.std.specs.Prelude.{◌≡◌, ℕ, ◌<◌, List, Some, length, map, slice_get}
use Rattle.std.specs.List.{AllByRecursion}
use Rattle.std.specs.declared.alloc.Global.{Global as Alloc}
use Rattle.xp_lock.specs.Closing.{AreCounted, PassesMatch, all_handed, own_entries_together}
use Rattle.xp_lock.specs.Opening.{first_pass}
use Rattle.xp_lock.specs.Passes.{IsLegal, Pass}
use Rattle.xp_links.specs.Pairs.{AreEach}
use Rattle.xp_lines.specs.Sessions.{IsAnyLink, IsLineDown, IsLineServed}
use Rattle.xp_lines.specs.declared.line.EndReason.{EndReason}
use Rattle.xp_lines.specs.declared.line.EndReason.TheVariants.{Stopped}
use Rattle.xp_subs.specs.Tables.{Tables, line_count}
use Rattle.xp_serve.specs.Ends.{first_early_end}
use Rattle.xp_serve.specs.declared.served.Served.{Served}

-- these are the passes of so many lines, in the order of lines
pub record AreInOrder (lines : ℕ) (passes : List (Pass Alloc)) : Type 0 where
  pub count : length passes ≡ lines
  pub each : (line : ℕ) → line < lines → slice_get (map (λ pass. pass.line) passes) line ≡ Some line

-- From its first pass on the line had what its links brought, one after the other. What octets a TCP connection moved is not known.
abbrev pub IsBrought : Tables → Pass Alloc → Type 0
IsBrought tables pass = IsLineServed tables IsAnyLink (first_pass pass.line) pass

-- A line that tells that it was stopped is down: the exchange accepted of each of its links that it went.
abbrev pub IsDownIfStopped : Tables → EndReason → Pass Alloc → Type 0
IsDownIfStopped tables why pass = why ≡ Stopped → IsLineDown tables IsAnyLink (first_pass pass.line) pass

-- Each line gave its pass back as it ended, with what its links brought, and why it ended is told, in the order of lines; one that was stopped is down. The history
-- is a run of the exchange machine. In it each line has the entries of what it handed in, as its pass knows them, and there are no others but stalls and reloads.
-- What a line took are the first outputs to it, as many as the book counts.
pub record IsServed (tables : Tables) (served : Served) : Type 0 where
  pub subs : served.book.subs ≡ tables
  pub legal : IsLegal tables served.book.history
  pub passes : List (Pass Alloc)
  pub in_order : AreInOrder (line_count tables) passes
  pub brought : AllByRecursion (IsBrought tables) passes
  pub matched : PassesMatch served.book.history passes
  pub together : length (all_handed served.book.history) ≡ own_entries_together passes
  pub counted : AreCounted served.book passes
  pub each_ended : length served.end_reasons.items ≡ line_count tables
  pub stopped : AreEach (IsDownIfStopped tables) served.end_reasons.items passes
  pub first : served.early_end ≡ first_early_end 0 served.end_reasons.items
