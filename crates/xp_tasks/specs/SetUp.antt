-- What a subscription file sets up, and what is told of it.
use Rattle.std.specs.Prelude.{◌≡◌, ◌⊎◌, ◌-◌, ◌==◌, ℕ, List, [], ◌++◌, Result, Ok, Err, codes, count_by, decimal, if◌then◌else◌}
use Rattle.std.specs.declared.io.ErrorKind.{ErrorKind}
use Rattle.std.specs.declared.io.ErrorKind.TheVariants.{OutOfMemory}
use Rattle.xp_file.specs.declared.fault.SubscriptionFault.{SubscriptionFault}
use Rattle.xp_subs.specs.Built.{SetsUp as TextSetsUp}
use Rattle.xp_subs.specs.Tables.{Tables, is_spare, station_count, line_count, group_count}
use Rattle.xp_tasks.specs.declared.failure.TaskFailure.{TaskFailure}
use Rattle.xp_tasks.specs.declared.failure.TaskFailure.TheVariants.{File, Subscriptions, Memory}

-- a file that gives no text
abbrev pub unread : ErrorKind → TaskFailure
unread OutOfMemory = Memory
unread _ = File

-- the file's text, or why there is none, and what is set up by it; memory may be wanting for any text
abbrev pub SetsUp : Result (List ℕ) ErrorKind → Result Tables TaskFailure → Type 0
SetsUp (Ok text) (Ok subs) = TextSetsUp text (Ok subs)
SetsUp (Ok text) (Err failure) =
    (failure ≡ Memory) ⊎ ((fault : SubscriptionFault) × TextSetsUp text (Err fault) × (failure ≡ Subscriptions fault))
SetsUp (Err kind) (Ok subs) = ⊥
SetsUp (Err kind) (Err failure) = failure ≡ unread kind

-- so many places without a line, if there are any
abbrev pub spare_text : ℕ → List ℕ
spare_text count = if count == 0 then [] else codes " spare lines " ++ decimal count

-- how much is set up, as a line
abbrev pub set_up_text : Tables → List ℕ
set_up_text tables =
    codes "stations " ++ decimal (station_count tables)
    ++ codes " lines " ++ decimal (line_count tables - count_by is_spare tables.lines)
    ++ codes " groups " ++ decimal (group_count tables) ++ spare_text (count_by is_spare tables.lines)
