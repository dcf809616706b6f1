-- Files of subscriptions with the names by which a script puts them into force, as `--tables NAME=PATH` says them.
use Rattle.std.specs.Prelude.{◌≡◌, ℕ, List, Bool, Option, Some, None, ◌&&◌, not, map, true, nat_eq, length, option_and_then, if◌then◌else◌}
use Rattle.clap.specs.Words.{Text}
use Rattle.xp_arguments.specs.declared.replay_order.NamedPath.{NamedPath}
use Rattle.xp_file.specs.Routers.{parted}
use Rattle.xp_subs.specs.Passes.{all_differ}
use Rattle.xp_subs.specs.Tables.{same}

-- the code of `=`
abbrev pub equals_sign : ℕ
equals_sign = 61

abbrev pub is_some_text : Text → Bool
is_some_text text = not (nat_eq (length text) 0)

abbrev pub if_both : Text × Text → Option (Text × Text)
if_both parts = if is_some_text parts.0 && is_some_text parts.1 then Some parts else None

-- the name and the path of a text NAME=PATH: what stands before and behind its first `=`, where neither is empty
abbrev pub named_path : Text → Option (Text × Text)
named_path text = option_and_then if_both (parted equals_sign text)

abbrev pub parts_of : NamedPath → Text × Text
parts_of named = (named.name.now, named.path.now)

-- each text names a file, and these are the files in order
abbrev pub AreNamed : List Text → List NamedPath → Type 0
AreNamed texts tables = map (λ named. Some (parts_of named)) tables ≡ map named_path texts

abbrev pub same_name : NamedPath → NamedPath → Bool
same_name one other = same one.name.now other.name.now

-- no two files have the same name
abbrev pub has_each_name_once : List NamedPath → Bool
has_each_name_once = all_differ same_name

-- and no two of them have the same name
pub record AreTables (texts : List Text) (tables : List NamedPath) : Type 0 where
  pub named : AreNamed texts tables
  pub once : has_each_name_once tables ≡ true
