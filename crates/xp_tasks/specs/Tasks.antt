-- What the program can be asked for.
use Rattle.std.specs.Prelude.{ℕ, List, codes}
use Rattle.xp_tasks.specs.declared.task.Task.{Task}
use Rattle.xp_tasks.specs.declared.task.Task.TheVariants.{Check, Replay}

-- the word that asks for a task
abbrev pub word_of : Task → List ℕ
word_of Check = codes "check"
word_of Replay = codes "replay"
