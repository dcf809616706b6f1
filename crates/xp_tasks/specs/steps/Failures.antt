-- For private steps. The exit status of a task that fails, and what is told of a replay.
use Rattle.std.specs.Prelude.{◌≡◌, ◌⊎◌, ℕ, Result, Ok, Err}
use Rattle.xp_file.specs.declared.fault.SubscriptionFault.{SubscriptionFault}
use Rattle.xp_file.specs.declared.fault.SubscriptionFault.TheVariants as files
use Rattle.xp_tasks.specs.declared.failure.TaskFailure.{TaskFailure}
use Rattle.xp_tasks.specs.declared.failure.TaskFailure.TheVariants.{Subscriptions, Memory}

-- subscriptions that are refused
abbrev pub of_file : SubscriptionFault → TaskFailure
of_file files.Toml = Subscriptions files.Toml
of_file (files.Field key) = Subscriptions (files.Field key)
of_file (files.TwiceUsed key) = Subscriptions (files.TwiceUsed key)
of_file files.Index = Subscriptions files.Index
of_file (files.Limit key) = Subscriptions (files.Limit key)
of_file files.Memory = Memory
