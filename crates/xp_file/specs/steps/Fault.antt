-- The message for a refused subscription file.
use Rattle.std.specs.Prelude.{ℕ, List, ◌++◌, codes}
use Rattle.xp_file.specs.declared.fault.SubscriptionFault.{SubscriptionFault}
use Rattle.xp_file.specs.declared.fault.SubscriptionFault.TheVariants as faults
use Rattle.xp_file.specs.Keys.{key_text}

-- the text of a fault
abbrev pub fault_text : SubscriptionFault → List ℕ
fault_text faults.Toml = codes "toml"
fault_text (faults.Field key) = codes "field " ++ key_text key
fault_text (faults.TwiceUsed key) = codes "twice " ++ key_text key
fault_text faults.Index = codes "index"
fault_text (faults.Limit key) = codes "limit " ++ key_text key
fault_text faults.Memory = codes "memory"
