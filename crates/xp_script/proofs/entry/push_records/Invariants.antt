use Rattle.std.proofs.Common.{◌≡◌, ◌++◌, flat_map, take}
use Rattle.xp_charge.specs.Text.{record_text}
use Rattle.xp_script.proofs.entry.push_records.Given as goal

abbrev pub invariant-loop-record : goal.invariant-loop-record
invariant-loop-record g l = l.text.items ≡ l.initial.text.items ++ flat_map (record_text l.subs) (take l.record-index l.records)
