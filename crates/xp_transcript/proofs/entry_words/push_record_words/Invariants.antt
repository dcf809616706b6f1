use Rattle.std.proofs.Common.{◌≡◌, ◌++◌, flat_map, take}
use Rattle.xp_transcript.specs.Words.{record_words}
use Rattle.xp_transcript.proofs.entry_words.push_record_words.Given as goal

abbrev pub invariant-loop-record : goal.invariant-loop-record
invariant-loop-record l = l.text.items ≡ l.initial.text.items ++ flat_map (record_words l.subs) (take l.record-index l.records)
