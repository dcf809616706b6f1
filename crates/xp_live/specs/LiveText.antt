-- The text of a file of live calls.
use Rattle.std.specs.Prelude.{List, ◌++◌, ℕ, flat_map}
use Rattle.xp_cdr.specs.Details.{detail_text, header_text}
use Rattle.xp_cdr.specs.declared.ended.EndedCall.{EndedCall}
use Rattle.xp_cdr.specs.declared.run.ExchangeRun.{ExchangeRun}

-- the names of the fields, and the call detail record of each call
abbrev pub live_text : ExchangeRun → List EndedCall → List ℕ
live_text run calls = header_text ++ flat_map (detail_text run) calls
