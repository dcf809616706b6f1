-- The lines of charging records.
use Rattle.std.proofs.Common.{◌≡◌, ◌++◌, ◌∷◌, [], ℕ, Option, None, Some, List, ap, decimal, option_map, refl}
use Rattle.std.specs.Prelude.{codes}
use Rattle.xp_charge.specs.Text.{called_text, charge_text, digits_text, field, name_of, record_text}
use Rattle.xp_charge.specs.declared.record.Record.{Record}
use Rattle.xp_subs.specs.Tables.{Tables}
use Rattle.xp_cdr.specs.Ended.{ended_as, named_line}
use Rattle.xp_cdr.specs.RecordLine.{called_name, record_line}
use Rattle.xp_cdr.specs.declared.ended.EndedBy.{EndedBy}

-- the name of a called line
called_is : (tables : Tables) (called : Option ℕ) → called_name (option_map (named_line tables) called) ≡ called_text tables called
called_is tables None = refl
called_is tables (Some line) = refl

pub are_record_texts : (tables : Tables) (by : EndedBy) (ended : Record) → record_line (ended_as tables by ended) ≡ record_text tables ended
are_record_texts tables by ended =
    ap (λ name.
    codes "record"
    ++ (field (decimal ended.number) ++ field (name_of tables ended.caller) ++ field name ++ field (digits_text ended.dialled))
    ++ charge_text ended
    ++ 10 ∷ []) (called_is tables ended.called)
