use Rattle.std.proofs.Common.{sym, arith}
use Rattle.toml.specs.View.{table_view}
use Rattle.xp_file.specs.declared.key.Key.TheVariants as keys
use Rattle.xp_file.specs.Entries.{no_journal_limit}
use Rattle.xp_file.specs.Routers.{registered_port}
use Rattle.xp_file.proofs.Ranges.{defaulted_range}
use Rattle.xp_file.proofs.file.read_table.Goals as goal

pub returns-clause-limits : goal.returns-clause-limits
returns-clause-limits c =
    let limit = defaulted_range 1 99999999 99999999 99999999 keys.SegmentLimit (table_view c.args.table.now) _ (omega arith) (omega arith) (omega arith) (sym c.in_ok-segment_limit.ensures) in
    let journal = defaulted_range 4 10000000 no_journal_limit no_journal_limit keys.Journal (table_view c.args.table.now) _ (omega arith) (omega arith) (omega arith) (sym c.in_ok-journal.ensures) in
    record { some_segment = limit.0; eight_digits = limit.1; least_entries = journal.0; most_entries = journal.1 }

pub returns-clause-port : goal.returns-clause-port
returns-clause-port c =
    defaulted_range 1 65535 registered_port 65535 keys.XotPort (table_view c.args.table.now) _ (omega arith) (omega arith) (omega arith) (sym c.in_ok-xot_port.ensures)
