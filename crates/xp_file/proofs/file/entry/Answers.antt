use Rattle.toml.specs.View.{table_view}
use Rattle.xp_file.proofs.KeptLemmas.{lines_kept, groups_kept, as_many}
use Rattle.xp_file.proofs.file.entry.Goals as goal

pub returns-clause-kept : goal.returns-clause-kept
returns-clause-kept c =
    let (long, lines) = lines_kept _ _ c.in_ok-lines.ensures.ok in
    record {
      some = as_many (λ table. table_view table.now) c.in_ok-line_tables.line_tables.items c.deref.result.now c.in_ok-lines.lines.items
          c.deref.ensures.value c.in_ok-line_tables.ensures.some long;
      lines = lines;
      groups = groups_kept _ _ c.in_ok-groups.ensures.ok;
    }
