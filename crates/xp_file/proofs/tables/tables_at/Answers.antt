use Rattle.std.proofs.Common.{◌≡◌, ◌∙◌, Some, ap, rules, sym}
use Rattle.toml.specs.Data.{as_array, get_member}
use Rattle.toml.specs.View.{items_view, table_view, view}
use Rattle.xp_file.specs.Keys.{key_text}
use Rattle.xp_file.proofs.ArrayLemmas.{err_then, ok_then, tables_read, tables_refused}
use Rattle.xp_file.proofs.tables.tables_at.Goals as goal

pub returns-clause-ok : goal.returns-clause-ok
returns-clause-ok c =
    let found : get_member (key_text c.args.key) (table_view c.args.table.now) ≡ Some (view c.in-Some.value.now) = search rules in
    let own : as_array (view c.in-Some.value.now) ≡ Some (items_view c.in-Some-as_array.values.now.items) = search rules in
    let array = own ∙ ap (λ values. Some (items_view values)) (sym c.deref.ensures.value) in
    ok_then c.tables_among.result (λ tables is. tables_read c.args.key _ _ _ found array _ is) c.tables_among.ensures.ok

pub returns-clause-refused : goal.returns-clause-refused
returns-clause-refused c =
    let found : get_member (key_text c.args.key) (table_view c.args.table.now) ≡ Some (view c.in-Some.value.now) = search rules in
    let own : as_array (view c.in-Some.value.now) ≡ Some (items_view c.in-Some-as_array.values.now.items) = search rules in
    let array = own ∙ ap (λ values. Some (items_view values)) (sym c.deref.ensures.value) in
    err_then c.tables_among.result
    (λ fault refused apart. let none = refused apart in rw none.1 (tables_refused c.args.key _ _ _ found array none.0))
    c.tables_among.ensures.refused
