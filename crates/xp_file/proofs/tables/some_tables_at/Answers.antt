use Rattle.std.proofs.Common.{◌≡◌, ◌∙◌, Some, ap, arith, length, rules, sym}
use Rattle.std.proofs.lemmas.Bool.{eqb-false, eqb-true}
use Rattle.std.proofs.lemmas.List.{length-map}
use Rattle.toml.specs.Data.{as_array, get_member}
use Rattle.toml.specs.View.{items_view, table_view, view}
use Rattle.xp_file.specs.Keys.{key_text}
use Rattle.xp_file.proofs.ArrayLemmas.{empty_among, err_then, none_read, ok_then, ok_then_too, some_read, some_refused}
use Rattle.xp_file.proofs.tables.some_tables_at.Goals as goal

pub returns-then-is_empty-clause-refused : goal.returns-then-is_empty-clause-refused
returns-then-is_empty-clause-refused c =
    let found : get_member (key_text c.args.key) (table_view c.args.table.now) ≡ Some (view c.in-Some.value.now) = search rules in
    let own : as_array (view c.in-Some.value.now) ≡ Some (items_view c.in-Some-as_array.values.now.items) = search rules in
    let values = c.in-Some-as_array.values.now in
    let none = eqb-true _ _ (sym c.is_empty.ensures ∙ c.if-is_empty.true) in
    λ apart. none_read c.args.key _ _ _ found own (empty_among values.items (omega (arith, none, values.ok.0)))

pub returns-clause-ok : goal.returns-clause-ok
returns-clause-ok c =
    let found : get_member (key_text c.args.key) (table_view c.args.table.now) ≡ Some (view c.in-Some.value.now) = search rules in
    let own : as_array (view c.in-Some.value.now) ≡ Some (items_view c.in-Some-as_array.values.now.items) = search rules in
    let array = own ∙ ap (λ values. Some (items_view values)) (sym c.deref.ensures.value) in
    let some = eqb-false _ _ (sym c.is_empty.ensures ∙ c.if-is_empty.false) in
    let same = ap length c.deref.ensures.value in
    ok_then_too c.tables_among.result
    (λ tables is long. some_read c.args.key _ _ _ found array _ is (omega (arith, long, same, some, c.in-Some-as_array.values.now.ok.0, length-map tables.items (λ inner. table_view inner.now))))
    c.tables_among.ensures.ok c.tables_among.ensures.count

pub returns-clause-refused : goal.returns-clause-refused
returns-clause-refused c =
    let found : get_member (key_text c.args.key) (table_view c.args.table.now) ≡ Some (view c.in-Some.value.now) = search rules in
    let own : as_array (view c.in-Some.value.now) ≡ Some (items_view c.in-Some-as_array.values.now.items) = search rules in
    let array = own ∙ ap (λ values. Some (items_view values)) (sym c.deref.ensures.value) in
    err_then c.tables_among.result
    (λ fault refused apart. let none = refused apart in rw none.1 (some_refused c.args.key _ _ _ found array none.0))
    c.tables_among.ensures.refused

pub returns-clause-some : goal.returns-clause-some
returns-clause-some c =
    let some = eqb-false _ _ (sym c.is_empty.ensures ∙ c.if-is_empty.false) in
    let same = ap length c.deref.ensures.value in
    ok_then c.tables_among.result (λ tables long. omega (arith, long, same, some, c.in-Some-as_array.values.now.ok.0)) c.tables_among.ensures.count
