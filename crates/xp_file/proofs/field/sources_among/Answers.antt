use Rattle.std.proofs.Common.{ℕ, List, ◌∙◌, sym, arith, length-append}
use Rattle.xp_file.specs.Reading.{source_in}
use Rattle.xp_file.proofs.EachLemmas.{items_more, items_refused}
use Rattle.xp_file.proofs.SourceLemmas.{no_text, other_text, source_text, none_among, not_few}
use Rattle.xp_file.proofs.field.sources_among.Goals as goal

pub returns-then-not-are_few : goal.returns-then-not-are_few
returns-then-not-are_few c = sym (not_few c.args.values.now (sym c.are_few.ensures ∙ c.if-not-are_few.true))

pub returns-in_err-as_str : goal.returns-in_err-as_str
returns-in_err-as_str c =
    c.from_residual.ensures
    ∙ sym (none_among _ (items_refused source_in c.args.values.now c.loop-value.value-index c.value-item.result c.loop-value-test.true c.value-item.is
    (no_text _ (sym c.in_err-as_str.ensures))))

pub returns-in_err-push : goal.returns-in_err-push
returns-in_err-push c =
    c.from_residual-in_err-push.ensures
    ∙ sym (none_among _ (items_refused source_in c.args.values.now c.loop-value.value-index c.value-item.result c.loop-value-test.true c.value-item.is
    (other_text _ _ (sym c.in_ok-as_str.ensures) c.in_err-push.ensures.refused.0)))

pub loop-value-preserved : goal.loop-value-preserved
loop-value-preserved c =
    let added = c.in_ok-push.ensures.added in (
      rw added.1 (items_more source_in c.args.values.now c.loop-value.value-index c.value-item.result c.loop-value.sources c.in_ok-as_str.field-0.now
          c.loop-value-test.true c.value-item.is c.loop-value.invariant.0 (source_text _ _ (sym c.in_ok-as_str.ensures) added.0)),
      rw added.1 (omega (arith, length-append {A = List ℕ})),
    )
