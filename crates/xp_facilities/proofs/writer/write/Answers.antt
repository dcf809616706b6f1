use Rattle.std.proofs.Common.{sym, ◌∙◌, subst}
use Rattle.std.proofs.lemmas.Result.{err_from_is_err_and}
use Rattle.xp_facilities.specs.Items.{IsField}
use Rattle.xp_facilities.specs.Indicated.{table}
use Rattle.xp_facilities.proofs.Bounds.{told-length, told-exchange}
use Rattle.xp_facilities.proofs.Telling.{tells-octets, IsCarried-marked, some_field}
use Rattle.xp_facilities.proofs.writer.write.Goals as goal

pub returns-then-has_marker-clause-value : goal.returns-then-has_marker-clause-value
returns-then-has_marker-clause-value g c =
    IsCarried-marked c.args.told.now.dte c.in-Some.carried (subst (λ x. IsField x c.in-Some.carried) c.as_slice.ensures c.in-Some.ensures)
    (sym c.has_marker.ensures ∙ c.if-has_marker.true)

pub returns-in_err-octets-clause-value : goal.returns-in_err-octets-clause-value
returns-in_err-octets-clause-value g c =
    let p = err_from_is_err_and c.from_residual.result c.from_residual.ensures.1 in
    rw (p.1, p.2) (some_field _ c.args.told.now c.in-Some.carried (subst (λ x. IsField x c.in-Some.carried) c.as_slice.ensures c.in-Some.ensures) (sym c.has_marker.ensures ∙ c.if-has_marker.false) (sym c.is_in_range.ensures ∙ c.if-not-is_in_range.false))

pub returns-in_err-octets-2-clause-value : goal.returns-in_err-octets-2-clause-value
returns-in_err-octets-2-clause-value g c =
    let p = err_from_is_err_and c.from_residual-in_err-octets-2.result c.from_residual-in_err-octets-2.ensures.1 in
    rw (p.1, p.2) (some_field _ c.args.told.now c.in-Some.carried (subst (λ x. IsField x c.in-Some.carried) c.as_slice.ensures c.in-Some.ensures) (sym c.has_marker.ensures ∙ c.if-has_marker.false) (sym c.is_in_range.ensures ∙ c.if-not-is_in_range.false))

pub returns-clause-value : goal.returns-clause-value
returns-clause-value g c =
    let is = subst (λ x. IsField x c.in-Some.carried) c.as_slice.ensures c.in-Some.ensures in
    record {
      carried = c.in-Some.carried;
      dte = record { whole = is; unmarked = sym c.has_marker.ensures ∙ c.if-has_marker.false };
      in_range = sym c.is_in_range.ensures ∙ c.if-not-is_in_range.false;
      whole = c.in_ok-octets-2.ensures ∙ c.in_ok-octets.ensures.value ∙ tells-octets (table c.args.told.now) c.args.told.now.dte c.in-Some.carried is;
    }

pub returns-clause-most : goal.returns-clause-most
returns-clause-most g c = told-length c.args.told.now c.in_ok-octets-2.octets (returns-clause-value g c) c.in_ok-octets.ensures.digits

pub returns-clause-exchange : goal.returns-clause-exchange
returns-clause-exchange g c = told-exchange c.args.told.now _ (returns-clause-most g c)
