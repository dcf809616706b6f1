use Rattle.std.proofs.Common.{◌≡◌, ℕ, List, ◌∙◌, ap, subst}
use Rattle.xp_decide.specs.Asks.{station_of_line}
use Rattle.xp_subs.specs.Tables.{station_at}
use Rattle.xp_subs.specs.declared.station.Station.{Station}
use Rattle.xp_explain.specs.steps.Rules.{rule_for_caller}
use Rattle.xp_explain.proofs.RuleLemmas.{Reads, told_to_caller}
use Rattle.xp_explain.proofs.explanation.caller_rule.Goals as goal

pub returns : goal.returns
returns c =
    let is_read = c.in_ok-is_read.is_read in
    let same : c.station-station.result.now ≡ station_of_line c.args.subs.now c.args.from =
    c.station-station.ensures ∙ ap (station_at c.args.subs.now) c.station_of.ensures.station in
    let R : List ℕ → Type 0 = λ field. Reads field is_read in
    let here : Reads c.as_slice.result.now is_read = record {
      one = c.every_field_has_one_reading.ensures c.as_slice.result.now;
      meaning = c.in_ok-is_read.ensures.meaning;
      fault = c.in_ok-is_read.ensures.fault;
    } in (
      c.requires.refused,
      c.for_caller.ensures
          ∙ ap (λ (s : Station). rule_for_caller c.args.refusal is_read s.facilities.outgoing_barred) same
          ∙ told_to_caller c.args.subs.now c.args.from c.args.block.now c.args.refusal is_read c.requires.refused (subst R c.as_slice.ensures here),
    )
