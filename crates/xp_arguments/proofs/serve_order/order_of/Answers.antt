use Rattle.std.proofs.Common.{codes, ◌∙◌}
use Rattle.clap.specs.Words.{found_of, rows_of}
use Rattle.clap.proofs.WalkLemmas.{first_value-rows}
use Rattle.xp_arguments.proofs.Errands.{if_none, no_details, no_live, no_name, no_order, no_trace}
use Rattle.xp_arguments.proofs.serve_order.order_of.Goals as goal

pub returns-in_err-limits-clause-none : goal.returns-in_err-limits-clause-none
returns-in_err-limits-clause-none c = if_none _ _ (no_order (rows_of (found_of c.args.matches.now)) c.in_err-limits.ensures.none)

pub returns-in_err-trace-clause-none : goal.returns-in_err-trace-clause-none
returns-in_err-trace-clause-none c = if_none _ _ (no_trace (rows_of (found_of c.args.matches.now)) c.in_err-trace.ensures.none)

pub returns-in_err-exchange-clause-none : goal.returns-in_err-exchange-clause-none
returns-in_err-exchange-clause-none c = if_none _ _ (no_name (rows_of (found_of c.args.matches.now)) c.in_err-exchange.ensures.none)

pub returns-in_err-details-clause-none : goal.returns-in_err-details-clause-none
returns-in_err-details-clause-none c = if_none _ _ (no_details (rows_of (found_of c.args.matches.now)) c.in_err-details.ensures.none)

pub returns-in_err-live-clause-none : goal.returns-in_err-live-clause-none
returns-in_err-live-clause-none c = if_none _ _ (no_live (rows_of (found_of c.args.matches.now)) c.in_err-live.ensures.none)

pub returns-clause-found : goal.returns-clause-found
returns-clause-found c =
    let matches = found_of c.args.matches.now in
    record {
      limits = c.in_ok-limits.ensures.found;
      trace = c.in_ok-trace.ensures.found;
      exchange = c.in_ok-exchange.ensures.found;
      details = c.in_ok-details.ensures.found;
      live = c.in_ok-live.ensures.found;
      no_live = c.is_true-no_live.ensures;
      console = c.get_str-console.ensures ∙ first_value-rows matches (codes "console");
      quiet = c.is_true-quiet.ensures;
      until_eof = c.is_true-until_eof.ensures;
    }
