use Rattle.xp_explain.proofs.explanation.explain.Goals as goal

pub returns : goal.returns
returns g c = record {
  verdict = c.in_ok-verdict.ensures.decided;
  reasons = c.in_ok-reasons.ensures;
  text = c.in_ok-text.ensures;
}
