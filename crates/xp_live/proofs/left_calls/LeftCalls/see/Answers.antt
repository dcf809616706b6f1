use Rattle.std.proofs.Common.{rules, ◌∙◌, ap}
use Rattle.std.proofs.lemmas.Fn.{filter_same}
use Rattle.xp_live.proofs.LeftLemmas.{seen_record, still_named}
use Rattle.xp_live.specs.LeftCalls.{without_record}
use Rattle.xp_live.proofs.left_calls.LeftCalls.see.Goals as goal

pub invariant_of-self : goal.invariant_of-self
invariant_of-self c = still_named c.args.row.now c.self.inside.lines.items c.retain.new.self.items c.self.invariant (filter_same _ _ _ (λ x b f' k. search rules) _ _ c.retain.ensures.filtered)

pub returns : goal.returns
returns c = seen_record c.args.row.now c.self.inside.lines.items c.retain.new.self.items c.self.invariant (filter_same _ _ _ (λ x b f' k. search rules) _ _ c.retain.ensures.filtered) ∙ ap (without_record c.args.row.now) c.self.view_is
