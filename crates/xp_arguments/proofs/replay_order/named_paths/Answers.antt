use Rattle.std.proofs.Common.{◌∙◌, ap, map, sym}
use Rattle.xp_arguments.specs.NamedPaths.{has_each_name_once}
use Rattle.xp_arguments.proofs.NamedLemmas.{not_once}
use Rattle.xp_arguments.proofs.replay_order.named_paths.Goals as goal

pub returns : goal.returns
returns c = record {
  found = tt;
  none =
      not_once (map (λ text. text.now) c.args.texts.now) c.in-Some.tables.items (rw c.in-Some.is at c.in_ok-tables.ensures.found)
      (ap has_each_name_once (sym c.deref.ensures.value) ∙ sym c.if-names_differ.ensures);
}
