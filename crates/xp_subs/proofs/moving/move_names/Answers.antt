use Rattle.std.proofs.Common.{rules}
use Rattle.std.proofs.lemmas.Map.Made.{map_same_pairs}
use Rattle.xp_subs.specs.steps.Places.{number_at}
use Rattle.xp_subs.proofs.moving.move_names.Goals as goal

pub returns : goal.returns
returns c = map_same_pairs _ (number_at c.args.places.now) _ (λ k v b w f called. search rules) _ _ c.retain.ensures.filtered
