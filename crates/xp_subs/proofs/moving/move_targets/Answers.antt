use Rattle.std.proofs.Common.{rules}
use Rattle.std.proofs.lemmas.Map.Made.{map_same_pairs}
use Rattle.xp_subs.specs.steps.Moved.{moved_target}
use Rattle.xp_subs.specs.steps.Places.{number_at}
use Rattle.xp_subs.proofs.moving.move_targets.Goals as goal

pub returns : goal.returns
returns c = map_same_pairs _ (moved_target (number_at c.args.places.now)) _ (λ k v b w f called. search rules) _ _ c.retain.ensures.filtered
