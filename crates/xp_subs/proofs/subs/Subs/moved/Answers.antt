use Rattle.std.proofs.Common.{ap, length, map, refl, ◌∙◌}
use Rattle.std.proofs.lemmas.List.{length-map, with_items_is}
use Rattle.xp_subs.specs.Laid.{station_with}
use Rattle.xp_subs.specs.steps.Places.{number_at}
use Rattle.xp_subs.proofs.LaidLemmas.{moved_keeps, moved_stations}
use Rattle.xp_subs.proofs.subs.Subs.moved.Goals as goal

pub invariant_of-self : goal.invariant_of-self
invariant_of-self c =
    let place = number_at c.args.places.now in
    moved_keeps _ c.self.inside c.args.self place c.args.lines.items c.self.view_is c.self.invariant c.requires
    (moved_stations c.self.inside c.args.self place c.args.lines.items c.self.view_is
    (with_items_is c.self.inside.stations c.move_stations.new.stations
    (ap length c.move_stations.ensures ∙ length-map _ (station_with place) ∙ c.deref_mut.ensures.len) ∙ c.move_stations.ensures ∙ ap (map (station_with place)) c.deref_mut.ensures.value))
    c.move_targets.ensures c.move_names.ensures refl
