use Rattle.std.proofs.Common.{nat_eq, rules, tests}
use Rattle.std.proofs.lemmas.Iterator.{YieldsList-from_slice}
use Rattle.std.proofs.lemmas.Iterator.Search.{find_from_yields_List}
use Rattle.xp_summary.proofs.station_warnings.membership.Goals as goal

pub returns : goal.returns
returns c =
    let found = find_from_yields_List (λ held. nat_eq held.index c.args.index) _ _ _ c.find.ensures.ran (YieldsList-from_slice c.args.station.now.memberships.items cc) (λ x b q k. search (rules, tests)) in
    search (rules, found)
