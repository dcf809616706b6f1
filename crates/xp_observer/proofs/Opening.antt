-- The subscriptions with which an exchange is opened have been in force.
use Rattle.std.proofs.Common.{◌≡◌, List, [], refl}
use Rattle.xp_observer.specs.Shown.{AreNamesInForce, LineNames, names_of}
use Rattle.xp_subs.specs.Tables.{Tables}

pub named_at_first : (tables opening : Tables) (names : List LineNames) → tables ≡ opening → names ≡ names_of opening → AreNamesInForce tables names
named_at_first tables opening names same are = (opening, ([], refl, same), are)
