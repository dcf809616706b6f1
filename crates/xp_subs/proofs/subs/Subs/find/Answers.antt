use Rattle.std.proofs.Common.{◌≡◌, Some}
use Rattle.xp_subs.specs.Consistency.{tables}
use Rattle.xp_subs.specs.Sound.{IsTarget}
use Rattle.xp_subs.specs.Tables.{target_of}
use Rattle.xp_subs.proofs.TableLemmas.{IfSome-each}
use Rattle.xp_subs.proofs.subs.Subs.find.Goals as goal

pub returns-clause-target : goal.returns-clause-target
returns-clause-target c =
    IfSome-each (IsTarget c.args.self.now) c.copied.result (λ target is.
    let found : target_of (tables c.self.inside) c.args.address.now ≡ Some target =
    let kept = c.self.invariant.targets c.args.address.now in cc in
    rw (← c.self.view_is) (c.self.invariant.sound.target c.args.address.now target found))
