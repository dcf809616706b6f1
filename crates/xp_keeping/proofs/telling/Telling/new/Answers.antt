use Rattle.std.proofs.Common.{[], refl}
use Rattle.std.proofs.lemmas.List.Elements.{All-nil}
use Rattle.xp_cdr.specs.Ended.{IsNamedBy}
use Rattle.xp_keeping.proofs.telling.Telling.new.Goals as goal

pub invariant_of-result : goal.invariant_of-result
invariant_of-result c = rw (c.new.ensures, c.new-2.ensures) ([], [], refl, All-nil (IsNamedBy c.args.subs), refl)
