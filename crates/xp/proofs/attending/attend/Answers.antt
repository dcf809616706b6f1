use Rattle.std.proofs.Common.{◌≡◌, IfSome, subst, sym}
use Rattle.xp.proofs.attending.attend.Goals as goal

-- what keeps the live calls is what was beside the lines
pub attend_named-requires-clause-live : goal.attend_named-requires-clause-live
attend_named-requires-clause-live g c _ _ = subst (λ keeper. IfSome keeper (λ live. live.opening ≡ c.args.subs)) (sym c.watching-console.ensures) c.requires.live
