use Rattle.std.proofs.Common.{◌∙◌, subst, sym}
use Rattle.xp_live.specs.Kept.{Naming}
use Rattle.xp_sink.specs.Seen.{IsSeenOf}
use Rattle.xp_live.proofs.live_keeper.LiveKeeper.text_of.Goals as goal

pub of-requires : goal.of-requires
of-requires g c = (
  record { opening = c.self.inside.opening.value; names = c.self.inside.names },
  record {
    view = c.args.view.now;
    seen = subst (λ (naming : Naming). IsSeenOf naming.opening c.args.view.now) (sym c.self.view_is) c.requires.seen;
    lines = c.self.invariant;
    moment = c.args.moment;
    calls_are = c.as_slice.ensures.value ∙ c.in_ok-calls.ensures;
  },
)
