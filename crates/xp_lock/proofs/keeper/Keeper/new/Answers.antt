use Rattle.std.proofs.Common.{[], ap, subst, sym}
use Rattle.xp_lock.proofs.Fronts.{first_fronts}
use Rattle.xp_lock.proofs.Histories.{none_forced}
use Rattle.xp_subs.specs.Tables.{line_count}
use Rattle.xp_lock.specs.Histories.{AreForced}
use Rattle.xp_lock.specs.steps.Keeping.{AreFronts}
use Rattle.xp_lock.specs.steps.Outboxes.{OutboxesMatch}
use Rattle.xp_lock.proofs.keeper.Keeper.new.Goals as goal

pub invariant_of-result : goal.invariant_of-result
invariant_of-result g c =
    let needs = c.requires in
    let lines = line_count g.N.Name.subs in
    let known = ap (λ s. s.known) needs.seats in
    record {
      subs_are = needs.subs;
      queues_are = needs.queues;
      table_is = ap (λ s. s.table) needs.seats;
      matches = subst (λ history. OutboxesMatch c.args.core.subs history c.args.outboxes.items) (sym needs.history) needs.matches;
      forced = subst (AreForced c.args.core.subs) (sym needs.history) (none_forced c.args.core.subs);
      fronts =
          subst (λ history. AreFronts lines history c.args.core.given c.args.seats.known) (sym needs.history)
          (subst (λ given. AreFronts lines [] given c.args.seats.known) (sym needs.given) (subst (AreFronts lines [] []) (sym known) (first_fronts lines)));
    }
