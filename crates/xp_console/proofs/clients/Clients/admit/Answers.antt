-- The moments of the connections, with that of the one that was taken.
use Rattle.std.proofs.Common.{◌≡◌, ◌∙◌, ap, arith, length, length-append, refl, sym}
use Rattle.std.proofs.lemmas.List.{length-map, map-append}
use Rattle.xp_console.proofs.clients.Clients.admit.Goals as goal

pub returns-then-len-ge-MOST_CLIENTS-clause-ok : goal.returns-then-len-ge-MOST_CLIENTS-clause-ok
returns-then-len-ge-MOST_CLIENTS-clause-ok g c =
    let same : length c.args.self.now ≡ length c.self.inside.clients.items = ap length (sym c.self.view_is) ∙ length-map c.self.inside.clients.items (λ client. client.ends) in
    (omega arith, refl)

pub invariant_of-self : goal.invariant_of-self
invariant_of-self g c = rw c.in_err-reserve.ensures.items c.self.invariant

pub invariant_of-self-2 : goal.invariant_of-self-2
invariant_of-self-2 g c = rw (c.push_reserved.ensures.items, c.in_ok-reserve.ensures.items, length-append) (omega arith)

pub returns-clause-ok : goal.returns-clause-ok
returns-clause-ok g c =
    let same : length c.args.self.now ≡ length c.self.inside.clients.items = ap length (sym c.self.view_is) ∙ length-map c.self.inside.clients.items (λ client. client.ends) in
    (omega arith, rw (c.push_reserved.ensures.items, c.in_ok-reserve.ensures.items, map-append, c.self.view_is, c.new.ensures, c.saturating_add-ends.ensures) refl)
