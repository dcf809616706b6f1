use Rattle.std.proofs.Common.{◌≡◌, ◌+◌, ◌-◌, ◌^◌, Some, [], ◌∷◌, ap, arith, length, length-append, sym, ◌∙◌}
use Rattle.std.specs.Prelude.{min}
use Rattle.xp_lock.proofs.Taken.{count_more}
use Rattle.xp_lock.proofs.exchange.Exchange.next_out.Goals as goal

pub invariant_of-pass-2 : goal.invariant_of-pass-2
invariant_of-pass-2 g c =
    let was = c.pass.invariant in
    let item = c.in_ok-item.ensures.item in
    let before = c.pass.inside.outbox.taken in
    let long : length c.take.new.self.taken ≡ length before + 1 =
    let taken = ap (λ e. length e.taken) item in
    let all = length-append before (c.in_ok-item.item ∷ []) in
    omega (arith, taken, all) in
    let more = count_more (length before) c.pass.inside.count _ was.5 c.saturating_add-pass-inside.ensures in
    (was.0, was.1, was.2, was.3, was.4 ∙ ap (λ e. Some e.queue) (sym item), more ∙ ap (λ n. min n (2 ^ 64 - 1)) (sym long), ap (λ e. e.owed) item ∙ was.6)
