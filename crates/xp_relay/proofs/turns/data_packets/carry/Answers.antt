use Rattle.std.proofs.Common.{sym, ap, ◌∙◌}
use Rattle.xp_relay.proofs.Endings.{along, still}
use Rattle.xp_relay.specs.declared.judged.Judged.TheVariants.{Accept}
use Rattle.xp_relay.specs.Direction.{acknowledged_count}
use Rattle.xp_relay.specs.Judgement.{judgement}
use Rattle.xp_relay.specs.Turns.{data_as}
use Rattle.xp_relay.proofs.turns.data_packets.carry.Goals as goal

pub returns-in-Discard : goal.returns-in-Discard
returns-in-Discard g c = λ s r hs hr.
    let judged = c.in-Discard.ensures.judged s r hs hr ∙ ap (λ n. judgement c.args.numbers.ps c.args.numbers.pr n s r) c.len.ensures in
    along (λ j. data_as c.args.here c.args.carried j (acknowledged_count c.args.numbers.pr r) s r) (sym judged) (still hs hr c.requires.empty)

pub returns-in-Reset : goal.returns-in-Reset
returns-in-Reset g c = λ s r hs hr.
    let judged = c.in-Reset.ensures.judged s r hs hr ∙ ap (λ n. judgement c.args.numbers.ps c.args.numbers.pr n s r) c.len.ensures in
    along (λ j. data_as c.args.here c.args.carried j (acknowledged_count c.args.numbers.pr r) s r) (sym judged) (c.fail.ensures s r hs hr)

pub returns-in-Some : goal.returns-in-Some
returns-in-Some g c = λ s r hs hr.
    let judged = c.in-Accept.ensures.judged s r hs hr ∙ ap (λ n. judgement c.args.numbers.ps c.args.numbers.pr n s r) c.len.ensures in
    along (λ j. data_as c.args.here c.args.carried j (acknowledged_count c.args.numbers.pr r) s r) (sym judged)
    (along (λ o. data_as c.args.here c.args.carried Accept o s r) (c.in-Some.ensures.told r hr) (c.accept.ensures s r hs hr))

pub returns-in-None : goal.returns-in-None
returns-in-None g c = λ s r hs hr.
    let judged = c.in-Accept.ensures.judged s r hs hr ∙ ap (λ n. judgement c.args.numbers.ps c.args.numbers.pr n s r) c.len.ensures in
    along (λ j. data_as c.args.here c.args.carried j (acknowledged_count c.args.numbers.pr r) s r) (sym judged)
    (along (λ o. data_as c.args.here c.args.carried Accept o s r) (c.in-None.ensures.told r hr) (still hs hr c.requires.empty))
