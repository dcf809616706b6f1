use Rattle.std.proofs.Common.{◌+◌, ◌<◌, ◌≤◌, ◌∷◌, [], All, arith, length, subst, sym, take}
use Rattle.std.proofs.lemmas.List.{take_all, take_more}
use Rattle.std.proofs.lemmas.List.Elements.{All-append, All-cons, All-nil}
use Rattle.xp_listening.specs.Prepared.{HasAddresses}
use Rattle.xp_subs.specs.Tables.{line_at, line_count, no_line}
use Rattle.xp_listening.proofs.listening.check_addresses.Goals as goal

pub loop-line-preserved : goal.loop-line-preserved
loop-line-preserved c =
    let subs = c.args.subs.now in
    let line = c.loop-line.line in
    let below = c.loop-line-test.true in
    let count = c.counts-line-end.ensures.lines in
    let within : line < line_count subs = omega (arith, below, count) in
    subst (All HasAddresses) (sym (take_more subs.lines line no_line within))
    (All-append HasAddresses (take line subs.lines) (line_at subs line ∷ []) c.loop-line.invariant
    (All-cons HasAddresses (line_at subs line) [] c.in_ok-check_line.ensures.addresses (All-nil HasAddresses)))

pub returns-clause-addresses : goal.returns-clause-addresses
returns-clause-addresses c =
    let lines = c.args.subs.now.lines in
    let over = c.loop-line-test.false in
    let count = c.counts-line-end.ensures.lines in
    let all : length lines ≤ c.loop-line.line = omega (arith, over, count) in
    subst (All HasAddresses) (take_all c.loop-line.line lines all) c.loop-line.invariant
