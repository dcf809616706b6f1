use Rattle.std.proofs.Common.{◌+◌, arith, subst, sym, take}
use Rattle.std.proofs.lemmas.List.{length-take-le}
use Rattle.xp_tcp.specs.Admissions.{IsRefused}
use Rattle.xp_listening.specs.Accesses.{AreSources}
use Rattle.xp_listening.proofs.Addresses.{are_count, are_next}
use Rattle.xp_listening.proofs.listening.admission_of.Goals as goal

pub unreachable-requires-in-Err-Full : goal.unreachable-requires-in-Err-Full
unreachable-requires-in-Err-Full c =
    let sources = c.sources_of-sources.result.now in
    let place = c.loop-place.place in
    let refused = subst (IsRefused c.loop-place.admission c.in-Some.text.now) c.in-Err-Full.field-0-is c.in-Err-Full.ensures.refused in
    let full = refused.1 in
    let below = c.loop-place-test.true in
    let end = c.len-place-end.ensures.count in
    let most = c.len-place-end.ensures.most in
    let count = are_count (take place sources) c.loop-place.admission c.loop-place.invariant in
    let taken = length-take-le place sources (omega (arith, below, end)) in
    omega (arith, full, below, end, most, count, taken)

pub loop-place-preserved : goal.loop-place-preserved
loop-place-preserved c =
    let sources = c.sources_of-sources.result.now in
    let place = c.loop-place.place in
    let below = c.loop-place-test.true in
    let end = c.len-place-end.ensures.count in
    let adds = c.in-Ok.ensures.ok in
    subst (AreSources (take (place + 1) sources)) (sym adds.one_more)
    (are_next sources c.loop-place.admission place c.in-Some.text.now adds.source (omega (arith, below, end)) c.in-Some.ensures c.loop-place.invariant adds.named)
