use Rattle.std.proofs.Common.{◌≡◌, ◌<◌, ◌++◌, ap, length, rules, subst, sym, ◌∙◌}
use Rattle.std.proofs.lemmas.Option.{IfSome_then}
use Rattle.std.specs.Io.BufRead.{take_through}
use Rattle.xp_live.proofs.LeftLemmas.{seen_one}
use Rattle.xp_live.specs.LeftCalls.{without_record}
use Rattle.xp_live.specs.steps.LeftCalls.{AreSeen}
use Rattle.xp_live.proofs.left_calls.LeftCalls.see_all.Goals as goal

pub loop-row-preserved : goal.loop-row-preserved
loop-row-preserved g c =
    let old = g.S.Read.remaining c.args.records.now in
    let now = g.S.Read.remaining c.loop-row.records in
    let next = g.S.Read.remaining c.read_until.new.self in
    let row = c.read_until.new.buf.items in
    let some : 0 < length row = search rules in
    let left : c.see.new.self ≡ without_record row c.loop-row.self = c.see.ensures ∙ ap (λ one. without_record one c.loop-row.self) c.as_slice.ensures.value in
    let is = IfSome_then now c.in_ok-read_until.ensures.bytes (λ rest grown. grown ∙ ap (λ front. front ++ take_through 10 rest) c.clear.ensures.items) in
    subst (AreSeen old next c.args.self.now) (sym left)
    (seen_one old now next c.args.self.now c.loop-row.self row c.loop-row.invariant is c.in_ok-read_until.ensures.rest some)
