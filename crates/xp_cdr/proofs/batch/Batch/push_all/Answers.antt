use Rattle.std.proofs.Common.{◌++◌, ◌∷◌, [], ap, arith, flat_map, sym, take, ◌∙◌}
use Rattle.std.proofs.lemmas.List.{take_more}
use Rattle.xp_cdr.specs.Details.{detail_text}
use Rattle.xp_cdr.specs.steps.Batch.{Texts, with_text, with_texts}
use Rattle.xp_cdr.proofs.GivenLemmas.{texts_cuts, texts_octets, texts_push}
use Rattle.xp_cdr.proofs.TextLemmas.{taken_back}
use Rattle.xp_cdr.proofs.batch.Batch.push_all.Goals as goal

pub returns-in-Err-clause-err : goal.returns-in-Err-clause-err
returns-in-Err-clause-err g c =
    let part_of = g.F.RecordFile.part_of in
    let text = detail_text c.args.run.now in
    let front = take c.loop-call.call-index c.args.calls.now in
    let first = c.self.inside in
    let last = c.self-in-loop-call.inside in
    let begun : Texts = record { octets = first.octets.items; count = first.count; cuts = first.cuts.items; part = first.part } in
    let kept =
    c.self-in-loop-call.view_is ∙ c.in-Err.ensures.err ∙ c.loop-call.invariant ∙ ap (λ (now : Texts). with_texts part_of text now front) (sym c.self.view_is) in
    let octets = ap (λ (texts : Texts). texts.octets) kept ∙ texts_octets part_of text begun front in
    let more = texts_cuts part_of text begun front in
    let cuts = ap (λ (texts : Texts). texts.cuts) kept ∙ more.1 in
    let octets_back = c.truncate.ensures.items ∙ taken_back last.octets.items first.octets.items (flat_map text front) c.len-octets.result octets (omega (arith, c.len-octets.ensures, first.octets.ok.0)) in
    let cuts_back = c.truncate-in-Err.ensures.items ∙ taken_back last.cuts.items first.cuts.items more.0 c.len-cuts.result cuts (omega (arith, c.len-cuts.ensures, first.cuts.ok.0)) in
    rw (octets_back, cuts_back) c.self.view_is

pub loop-call-preserved : goal.loop-call-preserved
loop-call-preserved g c =
    let part_of = g.F.RecordFile.part_of in
    let text = detail_text c.args.run.now in
    let calls = c.args.calls.now in
    let place = c.loop-call.call-index in
    let call = c.call-item.result in
    c.in-Ok.ensures.ok
    ∙ ap (λ part. with_text c.loop-call.self part (text call)) c.part_at-own.ensures
    ∙ ap (λ (texts : Texts). with_text texts (part_of call.charging.ended) (text call)) c.loop-call.invariant
    ∙ sym (texts_push part_of text c.args.self.now (take place calls) call)
    ∙ ap (with_texts part_of text c.args.self.now)
    (sym (take_more calls place call c.loop-call-test.true ∙ ap (λ one. take place calls ++ one ∷ []) (sym c.call-item.is)))
