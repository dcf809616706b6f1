use Rattle.std.proofs.Common.{arith, rules}
use Rattle.std.proofs.lemmas.Bool.{false≢true}
use Rattle.xp_door.proofs.Stations.{all_of_one, not_of_one}
use Rattle.xp_door.proofs.choosing.is_one_station.Goals as goal

pub returns-in-Some : goal.returns-in-Some
returns-in-Some c =
    let candidates = c.args.candidates.now in
    let index = c.loop-candidate.candidate-index in
    let below = c.loop-candidate-test.true in
    let found = c.loop-candidate.invariant.1 c.in-Some.first c.in-Some.is in (
      λ no. absurd (false≢true no),
      λ one. absurd (not_of_one c.args.call.now candidates found.0 index c.in-Some.first c.candidate-item.result (omega (arith, found.1, below)) found.2 (omega (arith, below)) c.candidate-item.is (search rules) (search rules) one),
    )

pub returns : goal.returns
returns c =
    let candidates = c.args.candidates.now in
    let end = c.loop-candidate-test.false in (
      λ yes. all_of_one c.args.call.now candidates c.loop-candidate.station (λ k other within behind. c.loop-candidate.invariant.0 k other (omega (arith, within, end)) behind),
      λ one. search rules,
    )
