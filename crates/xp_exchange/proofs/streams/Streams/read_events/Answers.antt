use Rattle.std.proofs.Common.{◌≡◌, subst, set}
use Rattle.std.proofs.lemmas.List.Elements.{All-set}
use Rattle.xp_exchange.specs.steps.Acting.{IsBetweenFrames}
use Rattle.xp_exchange.specs.FrameEvents.{ReadsEvents}
use Rattle.xp_exchange.specs.Play.{unfinished_at}
use Rattle.xp_exchange.proofs.Idle.{between_at, heard_at, is_between, kept_at, lines_kept, rests, within_rests}
use Rattle.xp_exchange.proofs.streams.Streams.read_events.Goals as goal

pub invariant_of-self : goal.invariant_of-self
invariant_of-self g c = All-set IsBetweenFrames c.self.inside.streams.items c.from.result _ (is_between _ c.new.ensures) c.self.invariant

pub invariant_of-self-2 : goal.invariant_of-self-2
invariant_of-self-2 g c = All-set IsBetweenFrames c.self.inside.streams.items c.from.result _ c.in_default.ensures.between c.self.invariant

pub returns-clause-heard : goal.returns-clause-heard
returns-clause-heard g c =
    let within = within_rests c.self.inside.streams.items _ _ c.from.result c.self.view_is c.from.ensures c.requires in
    subst (λ unfinished. ReadsEvents c.args.arrival.modulus c.args.arrival.line c.args.arrival.moment (unfinished_at unfinished c.args.arrival.line) c.args.octets.now c.read_events.new.events.items (unfinished_at (rests (set c.self.inside.streams.items c.from.result c.read_events.new.stream)) c.args.arrival.line)) c.self.view_is
    (heard_at c.args.arrival.modulus c.args.arrival.moment c.self.inside.streams.items c.args.arrival.line c.from.result c.index_mut-stream.result.now c.read_events.new.stream _ _ within c.from.ensures c.index_mut-stream.ensures.value c.in_default.ensures.heard)

pub returns-clause-kept : goal.returns-clause-kept
returns-clause-kept g c =
    let within = within_rests c.self.inside.streams.items _ _ c.from.result c.self.view_is c.from.ensures c.requires in
    subst (λ unfinished. rests (set c.self.inside.streams.items c.from.result c.read_events.new.stream) ≡ set unfinished c.args.arrival.line (unfinished_at (rests (set c.self.inside.streams.items c.from.result c.read_events.new.stream)) c.args.arrival.line)) c.self.view_is
    (kept_at c.self.inside.streams.items c.args.arrival.line c.from.result c.read_events.new.stream within c.from.ensures)

pub read_events-requires : goal.read_events-requires
read_events-requires g c =
    let within = within_rests c.self.inside.streams.items _ _ c.from.result c.self.view_is c.from.ensures c.requires in
    between_at c.self.inside.streams.items c.from.result c.index_mut-stream.result.now within c.self.invariant c.index_mut-stream.ensures.value

pub returns-in-Err-clause-heard : goal.returns-in-Err-clause-heard
returns-in-Err-clause-heard g c = tt

pub returns-in-Err-clause-kept : goal.returns-in-Err-clause-kept
returns-in-Err-clause-kept g c = tt

pub returns-in-Err-clause-lines : goal.returns-in-Err-clause-lines
returns-in-Err-clause-lines g c = lines_kept c.self.inside.streams.items _ c.from.result c.new.result c.self.view_is

pub returns-in-Err-clause-fit : goal.returns-in-Err-clause-fit
returns-in-Err-clause-fit g c = tt

pub returns-clause-lines : goal.returns-clause-lines
returns-clause-lines g c = lines_kept c.self.inside.streams.items _ c.from.result c.read_events.new.stream c.self.view_is

pub returns-clause-fit : goal.returns-clause-fit
returns-clause-fit g c = c.in_default.ensures.fit
