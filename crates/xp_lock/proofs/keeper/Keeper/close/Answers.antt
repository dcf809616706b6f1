use Rattle.std.proofs.Common.{◌≡◌, ℕ, None, Some, ◌^◌, ◌<◌, ◌≤◌, ap, arith, length, map, refl, set, subst, sym, ◌∙◌}
use Rattle.std.proofs.lemmas.List.{length-replicate, length-set, nil_from_length}
use Rattle.std.proofs.lemmas.List.Elements.{All-cons, All-nil}
use Rattle.std.specs.Vec.Iter.{into_iter_items}
use mathlib.Core.List.{IsPrefix}
use Rattle.xp_lock.specs.Outboxes.{outbox_at}
use Rattle.xp_lock.specs.Closing.{PassesMatch, PassMatches}
use Rattle.xp_lock.specs.steps.Closing.{AreWithin}
use Rattle.xp_seats.specs.Handed.{handed}
use Rattle.xp_lock.specs.Outgoing.{put_out_to}
use Rattle.xp_seats.specs.Views.{Seats, StartsWith, seen_by}
use Rattle.xp_subs.specs.Tables.{line_count}
use Rattle.xp_lock.proofs.Fronts.{seen_still}
use Rattle.xp_lock.proofs.Returned.{ComeBack, none_twice}
use Rattle.xp_lock.proofs.Taken.{Agree, AreNoted, IsNoted, agree_before, can_count, counted_all, few_taken, none_within, noted_here, one_within}
use Rattle.xp_lock.proofs.keeper.Keeper.close.Goals as goal

pub give_back-requires : goal.give_back-requires
give_back-requires g c = c.self.invariant.table_is

pub take_back-requires-clause-outboxes : goal.take_back-requires-clause-outboxes
take_back-requires-clause-outboxes g c = ap (map (λ b. b.queue)) c.loop-pass.invariant.outboxes ∙ c.self.invariant.queues_are

pub loop-pass-init : goal.loop-pass-init
loop-pass-init g c =
    let gives = c.into_iter-pass-iterator.ensures.into_iter_gives in
    let history = c.args.self.history in
    record {
      can_next = tt;
      is_finite = tt;
      many = ap length gives.0 ∙ sym c.args.passes.ok.0 ∙ sym gives.1;
      table = ap (λ (s : Seats _). s.table) c.give_back.ensures.seats ∙ c.self.invariant.table_is;
      fewer = λ line seen there. there;
      outboxes = refl;
      told = λ told. subst (PassesMatch history) gives.0 told;
      once = λ come. subst (ComeBack c.give_back.new.seats.known) gives.0 come;
      lines = refl;
      within = subst (λ counts. AreWithin counts history) (sym c.requires.zeros) (none_within (line_count g.N.Name.subs) history);
      noted = λ later agree noted. subst (AreNoted later) gives.0 noted;
    }

pub loop-pass-preserved : goal.loop-pass-preserved
loop-pass-preserved g c =
    let was = c.loop-pass.invariant in
    let kept = c.self.invariant in
    let pass = c.in-Some.pass in
    let core = c.self.inside.core in
    let history = c.args.self.history in
    let rest = into_iter_items c.next.new.self in
    let items = c.in-Some.ensures.steps.0 in
    let fewer = c.in-Some.ensures.steps.1 in
    let left = ap length items in
    let many = was.many in
    let back = c.take_back.ensures in
    let known = c.loop-pass.seats.known in
    let after : c.take_back.new.seats.known ≡ set known pass.line None = ap (λ (s : Seats _). s.known) back.seats in
    let line : c.pass.inside.line ≡ pass.line = ap (λ p. p.line) c.pass.view_is in
    let mine : pass.line < line_count g.N.Name.subs = let within = c.pass.invariant.2 in omega (arith, line, within) in
    -- what the keeper knew of it
    let first = seen_still c.self.inside.seats.known (line_count g.N.Name.subs) pass.line pass.seen
    (ap (λ (s : Seats _). seen_by s.known pass.line) (sym c.give_back.ensures.seats) ∙ was.fewer pass.line pass.seen back.agree) in
    let same : core.history ≡ history = ap (λ s. s.history) c.self.view_is in
    let there : pass.line < length c.self.inside.outboxes.items = let before = back.there in let still = ap length was.outboxes in omega (arith, before, still) in
    let put = ap (λ boxes. (outbox_at boxes pass.line).put) was.outboxes ∙ kept.matches.put pass.line there ∙ ap (put_out_to pass.line) same in
    let one : PassMatches history pass = record {
      seen = subst (λ h. StartsWith h pass.seen) same (kept.fronts.fronts pass.line pass.seen first);
      own = ap (handed pass.line) (sym same) ∙ kept.fronts.own pass.line pass.seen mine first;
      taken = subst (IsPrefix pass.taken) put back.taken;
    } in
    let counts = c.loop-pass.taken.items in
    let placed : pass.line < length counts =
    let lines = was.lines in
    let zeros = ap length c.requires.zeros ∙ length-replicate {A = ℕ} (line_count g.N.Name.subs) 0 in
    omega (arith, mine, lines, zeros) in
    let few : length core.history ≤ 2 ^ 59 =
    let many = c.count-entries.ensures.count in
    let most = c.count-entries.ensures.few in
    omega (arith, many, most) in
    let exact : c.take_back.result ≡ length pass.taken = back.count
    (can_count core.subs core.history _ pass c.count-entries.ensures.run few (subst (λ h. IsPrefix pass.taken (put_out_to pass.line h)) (sym same) one.taken)) in
    let put_in : set counts c.pass.inside.line c.take_back.result ≡ set counts pass.line (length pass.taken) = λ i. set counts (line i) (exact i) in
    record {
      can_next = tt;
      is_finite = tt;
      many = omega (arith, left, fewer, many);
      table = ap (λ (s : Seats _). s.table) back.seats ∙ was.table;
      fewer = λ other seen is. was.fewer other seen (seen_still known pass.line other seen (subst (λ k. seen_by k other ≡ Some seen) after is));
      outboxes = back.outboxes ∙ was.outboxes;
      told = λ told. was.told (subst (PassesMatch history) (sym items) (All-cons (PassMatches history) pass rest one told));
      once = λ come. was.once (subst (ComeBack known) (sym items) (back.agree, subst (λ k. ComeBack k rest) after come));
      lines = length-set counts c.pass.inside.line c.take_back.result ∙ was.lines;
      within = subst (λ counted. AreWithin counted history) (sym put_in)
          (one_within counts history pass.line (length pass.taken) was.within placed (few_taken history pass one.taken));
      noted = λ later agree noted.
          let agrees : Agree (set known pass.line None) (set counts pass.line (length pass.taken)) later =
          subst (λ counted. Agree (set known pass.line None) counted later) put_in (subst (λ k. Agree k (set counts c.pass.inside.line c.take_back.result) later) after agree) in
          was.noted later (agree_before known counts later pass.line (length pass.taken) pass.seen back.agree agrees)
          (subst (AreNoted later) (sym items) (All-cons (IsNoted later) pass rest (noted_here known counts later pass.line (length pass.taken) pass.seen back.agree placed agrees) noted));
    }

pub returns-clause-told : goal.returns-clause-told
returns-clause-told g c =
    let was = c.loop-pass.invariant in
    let history = c.args.self.history in
    let none = nil_from_length (into_iter_items c.loop-pass.pass-iterator) (was.many ∙ c.in-None.ensures.steps.0) in
    let book = ap (λ b. b.history) c.new.ensures ∙ ap (λ s. s.history) c.self.view_is in
    subst (λ h. PassesMatch h c.args.passes.items) (sym book) (was.told (subst (PassesMatch history) (sym none) (All-nil (PassMatches history))))

pub returns-clause-once : goal.returns-clause-once
returns-clause-once g c =
    let was = c.loop-pass.invariant in
    let none = nil_from_length (into_iter_items c.loop-pass.pass-iterator) (was.many ∙ c.in-None.ensures.steps.0) in
    none_twice c.give_back.new.seats.known c.args.passes.items (was.once (subst (ComeBack c.loop-pass.seats.known) (sym none) tt))

pub index_mut-requires : goal.index_mut-requires
index_mut-requires g c =
    let within = c.pass.invariant.2 in
    let lines = c.loop-pass.invariant.lines in
    let zeros = ap length c.requires.zeros ∙ length-replicate {A = ℕ} (line_count g.N.Name.subs) 0 in
    omega (arith, within, lines, zeros, c.loop-pass.taken.ok.0)

pub new-requires-clause-within : goal.new-requires-clause-within
new-requires-clause-within g c =
    subst (AreWithin c.loop-pass.taken.items) (sym (ap (λ s. s.history) c.self.view_is)) c.loop-pass.invariant.within

pub new-requires-clause-forced : goal.new-requires-clause-forced
new-requires-clause-forced g c = c.self.invariant.forced

pub returns-clause-taken : goal.returns-clause-taken
returns-clause-taken g c =
    let was = c.loop-pass.invariant in
    let history = c.args.self.history in
    let passes = c.args.passes.items in
    let counts = c.loop-pass.taken.items in
    let none = nil_from_length (into_iter_items c.loop-pass.pass-iterator) (was.many ∙ c.in-None.ensures.steps.0) in
    let book = ap (λ b. b.history) c.new.ensures ∙ ap (λ s. s.history) c.self.view_is in
    let told = subst (λ h. PassesMatch h passes) (sym book) (was.told (subst (PassesMatch history) (sym none) (All-nil (PassMatches history)))) in
    let noted = was.noted counts (λ line there. refl) (subst (AreNoted counts) (sym none) (All-nil (IsNoted counts))) in
    counted_all c.new.result passes told (subst (λ counted. AreNoted counted passes) (sym (ap (λ b. b.taken) c.new.ensures)) noted)

-- what the keeper knew of the recorder
pub returns-clause-recorded : goal.returns-clause-recorded
returns-clause-recorded g c =
    subst (λ history. StartsWith history c.args.recorder.seen) (sym (ap (λ b. b.history) c.new.ensures))
    (c.self.invariant.fronts.fronts (line_count g.N.Name.subs) c.args.recorder.seen c.give_back.ensures.agree)

pub returns-clause-given : goal.returns-clause-given
returns-clause-given g c =
    ap (λ b. b.given) c.new.ensures ∙ c.self.invariant.fronts.recorded c.args.recorder.seen c.give_back.ensures.agree ∙ sym c.give_back.ensures.received
