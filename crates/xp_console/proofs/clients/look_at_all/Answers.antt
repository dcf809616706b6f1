-- A connection is closed, or stays behind those that stay.
use Rattle.std.proofs.Common.{◌≡◌, ◌+◌, ◌<◌, ◌≤◌, All, Contains, get_or, length, map, remove, slice_set, take, sym, subst, ap, ◌∙◌, arith}
use Rattle.std.proofs.lemmas.List.{get_or-map, length-map, take_all}
use Rattle.std.proofs.lemmas.List.Edits.{length-remove}
use Rattle.std.proofs.lemmas.List.Elements.{All-contains_itself, All-more}
use Rattle.xp_console.specs.declared.client.Client.{Client}
use Rattle.xp_console.proofs.Answered.{answered_then, none_answered}
use Rattle.xp_console.proofs.Removed.{All-remove, All-take-remove, map-remove, map-set_same}
use Rattle.xp_console.proofs.clients.look_at_all.Goals as goal

pub loop-place-init : goal.loop-place-init
loop-place-init g c =
    let ends_of = λ (client : Client g.row.T.Denot). client.ends in
    record {
      within = omega arith;
      fewer = omega arith;
      kept = All-contains_itself (map ends_of c.args.clients.now.items);
      young = λ k d h. absurd (omega arith);
      answered = none_answered _ _;
    }

pub loop-place-preserved-in-Over : goal.loop-place-preserved-in-Over
loop-place-preserved-in-Over g c =
    let ends_of = λ (client : Client g.row.T.Denot). client.ends in
    let clients = c.loop-place.clients.items in
    let before = map ends_of clients in
    let place = c.loop-place.place in
    let count : length before ≡ length clients = length-map clients ends_of in
    let here : place < length before = omega arith in
    let looked : map ends_of (slice_set clients place c.look.new.self) ≡ before =
    map-set_same ends_of clients place c.look.new.self c.index_mut.result.now (c.look.ensures.ends ∙ ap ends_of c.index_mut.ensures.value) in
    let e : map ends_of c.remove.new.self.items ≡ remove before place =
    ap (map ends_of) c.remove.ensures.items ∙ map-remove ends_of (slice_set clients place c.look.new.self) place ∙ ap (λ t. remove t place) looked in
    let shorter : length (remove before place) + 1 ≡ length before = length-remove before place here in
    let old = map ends_of c.args.clients.now.items in
    record {
      within = subst (λ t. place ≤ length t) (sym e) (omega arith);
      fewer = subst (λ t. length t ≤ length old) (sym e) (omega arith);
      kept = subst (All (Contains old)) (sym e) (All-remove (Contains old) before place c.loop-place.invariant.kept);
      young = subst (λ t. All (λ ends. c.args.moment < ends) (take place t)) (sym e) (All-take-remove (λ ends. c.args.moment < ends) before place (omega arith) c.loop-place.invariant.young);
      answered = answered_then _ _ _ _ c.loop-place.invariant.answered c.look.ensures.answered;
    }

pub loop-place-preserved-in-Waits : goal.loop-place-preserved-in-Waits
loop-place-preserved-in-Waits g c =
    let ends_of = λ (client : Client g.row.T.Denot). client.ends in
    let clients = c.loop-place.clients.items in
    let before = map ends_of clients in
    let place = c.loop-place.place in
    let count : length before ≡ length clients = length-map clients ends_of in
    let here : place < length before = omega arith in
    let ends : c.look.new.self.ends ≡ get_or before place 0 =
    c.look.ensures.ends ∙ ap ends_of c.index_mut.ensures.value ∙ sym (get_or-map ends_of clients place c.index_mut.result.now 0 (omega arith)) in
    let e : map ends_of (slice_set clients place c.look.new.self) ≡ before =
    map-set_same ends_of clients place c.look.new.self c.index_mut.result.now (c.look.ensures.ends ∙ ap ends_of c.index_mut.ensures.value) in
    let old = map ends_of c.args.clients.now.items in
    record {
      within = subst (λ t. place + 1 ≤ length t) (sym e) (omega arith);
      fewer = subst (λ t. length t ≤ length old) (sym e) (omega arith);
      kept = subst (All (Contains old)) (sym e) c.loop-place.invariant.kept;
      young = subst (λ t. All (λ ends. c.args.moment < ends) (take (place + 1) t)) (sym e)
          (All-more (λ ends. c.args.moment < ends) before place 0 here c.loop-place.invariant.young (subst (λ ends. c.args.moment < ends) ends c.in-Waits.ensures.young));
      answered = answered_then _ _ _ _ c.loop-place.invariant.answered c.look.ensures.answered;
    }

pub loop-place-preserved : goal.loop-place-preserved
loop-place-preserved g c =
    let ends_of = λ (client : Client g.row.T.Denot). client.ends in
    let clients = c.loop-place.clients.items in
    let before = map ends_of clients in
    let place = c.loop-place.place in
    let count : length before ≡ length clients = length-map clients ends_of in
    let here : place < length before = omega arith in
    let ends : c.look.new.self.ends ≡ get_or before place 0 =
    c.look.ensures.ends ∙ ap ends_of c.index_mut.ensures.value ∙ sym (get_or-map ends_of clients place c.index_mut.result.now 0 (omega arith)) in
    let e : map ends_of (slice_set clients place c.look.new.self) ≡ before =
    map-set_same ends_of clients place c.look.new.self c.index_mut.result.now (c.look.ensures.ends ∙ ap ends_of c.index_mut.ensures.value) in
    let old = map ends_of c.args.clients.now.items in
    record {
      within = subst (λ t. place + 1 ≤ length t) (sym e) (omega arith);
      fewer = subst (λ t. length t ≤ length old) (sym e) (omega arith);
      kept = subst (All (Contains old)) (sym e) c.loop-place.invariant.kept;
      young = subst (λ t. All (λ ends. c.args.moment < ends) (take (place + 1) t)) (sym e)
          (All-more (λ ends. c.args.moment < ends) before place 0 here c.loop-place.invariant.young (subst (λ ends. c.args.moment < ends) ends c.in-Goes.ensures.young));
      answered = answered_then _ _ _ _ c.loop-place.invariant.answered c.look.ensures.answered;
    }

pub returns-clause-kept : goal.returns-clause-kept
returns-clause-kept g c =
    let ends_of = λ (client : Client g.row.T.Denot). client.ends in
    let clients = c.loop-place.clients.items in
    let count : length (map ends_of clients) ≡ length clients = length-map clients ends_of in
    record {
      fewer = c.loop-place.invariant.fewer;
      kept = c.loop-place.invariant.kept;
      young = subst (All (λ ends. c.args.moment < ends)) (take_all c.loop-place.place (map ends_of clients) (omega arith)) c.loop-place.invariant.young;
    }
