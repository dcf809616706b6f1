-- Lines are given up before a reload, one after the other.
use Rattle.std.proofs.Common.{◌≡◌, ℕ, ◌+◌, ◌*◌, ◌-◌, ◌<◌, ◌≤◌, true, false, List, [], ◌∷◌, ◌++◌, length, get_or, refl, ap, sym, subst, ◌∙◌, inl, inr, arith, append_assoc, append-nil, length-append}
use Rattle.std.proofs.lemmas.Bool.{cases_eq}
use Rattle.std.proofs.lemmas.Grind.{flat_map-append}
use Rattle.std.proofs.lemmas.List.{get_or_default}
use Rattle.std.proofs.lemmas.List.Kept.{AllPairs-from_increasing}
use Rattle.xp_outbox.specs.Ends.{Putting}
use Rattle.xp_subs.specs.Tables.{Tables, line_count}
use Rattle.xp_step.specs.declared.entry.Entry.{Entry}
use Rattle.xp_step.specs.declared.event.What.TheVariants.{Stall}
use Rattle.xp_step.specs.declared.output.Outgoing.{Outgoing}
use Rattle.xp_step.specs.Exchange.{Exchange, world_of}
use Rattle.xp_step.specs.InForce.{in_force}
use Rattle.xp_step.specs.Run.{Run}
use Rattle.xp_step.specs.Step.{Step}
use Rattle.xp_step.specs.Worlds.{world_after}
use Rattle.xp_step.proofs.RunLemmas.{run_push}
use Rattle.xp_machine.specs.Channel.{is_off}
use Rattle.xp_machine.specs.World.{World, opening, state_at}
use Rattle.xp_core.specs.Records.{records_of}
use Rattle.xp_core.specs.Reload.{AreGoing, MayReplace, MustGo}
use Rattle.xp_core.specs.steps.Stalls.{stall_of}
use Rattle.xp_core.proofs.GivenUp.{goes_still, gone, in_force_still, may_replace_still, one_record}
use Rattle.xp_lock.specs.Locked.{IsFilled, Takes}
use Rattle.xp_lock.specs.Forced.{Forces, Stalls}
use Rattle.xp_lock.specs.Histories.{AreGivenUp, Forcing, IsForcing, IsGivenUp, all_entries, entries_of}
use Rattle.xp_lock.specs.Reloading.{AreFilled}
use Rattle.xp_lock.specs.steps.GivingUp.{GivesLineUp}
use Rattle.xp_lock.specs.steps.Outboxes.{OutboxesMatch}
use Rattle.xp_lock.specs.steps.Stalling.{CanEnter, with_outboxes}
use Rattle.xp_lock.proofs.Histories.{entries_more, given_up_more}

-- ---- what stalls leave as it was

module _ {A : Type 0} (subs : Tables) where
  -- These stalls lead from this state to the last. They hinder no reload, bring no line back into service, and end a call each at most
  pub record AreStalled (before : List (Entry A)) (world : World) (stalls : List (Entry A)) (last : World) : Type 0 where
    pub run : Run subs (before ++ stalls) last
    pub may : (force next : Tables) → MayReplace force world next → MayReplace force last next
    pub still : (force next : Tables) (line : ℕ) → MustGo force last next line → MustGo force world next line
    pub force : in_force subs (before ++ stalls) ≡ in_force subs before
    pub records : length (records_of stalls) ≤ length stalls

  pub none_stalled : (before : List (Entry A)) (world : World) → Run subs before world → AreStalled before world [] world
  none_stalled before world run = grind (arith, append-nil)

  pub one_stalled : (before : List (Entry A)) (world : World) (stall : Entry A) (next : World) → Run subs before world → stall.event.what ≡ Stall
      → Step subs before world stall next → AreStalled before world (stall ∷ []) next
  one_stalled before world stall next run is step = record {
    run = run_push subs [] (opening (line_count subs)) before world stall next run step;
    may = may_replace_still subs before world stall next run step is;
    still = goes_still subs before world stall next run step is;
    force = in_force_still subs before world stall next run step is;
    records = let one = one_record subs before world stall next run step is in let all = length-append stall.records.items [] in omega (arith, one, all);
  }

  pub stalled_on : (before : List (Entry A)) (world : World) (stalls : List (Entry A)) (next : World) (more : List (Entry A)) (last : World)
      → AreStalled before world stalls next → AreStalled (before ++ stalls) next more last → AreStalled before world (stalls ++ more) last
  stalled_on before world stalls next more last one two = grind (arith, append_assoc, flat_map-append, length-append)

  pub all_stalled : (before : List (Entry A)) (world : World) (places : ℕ → ℕ) (entries stalls : List (Entry A)) (last : World)
      → Run subs (before ++ entries) world → Stalls subs before world places entries stalls last → AreStalled (before ++ entries) world stalls last
  all_stalled before world places entries [] last run same = subst (AreStalled (before ++ entries) world []) (sym same) (none_stalled (before ++ entries) world run)
  all_stalled before world places entries (stall ∷ stalls) last run forced =
      let one = one_stalled (before ++ entries) world stall forced.0 run forced.1 forced.3 in
      let back = append_assoc before entries (stall ∷ []) in
      let rest = all_stalled before forced.0 places (entries ++ stall ∷ []) stalls last (subst (λ xs. Run subs xs forced.0) back one.run) forced.4 in
      stalled_on (before ++ entries) world (stall ∷ []) forced.0 stalls last one (subst (λ xs. AreStalled xs forced.0 stalls last) (sym back) rest)

  module _ (before : List (Entry A)) (world : World) (places : ℕ → ℕ) (stall : Entry A) (stalls : List (Entry A)) (last : World) (run : Run subs before world)
      (is : stall.event.what ≡ Stall) (forces : Forces subs before world places stall stalls last) where
    later : AreStalled (before ++ stall ∷ []) forces.next stalls last
    later = all_stalled before forces.next places (stall ∷ []) stalls last (one_stalled before world stall forces.next run is forces.step).run forces.forced

    pub forced_stalled : AreStalled before world (stall ∷ stalls) last
    forced_stalled = stalled_on before world (stall ∷ []) forces.next stalls last (one_stalled before world stall forces.next run is forces.step) later

    -- its line need not go any more
    pub forced_gone : (force next : Tables) → MustGo force last next stall.event.line → ⊥
    forced_gone force next must =
        gone subs before world stall forces.next run forces.step is force next stall.event.line refl (later.still force next stall.event.line must)

-- ---- the outboxes

module _ {A : Type 0} where
  pub filled_more : (given_up : List (Forcing A)) (last : Forcing A) (outboxes between after : List (Putting (Outgoing A)))
      → AreFilled given_up outboxes between → IsFilled last between after → AreFilled (given_up ++ last ∷ []) outboxes after
  filled_more [] last outboxes between after filled one = (after, subst (λ first. IsFilled last first after) filled one, refl)
  filled_more (first ∷ given_up) last outboxes between after filled one =
      (filled.0, filled.1, filled_more given_up last filled.0 between after filled.2 one)

-- ---- one line after the other

-- how many of these are left
abbrev pub left_of : List ℕ → ℕ → ℕ
left_of lines at = length lines - at

pub item_is : (items going : List ℕ) (at : ℕ) → items ≡ going → at < length items → get_or items at 0 ≡ get_or going at (get_or items at 0)
item_is items going at same within = grind (arith, get_or_default)

module _ {A : Type 0} (core : Exchange A) (outboxes : List (Putting (Outgoing A))) (next : Tables) (moment : ℕ) (going : List ℕ) where
  abbrev force : Tables
  force = in_force core.subs core.history

  -- those of these lines that stand before this place are given up
  pub record GivingUp (now : Exchange A) (after : List (Putting (Outgoing A))) (at : ℕ) : Type 0 where
    pub given_up : List (Forcing A)
    pub are : AreGivenUp core.subs core.history next moment given_up
    pub filled : AreFilled given_up outboxes after
    pub stalled : AreStalled core.subs core.history (world_of core) (all_entries given_up) (world_of now)
    pub history : now.history ≡ core.history ++ all_entries given_up
    pub subs : now.subs ≡ core.subs
    pub given : now.given ≡ core.given
    pub waiting : now.waiting ≡ core.waiting ++ records_of (all_entries given_up)
    pub kept : OutboxesMatch now.subs now.history after
    pub left : (line : ℕ) → MustGo force (world_of now) next line → (k : ℕ) × (at ≤ k) × (k < length going) × (get_or going k line ≡ line)
    pub places : length now.history + 4 * left_of going at < core.subs.journal
    pub stalls : 4 * left_of going at ≤ now.stalls
    pub records : length (all_entries given_up) + 4 * left_of going at ≤ 4 * length going

  pub begins : (may : MayReplace force (world_of core) next) → AreGoing force (world_of core) next going → length core.history + 4 * length going < core.subs.journal
      → 4 * length going ≤ core.stalls → OutboxesMatch core.subs core.history outboxes → Run core.subs core.history (world_of core) → GivingUp core outboxes 0
  begins may are places stalls kept run = record {
    given_up = [];
    are = tt;
    filled = refl;
    stalled = none_stalled core.subs core.history (world_of core) run;
    history = sym (append-nil core.history);
    subs = refl;
    given = refl;
    waiting = sym (append-nil core.waiting);
    kept = kept;
    left = λ line must. let there = are.all line must in (there.0, omega arith, there.1, there.2);
    places = omega (arith, places);
    stalls = omega (arith, stalls);
    records = omega arith;
  }

  module _ (are : AreGoing force (world_of core) next going) (now : Exchange A) (after : List (Putting (Outgoing A))) (at : ℕ) (loop : GivingUp now after at) where
    -- in the end no line must go any more
    pub none_left : length going ≤ at → (line : ℕ) → MustGo force (world_of now) next line → ⊥
    none_left past line must = let there = loop.left line must in omega (arith, past, there.1, there.2)

    module _ (line : ℕ) (within : at < length going) (is : line ≡ get_or going at line) where
      -- a line higher up is another
      higher : (k : ℕ) (other : ℕ) → at < k → k < length going → get_or going k other ≡ other → line < other
      higher k other past there same =
          let apart = AllPairs-from_increasing going are.rising at k line past there in
          let that = get_or_default going k line other there ∙ same in
          omega (arith, apart, is, that)

      -- that line was given up before, as another one was
      pub passes : is_off (state_at (world_of now) line) ≡ true → GivingUp now after (at + 1)
      passes off = grind (arith, cases_eq, get_or_default)

      -- that line is given up
      module _ (on : is_off (state_at (world_of now) line) ≡ false) where
        must_go : MustGo force (world_of now) next line
        must_go = grind arith

        lowest : (other : ℕ) → other < line → MustGo force (world_of now) next other → ⊥
        lowest other below must = grind (arith, cases_eq, get_or_default, higher)

        pub is_line : line_count core.subs ≡ line_count force → line < line_count now.subs
        is_line same = let known = must_go.known in let there = ap line_count loop.subs in omega (arith, known, same, there)

        pub can : CanEnter (with_outboxes now after) (stall_of line moment)
        can = grind arith

        pub prepared : 4 ≤ now.stalls
        prepared = let had = loop.stalls in omega (arith, had, within)

        module _ (new : Exchange A) (last : List (Putting (Outgoing A))) (gives : GivesLineUp (with_outboxes now after) (stall_of line moment) (with_outboxes new last))
            (kept : OutboxesMatch new.subs new.history last) (used : now.stalls ≤ new.stalls + 4) where
          abbrev takes : Takes (with_outboxes now after) (stall_of line moment) gives.0 (with_outboxes new last)
          takes = gives.1

          abbrev forcing : Forcing A
          forcing = takes.entered.forcing

          abbrev so_far : List (Entry A)
          so_far = all_entries loop.given_up

          abbrev past : List (Entry A)
          past = core.history ++ so_far

          what : forcing.entry.event.what ≡ Stall
          what = ap (λ e. e.what) takes.entered.event_is

          here : forcing.entry.event.line ≡ line
          here = ap (λ e. e.line) takes.entered.event_is

          history_is : new.history ≡ past ++ entries_of forcing
          history_is = takes.entered.history ∙ ap (λ xs. xs ++ entries_of forcing) loop.history

          subs_are : new.subs ≡ core.subs
          subs_are = ap (λ l. l.subs) takes.rest ∙ loop.subs

          -- the states as the history has them
          world_is : world_of now ≡ world_after core.subs past
          world_is = ap (λ t. world_after t now.history) loop.subs ∙ ap (world_after core.subs) loop.history

          last_is : world_of new ≡ world_after core.subs (past ++ entries_of forcing)
          last_is = ap (λ t. world_after t new.history) subs_are ∙ ap (world_after core.subs) history_is

          one_forcing : IsForcing core.subs past forcing
          one_forcing = subst (λ xs. IsForcing core.subs xs forcing) loop.history (subst (λ t. IsForcing t now.history forcing) loop.subs takes.entered.forced)

          forces : Forces core.subs past (world_of now) forcing.places forcing.entry forcing.stalls (world_of new)
          forces = grind (arith, last_is, one_forcing, world_is)

          stalled : AreStalled core.subs past (world_of now) (entries_of forcing) (world_of new)
          stalled = forced_stalled core.subs past (world_of now) forcing.places forcing.entry forcing.stalls (world_of new) loop.stalled.run what forces

          -- whoever must go, seen from the history
          abbrev Goes : ℕ → Type 0
          Goes other = MustGo (in_force core.subs past) (world_after core.subs past) next other

          goes_there : (other : ℕ) → MustGo force (world_of now) next other → Goes other
          goes_there other must = subst (λ w. MustGo (in_force core.subs past) w next other) world_is (subst (λ t. MustGo t (world_of now) next other) (sym loop.stalled.force) must)

          goes_back : (other : ℕ) → Goes other → MustGo force (world_of now) next other
          goes_back other must = subst (λ t. MustGo t (world_of now) next other) loop.stalled.force (subst (λ w. MustGo (in_force core.subs past) w next other) (sym world_is) must)

          one_given_up : IsGivenUp core.subs past next moment forcing
          one_given_up = grind (arith, goes_back, goes_there, here, lowest, must_go, one_forcing, what)

          grown : all_entries (loop.given_up ++ forcing ∷ []) ≡ so_far ++ entries_of forcing
          grown = entries_more loop.given_up forcing

          pub goes_on : GivingUp new last (at + 1)
          goes_on = record {
            given_up = loop.given_up ++ forcing ∷ [];
            are = given_up_more core.subs core.history next moment loop.given_up forcing loop.are one_given_up;
            filled = filled_more loop.given_up forcing outboxes after last loop.filled takes.filled;
            stalled = subst (λ xs. AreStalled core.subs core.history (world_of core) xs (world_of new)) (sym grown)
                (stalled_on core.subs core.history (world_of core) so_far (world_of now) (entries_of forcing) (world_of new) loop.stalled stalled);
            history = history_is ∙ append_assoc core.history so_far (entries_of forcing) ∙ ap (λ xs. core.history ++ xs) (sym grown);
            subs = subs_are;
            given = ap (λ l. l.given) takes.rest ∙ loop.given;
            waiting = grind (arith, append_assoc, flat_map-append, grown);
            kept = kept;
            left = λ other must.
                let there = loop.left other (stalled.still force next other must) in
                elim (cases_eq there.0 at) [
                  | inl same ↦
                      let that : other ≡ line = sym there.3 ∙ ap (λ k. get_or going k other) same ∙ get_or_default going at other line within ∙ sym is in
                      absurd (forced_gone core.subs past (world_of now) forcing.places forcing.entry forcing.stalls (world_of new) loop.stalled.run what forces force next
                      (subst (MustGo force (world_of new) next) (that ∙ sym here) must))
                  | inr apart ↦ (there.0, omega (arith, there.1, apart), there.2, there.3)
                ];
            places = grind (arith, length-append);
            stalls = let had = loop.stalls in omega (arith, had, used, within);
            records = grind (arith, grown, length-append);
          }
