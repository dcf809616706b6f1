-- As an event is entered, what is kept goes on to show the state that the history leads to.
use Rattle.std.proofs.Common.{◌≡◌, ◌∙◌, ℕ, ◌+◌, ◌<◌, ◌≤◌, IfOk, OnErr, Result, Ok, Err, Option, Some, None, List, [], ◌∷◌, ◌++◌, length, length-append, length-set, replicate, refl, ap, sym, subst, append-nil, append_assoc, arith}
use Rattle.std.proofs.lemmas.List.{length-replicate}
use Rattle.std.proofs.lemmas.List.Concat.{flat_map-append}
use Rattle.std.proofs.lemmas.List.Elements.{All-nil, All-pop, All-push}
use Rattle.std.specs.FinMap.{get-empty}
use Rattle.std.specs.Ordering.{nat_cmp}
use Rattle.xp_charge.specs.declared.record.Record.{Record}
use Rattle.xp_subs.specs.Sound.{IsSound}
use Rattle.xp_subs.specs.Tables.{Tables, line_count}
use Rattle.xp_core.specs.declared.advance.PreparedEntry.{PreparedEntry}
use Rattle.xp_step.specs.declared.entry.Entry.{Entry}
use Rattle.xp_step.specs.declared.event.Event.{Event}
use Rattle.xp_step.specs.declared.plan.Plan.{Plan}
use Rattle.xp_machine.specs.declared.relays.RelayUpdate.{RelayUpdate}
use Rattle.xp_machine.specs.declared.relays.MeteredRelay.{MeteredRelay}
use Rattle.xp_step.specs.Agreed.{AllHaveTerms}
use Rattle.xp_step.specs.Exchange.{Advances, Exchange, IsReadable}
use Rattle.xp_step.specs.Plan.{Plans, applied_by}
use Rattle.xp_step.specs.Relays.{RelaysRepresentCalls}
use Rattle.xp_machine.specs.Relays.{relays_with}
use Rattle.xp_core.specs.Lines.{HasLines}
use Rattle.xp_step.specs.Run.{Run}
use Rattle.xp_past.specs.declared.past.Past.{Past}
use Rattle.xp_step.specs.InForce.{Brings, in_force}
use Rattle.xp_step.specs.StepContext.{step_context}
use Rattle.xp_core.specs.steps.CoreInvariant.{CoreInvariant}
use Rattle.xp_step.specs.Table.{action_at}
use Rattle.xp_core.specs.steps.PreparedEntry.{Enters, RelaysAdvance, IsPreparedEntry}
use Rattle.xp_machine.specs.World.{World, call_numbered, opening}
use Rattle.xp_core.specs.Writable.{AreWritable}
use Rattle.xp_step.proofs.Agreed.{run_agreed}
use Rattle.xp_core.proofs.Fitting.{run_fits}
use Rattle.xp_core.proofs.Names.{run_named}
use Rattle.xp_core.proofs.Relaying.{carried_next}
use Rattle.xp_step.proofs.RunLemmas.{run_push}
use Rattle.xp_core.proofs.Worlds.{run_world}

places_kept : {A : Type 0} (relay_update : Option (RelayUpdate A)) (relays later : List (Option (MeteredRelay A))) → later ≡ relays_with relay_update relays → length later ≡ length relays
places_kept relay_update relays later is = grind (arith, length-set)

module _ {A : Type 0} where
  -- what was planned and applied
  pub works_out : (tables : Tables) (before : List (Entry A)) (old : World) (event : Event A) (plan : Plan A) (work : PreparedEntry A) (new : World)
      (relays later : List (Option (MeteredRelay A))) → Plans (step_context tables before old event.line event.moment) event.what (action_at old event) plan
      → work.outcome ≡ plan.outcome → work.outputs ≡ plan.outputs.outputs → work.records ≡ plan.records
      → new ≡ applied_by plan old → later ≡ relays_with plan.relay_update relays → IsPreparedEntry tables before old relays event work new later
  works_out tables before old event plan work new relays later plans outcome outputs records applied relayed = grind arith

  -- and entered
  pub enters : (tables : Tables) (old : World) (relays : List (Option (MeteredRelay A))) (history : List (Entry A)) (waiting : List Record) (event : Event A) (work : PreparedEntry A)
      (new : World) (later : List (Option (MeteredRelay A))) (entries : List (Entry A)) (charged : List Record) (entry : Entry A) (brought : Past Tables)
      → IsPreparedEntry tables history old relays event work new later
      → entry ≡ record { number = length history + 1; event = event; outcome = work.outcome; outputs = work.outputs; records = work.records; tables = brought }
      → Brings (in_force tables history) old event.what brought.items
      → event.line < length old.lines
      → entries ≡ history ++ entry ∷ [] → charged ≡ waiting ++ work.records.items
      → Enters tables old relays history waiting event new later entries charged entry
  enters tables old relays history waiting event work new later entries charged entry brought works is brings line grown recorded = grind arith

  module _ (tables : Tables) (history : List (Entry A)) (machine : World) (relays : List (Option (MeteredRelay A))) (given waiting : List Record) (shows : CoreInvariant tables history machine relays (given ++ waiting))
      (event : Event A) (readable : IsReadable event.what) (room : length history < tables.journal) (new : World) (later : List (Option (MeteredRelay A))) (entries : List (Entry A)) (charged : List Record) (entry : Entry A)
      (done : Enters tables machine relays history waiting event new later entries charged entry) where
    led_here : Run tables history machine
    led_here = let P : World → Type 0 = λ w. Run tables history w in subst P (sym shows.shown) shows.run

    led : Run tables (history ++ entry ∷ []) new
    led = run_push tables [] (opening (line_count tables)) history machine entry new led_here done.step

    -- the relays of what was entered
    went_on : RelaysAdvance tables history machine entry.event entry.outcome relays later
    went_on = let P : Event A → Type 0 = λ e. RelaysAdvance tables history machine e entry.outcome relays later in subst P (sym done.event_is) done.relays_on

    entered : CoreInvariant tables (history ++ entry ∷ []) new later (given ++ charged)
    entered =
        let P : World → Type 0 = λ w. Run tables (history ++ entry ∷ []) w in
        let E : Event A → Type 0 = λ e. IsReadable e.what in
        let longer : length (history ++ entry ∷ []) ≡ length history + 1 = length-append history (entry ∷ []) in
        record {
          sound = shows.sound;
          run = subst P (run_world tables (history ++ entry ∷ []) new led) led;
          readable = All-push (λ e. IsReadable e.event.what) history entry shows.readable (subst E (sym done.event_is) readable);
          shown = run_world tables (history ++ entry ∷ []) new led;
          carried = carried_next tables history machine entry new led_here done.step relays later shows.carried shows.places went_on;
          places = places_kept went_on.relay_update relays later went_on.become ∙ shows.places;
          charged = grind (arith, append-nil, append_assoc, flat_map-append);
          within = omega (arith, longer, room);
        }

    pub shows_next : CoreInvariant tables entries new later (given ++ charged)
    shows_next = let P : List (Entry A) → Type 0 = λ h. CoreInvariant tables h new later (given ++ charged) in subst P (sym done.grown) entered

    abbrev before : ℕ → Exchange A
    before stalls = record { subs = tables; history = history; given = given; waiting = waiting; stalls = stalls }

    abbrev after : ℕ → Exchange A
    after left = record { subs = tables; history = entries; given = given; waiting = charged; stalls = left }

    pub advances : (stalls left : ℕ) → Advances (before stalls) event (after left) entry
    advances stalls left = grind (arith, shows_next)

    -- each packet that the entry puts out can be encoded
    pub entry_fits : AreWritable tables entry.outputs
    entry_fits = (All-pop (λ e. AreWritable tables e.outputs) entries history (Some entry) done.grown (run_fits tables entries _ shows_next.sound shows_next.run shows_next.readable)).1

    -- the lines that the entry names are the subscriptions'
    pub entry_named : HasLines (line_count tables) entry
    entry_named = (All-pop (HasLines (line_count tables)) entries history (Some entry) done.grown (run_named tables entries _ shows_next.sound shows_next.run)).1

  -- the live calls that are kept have their terms
  pub kept_terms : (tables : Tables) (history : List (Entry A)) (machine : World) (relays : List (Option (MeteredRelay A))) (records : List Record) → CoreInvariant tables history machine relays records → AllHaveTerms tables machine
  kept_terms tables history machine relays records shows =
      let P : World → Type 0 = λ w. AllHaveTerms tables w in subst P (sym shows.shown) (run_agreed tables history _ shows.run)

  abbrev pub exchange_of : Tables → List (Entry A) → List Record → List Record → ℕ → Exchange A
  exchange_of subs history given waiting stalls = record { subs = subs; history = history; given = given; waiting = waiting; stalls = stalls }

  -- the outcome of a call that returns what `advance` returned
  module _ {E : Type 0} (tables : Tables) (history : List (Entry A)) (machine : World) (relays : List (Option (MeteredRelay A))) (given waiting : List Record) (event : Event A)
      (new : World) (later : List (Option (MeteredRelay A))) (entries : List (Entry A)) (kept charged : List Record) where
    abbrev Entering : Result (Entry A) E → Type 0
    Entering outcome = IfOk outcome (λ entry. Enters tables machine relays history waiting event new later entries charged entry)

    pub outcome_shows : (outcome : Result (Entry A) E) → CoreInvariant tables history machine relays (given ++ waiting) → IsReadable event.what → length history < tables.journal
        → Entering outcome → OnErr outcome (new ≡ machine) → OnErr outcome (later ≡ relays) → OnErr outcome (entries ≡ history) → kept ≡ given → OnErr outcome (charged ≡ waiting)
        → CoreInvariant tables entries new later (kept ++ charged)
    outcome_shows (Ok entry) shows readable room done same_world same_relays same_history same_given same_waiting =
        let P : List Record → Type 0 = λ r. CoreInvariant tables entries new later (r ++ charged) in
        subst P (sym same_given) (shows_next tables history machine relays given waiting shows event readable room new later entries charged entry done)
    outcome_shows (Err fault) shows readable room done same_world same_relays same_history same_given same_waiting = grind arith

    pub outcome_advances : (outcome : Result (Entry A) E) (old : Exchange A) (stalls left : ℕ) → CoreInvariant tables history machine relays (given ++ waiting) → IsReadable event.what
        → length history < tables.journal → Entering outcome → kept ≡ given → exchange_of tables history given waiting stalls ≡ old
        → IfOk outcome (λ entry. Advances old event (exchange_of tables entries kept charged left) entry)
    outcome_advances (Ok entry) old stalls left shows readable room done same is =
        let P : Exchange A → Type 0 = λ e. Advances e event (exchange_of tables entries kept charged left) entry in
        let G : List Record → Type 0 = λ r. Advances (exchange_of tables history given waiting stalls) event (exchange_of tables entries r charged left) entry in
        subst P is (subst G (sym same) (advances tables history machine relays given waiting shows event readable room new later entries charged entry done stalls left))
    outcome_advances (Err fault) old stalls left shows readable room done same is = tt

    pub outcome_fits : (outcome : Result (Entry A) E) → CoreInvariant tables history machine relays (given ++ waiting) → IsReadable event.what
        → length history < tables.journal → Entering outcome → IfOk outcome (λ entry. AreWritable tables entry.outputs)
    outcome_fits (Ok entry) shows readable room done =
        entry_fits tables history machine relays given waiting shows event readable room new later entries charged entry done
    outcome_fits (Err fault) shows readable room done = tt

    pub outcome_named : (outcome : Result (Entry A) E) → CoreInvariant tables history machine relays (given ++ waiting) → IsReadable event.what
        → length history < tables.journal → Entering outcome → IfOk outcome (HasLines (line_count tables))
    outcome_named (Ok entry) shows readable room done =
        entry_named tables history machine relays given waiting shows event readable room new later entries charged entry done
    outcome_named (Err fault) shows readable room done = tt

  -- a call that returns a failure has changed nothing
  pub outcome_keeps : {E : Type 0} (subs : Tables) (history entries : List (Entry A)) (given kept waiting charged : List Record) (outcome : Result (Entry A) E) (old : Exchange A) (stalls left : ℕ)
      → OnErr outcome (entries ≡ history) → kept ≡ given → OnErr outcome (charged ≡ waiting) → OnErr outcome (left ≡ stalls) → exchange_of subs history given waiting stalls ≡ old
      → OnErr outcome (exchange_of subs entries kept charged left ≡ old)
  outcome_keeps subs history entries given kept waiting charged outcome old stalls left one same_given same_waiting as_many shown = grind arith

  -- nothing was entered yet
  pub opening_shows : (tables : Tables) (history : List (Entry A)) (machine : World) (relays : List (Option (MeteredRelay A))) (records : List Record) → IsSound tables → history ≡ []
      → machine ≡ opening (line_count tables) → relays ≡ replicate (line_count tables) None → records ≡ [] → CoreInvariant tables history machine relays records
  opening_shows tables history machine relays records sound none at unused nothing =
      let P : List (Entry A) → Type 0 = λ entries. CoreInvariant tables entries machine relays records in
      let W : World → Type 0 = λ w. RelaysRepresentCalls tables [] w relays in
      subst P (sym none) (record {
        sound = sound;
        run = refl;
        readable = All-nil (λ e. IsReadable e.event.what);
        shown = at;
        carried = subst W (sym at) (λ number call agreement is agreed. let gone : call_numbered (opening (line_count tables)) number ≡ None = get-empty nat_cmp number in absurd (cc));
        places = ap length unused ∙ length-replicate (line_count tables) None;
        charged = nothing;
        within = let least : 0 ≤ tables.journal = omega arith in least;
      })

  -- the relays of the calls that are live now
  pub kept_relays : (tables : Tables) (history : List (Entry A)) (machine : World) (relays : List (Option (MeteredRelay A))) (records : List Record)
      → CoreInvariant tables history machine relays records → RelaysRepresentCalls tables history machine relays
  kept_relays tables history machine relays records shows = shows.carried
