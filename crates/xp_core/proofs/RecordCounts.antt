-- A history has at most two records for each entry, so a number holds their count.
use Rattle.std.proofs.Common.{◌≡◌, ◌∙◌, ◌+◌, ◌<◌, ◌≤◌, ◌*◌, ◌^◌, Option, List, [], ◌∷◌, ◌++◌, length, length-append, refl, ap, sym, subst, append_assoc, arith}
use Rattle.xp_charge.specs.declared.record.Record.{Record}
use Rattle.xp_subs.specs.Tables.{Tables}
use Rattle.xp_step.specs.declared.entry.Entry.{Entry}
use Rattle.xp_machine.specs.declared.relays.MeteredRelay.{MeteredRelay}
use Rattle.xp_core.specs.Records.{OneRecordEach, records_of}
use Rattle.xp_core.specs.steps.CoreInvariant.{CoreInvariant}
use Rattle.xp_step.specs.Worlds.{world_after}
use Rattle.xp_machine.specs.World.{World}
use Rattle.xp_core.proofs.Endings.{one_record_each}

module _ {A : Type 0} where
  few_from : (tables : Tables) (history : List (Entry A)) (world : World) → OneRecordEach tables history world → (before rest : List (Entry A)) → history ≡ before ++ rest
      → length (records_of rest) ≤ 2 * length rest
  few_from tables history world each before [] is = omega arith
  few_from tables history world each before (entry ∷ rest) is =
      let place = each.places before entry rest is in
      let P : Entry A → Type 0 = λ e. length e.records.items ≤ 2 in
      let few : length entry.records.items ≤ 2 = subst P place.2 (each.few place.0) in
      let later = few_from tables history world each (before ++ entry ∷ []) rest (is ∙ sym (append_assoc before (entry ∷ []) rest)) in
      let joined = length-append entry.records.items (records_of rest) in
      omega (arith, few, later, joined)

  -- the records that were handed over, and those that wait
  pub can_count : (tables : Tables) (history : List (Entry A)) (machine : World) (relays : List (Option (MeteredRelay A))) (given waiting : List Record)
      → CoreInvariant tables history machine relays (given ++ waiting) → length given + length waiting < 2 ^ 64
  can_count tables history machine relays given waiting shows =
      let few = few_from tables history (world_after tables history) (one_record_each tables history (world_after tables history) shows.run) [] history refl in
      let within = shows.within in
      let most = shows.sound.limits.most_entries in
      let all = ap length shows.charged in
      let joined = length-append given waiting in
      omega (arith, few, within, most, all, joined)
