-- What a text sets up, from the passes over its file.
use Rattle.std.proofs.Common.{◌≡◌, ℕ, List, true, false, Option, None, Ok, Err, inl, inr, refl, sym, ap, subst, ◌∙◌}
use Rattle.std.specs.List.{list_all}
use Rattle.xp_file.specs.declared.fault.SubscriptionFault.{SubscriptionFault}
use Rattle.xp_file.specs.declared.fault.SubscriptionFault.TheVariants as faults
use Rattle.xp_file.specs.declared.key.Key.{Key}
use Rattle.xp_file.specs.declared.key.Key.TheVariants as keys
use Rattle.xp_file.specs.Entries.{StationData}
use Rattle.xp_file.specs.SubscriptionFile.{FileData, file_in}
use Rattle.xp_subs.specs.Built.{Refuses, SetsUp, tables_of}
use Rattle.xp_subs.specs.DefaultCallers.{HasTwoDefaultCallers}
use Rattle.xp_subs.specs.Passes.{file_over, all_differ, has_own_indexes}
use Rattle.xp_subs.specs.steps.DefaultCallers.{are_rivals}
use Rattle.xp_subs.specs.steps.Passes.{Used, nothing_used, with_stations}
use Rattle.xp_subs.specs.Tables.{Tables}
use Rattle.xp_subs.proofs.DefaultCallerLemmas.{callers_once, callers_twice}
use Rattle.xp_subs.proofs.UsesLemmas.{all_once, first_again}

module _ (text : List ℕ) (file : FileData) (read : file_in text ≡ Ok file) (second third fourth : List StationData)
    (two : second ≡ file.stations) (three : third ≡ file.stations) (four : fourth ≡ file.stations)
    (over : Option Key) (is : over ≡ file_over file) (within : over ≡ None) where
  limits : file_over file ≡ None
  limits = sym is ∙ within

  pub refused_twice : (fault : SubscriptionFault) → with_stations 0 0 second nothing_used ≡ Err fault → SetsUp text (Err fault)
  refused_twice fault e =
      let (again, this, told) = first_again file.stations fault (ap (λ l. with_stations 0 0 l nothing_used) (sym two) ∙ e) in
      inr (file, read, let P : SubscriptionFault → Type 0 = λ f. Refuses file f in subst P (sym told) (limits, inl (again, this, refl)))

  module _ (used : Used) (once : with_stations 0 0 second nothing_used ≡ Ok used) where
    used_once : with_stations 0 0 file.stations nothing_used ≡ Ok used
    used_once = ap (λ l. with_stations 0 0 l nothing_used) (sym two) ∙ once

    pub refused_callers : all_differ are_rivals third ≡ false → SetsUp text (Err (faults.TwiceUsed keys.DefaultCaller))
    refused_callers e =
        let twice = callers_twice file.stations (ap (all_differ are_rivals) (sym three) ∙ e) in
        inr (file, read, (limits, inr (all_once file.stations used used_once, twice, refl)))

    module _ (apart : all_differ are_rivals third ≡ true) where
      one_each : HasTwoDefaultCallers file.stations → ⊥
      one_each = callers_once file.stations (ap (all_differ are_rivals) (sym three) ∙ apart)

      pub refused_index : list_all has_own_indexes fourth ≡ false → SetsUp text (Err faults.Index)
      refused_index e = inr (file, read, (limits, all_once file.stations used used_once, one_each, ap (list_all has_own_indexes) (sym four) ∙ e))

      pub set_up : list_all has_own_indexes fourth ≡ true → (tables : Tables) → tables ≡ tables_of file → SetsUp text (Ok tables)
      set_up e tables built = (
        file,
        read,
        record {
          limits = limits;
          once = all_once file.stations used used_once;
          default_callers = one_each;
          indexes = ap (list_all has_own_indexes) (sym four) ∙ e;
        },
        built,
      )
