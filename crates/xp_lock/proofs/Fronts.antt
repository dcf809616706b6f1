-- What the holders of seats saw, as the history grows and one of them sees all of it.
use Rattle.std.proofs.Common.{◌≡◌, ◌≢◌, ℕ, ◌<◌, Option, Some, None, List, [], ◌∷◌, ◌++◌, length, set, sym, ap, ◌∙◌, subst, inl, inr, arith, append-nil, append_assoc, length-set}
use Rattle.std.proofs.lemmas.Bool.{cases_eq, cases_lt}
use Rattle.std.proofs.lemmas.List.{get_or-replicate, get_or-set_other, get_or-set_same, get_or_past, length-replicate, replicate_more}
use Rattle.std.proofs.lemmas.Option.{none-some, same_Some}
use Rattle.std.specs.Prelude.{replicate}
use Rattle.xp_charge.specs.declared.record.Record.{Record}
use Rattle.xp_core.specs.Records.{records_of}
use Rattle.xp_step.specs.declared.entry.Entry.{Entry}
use Rattle.xp_seats.specs.Handed.{handed}
use Rattle.xp_seats.specs.Views.{StartsWith, seen_by}
use Rattle.xp_seats.proofs.Lists.{handed-append}
use Rattle.xp_lock.specs.steps.Keeping.{AreFronts}

-- what the keeper knows of the holders of seats
abbrev pub Known : Type 0 → Type 0
Known A = List (Option (List (Entry A)))

module _ {A : Type 0} where
  -- a holder of whom something is known is there
  pub is_there : (known : Known A) (holder : ℕ) (seen : List (Entry A)) → seen_by known holder ≡ Some seen → holder < length known
  is_there known holder seen is = grind (arith, cases_lt, get_or_past, none-some)

  -- what is known of one holder is another matter for the others
  pub seen_before : (known : Known A) (holder other : ℕ) (now : Option (List (Entry A))) (seen : List (Entry A)) → other ≢ holder
      → seen_by (set known holder now) other ≡ Some seen → seen_by known other ≡ Some seen
  seen_before known holder other now seen apart is = sym (get_or-set_other known holder other now None apart) ∙ is

  seen_now : (known : Known A) (holder : ℕ) (now : Option (List (Entry A))) (seen : List (Entry A)) → seen_by (set known holder now) holder ≡ Some seen → now ≡ Some seen
  seen_now known holder now seen is = grind (arith, get_or-set_same, is_there, length-set)

  -- nothing more is known once a seat was given back
  pub seen_still : (known : Known A) (holder other : ℕ) (seen : List (Entry A)) → seen_by (set known holder None) other ≡ Some seen → seen_by known other ≡ Some seen
  seen_still known holder other seen is = grind (arith, cases_eq, none-some, seen_before, seen_now)

  starts_longer : (history front more : List (Entry A)) → StartsWith history front → StartsWith (history ++ more) front
  starts_longer history front more h = (h.0 ++ more, ap (λ xs. xs ++ more) h.1 ∙ append_assoc front h.0 more)

  -- the first seats
  pub first_fronts : (lines : ℕ) → AreFronts {A = A} lines [] [] (replicate lines (Some []) ++ Some [] ∷ [])
  first_fronts lines = grind (arith, append-nil, cases_lt, get_or-replicate, get_or_past, length-replicate, none-some, replicate_more, same_Some)

  module _ (lines : ℕ) (history : List (Entry A)) (given : List Record) (known : Known A) (was : AreFronts lines history given known) (more grown : List (Entry A)) (is : grown ≡ history ++ more) where
    abbrev after : ℕ → Known A
    after holder = set known holder (Some grown)

    -- The holder sees the grown history. What is added is no other line's
    pub fronts_more : (holder : ℕ) (later : List Record) → ((line : ℕ) → line < lines → line ≢ holder → handed line more ≡ [])
        → ((seen : List (Entry A)) → seen_by (after holder) lines ≡ Some seen → later ≡ records_of seen) → AreFronts lines grown later (after holder)
    fronts_more holder later none recorded = record {
      fronts = λ other seen now. elim (cases_eq other holder) [
        | inl same ↦ ([], whole other seen same now ∙ sym (append-nil seen))
        | inr apart ↦ subst (λ xs. StartsWith xs seen) (sym is) (starts_longer history seen more (was.fronts other seen (seen_before known holder other (Some grown) seen apart now)))
      ];
      own = λ line seen within now. elim (cases_eq line holder) [
        | inl same ↦ ap (handed line) (whole line seen same now)
        | inr apart ↦ grind (arith, append-nil, handed-append, seen_before)
      ];
      recorded = recorded;
    } where
      whole : (other : ℕ) (seen : List (Entry A)) → other ≡ holder → seen_by (after holder) other ≡ Some seen → grown ≡ seen
      whole other seen same now = same_Some grown seen (seen_now known holder (Some grown) seen (ap (seen_by (after holder)) (sym same) ∙ now))

    -- a line sees it, and no record is handed over
    pub fronts_seen : (line : ℕ) → line < lines → ((other : ℕ) → other ≢ line → handed other more ≡ []) → AreFronts lines grown given (after line)
    fronts_seen line within none = grind (arith, fronts_more, seen_before)

    -- the recorder sees it, and its records are handed over
    pub fronts_recorded : (later : List Record) → later ≡ records_of grown → ((line : ℕ) → handed line more ≡ []) → AreFronts lines grown later (after lines)
    fronts_recorded later each none = fronts_more lines later (λ line _ _. none line)
        (λ seen now. each ∙ ap records_of (same_Some grown seen (seen_now known lines (Some grown) seen now)))

    -- what the recorder had seen until then
    pub since : (records : List Record) → given ++ records ≡ records_of grown → (seen : List (Entry A)) → seen_by known lines ≡ Some seen
        → StartsWith grown seen × (records_of seen ++ records ≡ records_of grown)
    since records each seen now = (
      subst (λ xs. StartsWith xs seen) (sym is) (starts_longer history seen more (was.fronts lines seen now)),
      ap (λ rs. rs ++ records) (sym (was.recorded seen now)) ∙ each,
    )
