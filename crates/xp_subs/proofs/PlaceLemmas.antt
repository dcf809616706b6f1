-- The places that the lines of a newly read file get.
use Rattle.std.proofs.Common.{◌≡◌, ◌≢◌, ℕ, ◌<◌, ◌≤◌, List, [], Bool, true, false, not, ◌&&◌, Option, None, Some, inl, inr, length, set, get_or, refl, sym, ap, subst, ◌∙◌, arith}
use Rattle.std.specs.Prelude.{nat_le, unwrap_or}
use Rattle.std.proofs.lemmas.Bool.{and_parts, cases_Bool, cases_eq, cases_lt, leb-true, leb-false}
use Rattle.std.proofs.lemmas.List.{get_or-map, get_or_read, get_or-set_other, get_or-set_same, length-map, length-set}
use Rattle.xp_file.proofs.Choices.{none_is_some}
use Rattle.xp_packets.specs.declared.modulus.Modulus.{Modulus}
use Rattle.xp_packets.specs.declared.modulus.Modulus.TheVariants.{Eight, Long}
use Rattle.xp_subs.specs.declared.laid.LayFault.TheVariants as faults
use Rattle.xp_subs.specs.declared.line.Line.{Line}
use Rattle.xp_subs.specs.Bounds.{most_lines}
use Rattle.xp_subs.specs.Laid.{CannotBeLaid}
use Rattle.xp_subs.specs.Sound.{IsSound}
use Rattle.xp_subs.specs.Tables.{Tables, IsThere, is_spare, line_at, line_count, line_named_of, modulus_of, no_line}
use Rattle.xp_subs.specs.steps.Places.{AllFit, Assigns, fits, is_free, no_number, number_at, number_of, numbers_in, same_modulus, wants_place}
use Rattle.xp_subs.proofs.TableLemmas.{line_named_of-unspelled}
use Rattle.xp_subs.proofs.There.{true_is_false}

pub same_modulus_is : (one other : Modulus) → same_modulus one other ≡ true → one ≡ other
same_modulus_is Eight Eight e = refl
same_modulus_is Long Long e = refl
same_modulus_is Eight Long e = absurd (true_is_false (sym e))
same_modulus_is Long Eight e = absurd (true_is_false (sym e))

pub same_modulus-itself : (modulus : Modulus) → same_modulus modulus modulus ≡ true
same_modulus-itself Eight = refl
same_modulus-itself Long = refl

pub not_true : (b : Bool) → not b ≡ true → b ≡ false
not_true true e = absurd (true_is_false (sym e))
not_true false e = refl

-- a line whose name stands in other tables is there
known_there : (tables other : Tables) → IsSound tables → IsSound other → (line : ℕ) → line < line_count other
    → (was : ℕ) → line_named_of tables (line_at other line).name ≡ Some was → IsThere other line
known_there tables other sound also line within was named =
    elim (cases_Bool (is_spare (line_at other line))) [
      | inl spare ↦
          let empty : (line_at other line).name ≡ [] = ap (λ (l : Line). l.name) (also.spare line spare) in
          absurd (none_is_some (sym (line_named_of-unspelled tables [] sound.spelled refl) ∙ ap (line_named_of tables) (sym empty) ∙ named))
      | inr there ↦ (within, there)
    ]

-- a number within the lines is that of a line
number_named : (tables : Tables) (name : List ℕ) → line_count tables ≤ most_lines → number_of tables name < line_count tables
    → (line : ℕ) × (line_named_of tables name ≡ Some line) × (number_of tables name ≡ line)
number_named tables name few below = by (line_named_of tables name) refl
  where
    by : (found : Option ℕ) → line_named_of tables name ≡ found
        → (line : ℕ) × (line_named_of tables name ≡ Some line) × (number_of tables name ≡ line)
    by None e = let none : number_of tables name ≡ no_number = ap (λ o. unwrap_or o no_number) e in absurd (omega (arith, none, below, few))
    by (Some line) e = (line, e, ap (λ o. unwrap_or o no_number) e)

pub number_at-numbers : (tables : Tables) (lines : List Line) (line : ℕ) → line < length lines
    → number_at (numbers_in tables lines) line ≡ number_of tables (get_or lines line no_line).name
number_at-numbers tables lines line within = get_or-map (λ (l : Line). number_of tables l.name) lines line no_line 0 within

module _ (old next : Tables) (sound : IsSound old) (next_sound : IsSound next) where
  -- a line that does not fit its place
  pub modulus_refused : (line : ℕ) → line < line_count next → fits old (line_at next line) ≡ false
      → CannotBeLaid old next (faults.Modulus (line_at next line).name)
  modulus_refused line within unfit = by (line_named_of old (line_at next line).name) refl
    where
      by : (found : Option ℕ) → line_named_of old (line_at next line).name ≡ found → CannotBeLaid old next (faults.Modulus (line_at next line).name)
      by None e = let fit : true ≡ false = rw e at unfit in absurd (true_is_false fit)
      by (Some was) e =
          let other : same_modulus (modulus_of old was) (modulus_of next line) ≡ false = rw e at unfit in (
            was,
            line,
            e,
            next_sound.named line (known_there old next sound next_sound line within was e),
            λ same. true_is_false (sym (same_modulus-itself (modulus_of old was)) ∙ ap (same_modulus (modulus_of old was)) (sym same) ∙ other),
          )

  -- the lines that stay have their places from the start
  module _ (fit : AllFit old next.lines) where
    first_stands : (line : ℕ) → line < line_count next → number_at (numbers_in old next.lines) line < line_count old
        → IsThere next line × (number_at (numbers_in next old.lines) (number_at (numbers_in old next.lines) line) ≡ line)
        × (modulus_of next line ≡ modulus_of old (number_at (numbers_in old next.lines) line))
    first_stands line within below =
        let name = (line_at next line).name in
        let is = number_at-numbers old next.lines line within in
        let (was, named, this) = number_named old name sound.few_lines (omega (arith, is, below)) in
        let there = known_there old next sound next_sound line within was named in
        let place : number_at (numbers_in old next.lines) line ≡ was = is ∙ this in
        let (inside, held) = sound.name_held name was named in
        let alike : same_modulus (modulus_of old was) (modulus_of next line) ≡ true = rw named at (fit line within) in (
          there,
          ap (number_at (numbers_in next old.lines)) place
              ∙ number_at-numbers next old.lines was inside
              ∙ ap (number_of next) held
              ∙ ap (λ o. unwrap_or o no_number) (next_sound.named line there),
          sym (same_modulus_is (modulus_of old was) (modulus_of next line) alike) ∙ ap (modulus_of old) (sym place),
        )

    first_held : (at : ℕ) → at < line_count old → number_at (numbers_in next old.lines) at < line_count next
        → number_at (numbers_in old next.lines) (number_at (numbers_in next old.lines) at) ≡ at
    first_held at within below =
        let name = (line_at old at).name in
        let is = number_at-numbers next old.lines at within in
        let (line, named, this) = number_named next name next_sound.few_lines (omega (arith, is, below)) in
        let there = known_there next old next_sound sound at within line named in
        let (inside, held) = next_sound.name_held name line named in
        ap (number_at (numbers_in old next.lines)) (is ∙ this)
        ∙ number_at-numbers old next.lines line inside
        ∙ ap (number_of old) held
        ∙ ap (λ o. unwrap_or o no_number) (sound.named at there)

    pub first_assigns : Assigns old next (numbers_in old next.lines) (numbers_in next old.lines)
    first_assigns = record {
      long = length-map next.lines (λ (l : Line). number_of old l.name);
      wide = length-map old.lines (λ (l : Line). number_of next l.name);
      stands = first_stands;
      held = first_held;
      kept = λ was line there named. number_at-numbers old next.lines line there.0 ∙ ap (λ o. unwrap_or o no_number) named;
    }

  -- what is known of the places so far
  module _ (places holders : List ℕ) (assigned : Assigns old next places holders) where
    -- the places of a modulus that come before this one have lines
    abbrev pub Taken : Modulus → ℕ → Type 0
    Taken modulus from = (at : ℕ) → at < from → at < line_count old → modulus_of old at ≡ modulus → number_at holders at < line_count next

    -- a line that comes gets a free place
    module _ (line at : ℕ) (within : line < line_count next) (inside : at < line_count old) (there : is_spare (line_at next line) ≡ false)
        (modulus : modulus_of next line ≡ modulus_of old at) (unplaced : line_count old ≤ number_at places line) (free : line_count next ≤ number_at holders at) where
      place_here : number_at (set places line at) line ≡ at
      place_here = get_or-set_same places line at 0 (omega (arith, within, assigned.long))

      holder_here : number_at (set holders at line) at ≡ line
      holder_here = get_or-set_same holders at line 0 (omega (arith, inside, assigned.wide))

      put_stands : (n : ℕ) → n < line_count next → number_at (set places line at) n < line_count old
          → IsThere next n × (number_at (set holders at line) (number_at (set places line at) n) ≡ n)
          × (modulus_of next n ≡ modulus_of old (number_at (set places line at) n))
      put_stands n known below =
          elim (cases_eq n line) [
            | inl same ↦
                let P : ℕ → Type 0 = λ n. IsThere next n × (number_at (set holders at line) (number_at (set places line at) n) ≡ n)
                × (modulus_of next n ≡ modulus_of old (number_at (set places line at) n)) in
                subst P (sym same) ((within, there), ap (number_at (set holders at line)) place_here ∙ holder_here, modulus ∙ ap (modulus_of old) (sym place_here))
            | inr other ↦
                let as_before : number_at (set places line at) n ≡ number_at places n = get_or-set_other places line n at 0 other in
                let before = assigned.stands n known (omega (arith, as_before, below)) in
                let apart : number_at places n ≢ at = λ e. (let held = sym before.1 ∙ ap (number_at holders) e in omega (arith, held, free, known)) in (
                  before.0,
                  ap (number_at (set holders at line)) as_before ∙ get_or-set_other holders at (number_at places n) line 0 apart ∙ before.1,
                  before.2 ∙ ap (modulus_of old) (sym as_before),
                )
          ]

      put_held : (k : ℕ) → k < line_count old → number_at (set holders at line) k < line_count next
          → number_at (set places line at) (number_at (set holders at line) k) ≡ k
      put_held k known below =
          elim (cases_eq k at) [
            | inl same ↦
                ap (λ j. number_at (set places line at) (number_at (set holders at line) j)) same
                ∙ ap (number_at (set places line at)) holder_here ∙ place_here ∙ sym same
            | inr other ↦
                let as_before : number_at (set holders at line) k ≡ number_at holders k = get_or-set_other holders at k line 0 other in
                let before = assigned.held k known (omega (arith, as_before, below)) in
                let apart : number_at holders k ≢ line = λ e. (let placed = sym before ∙ ap (number_at places) e in omega (arith, placed, unplaced, known)) in
                ap (number_at (set places line at)) as_before ∙ get_or-set_other places line (number_at holders k) at 0 apart ∙ before
          ]

      pub put_assigns : Assigns old next (set places line at) (set holders at line)
      put_assigns = record {
        long = length-set places line at ∙ assigned.long;
        wide = length-set holders at line ∙ assigned.wide;
        stands = put_stands;
        held = put_held;
        kept = λ was n known named.
            let before = assigned.kept was n known named in
            let (has, _) = sound.name_held (line_at next n).name was named in
            let apart : n ≢ line = λ e. (let placed = sym before ∙ ap (number_at places) e in omega (arith, placed, unplaced, has)) in
            get_or-set_other places line n at 0 apart ∙ before;
      }

    -- a place of a modulus that is not free has a line
    pub not_free : (modulus : Modulus) (at : ℕ) → modulus_of old at ≡ modulus → is_free old.lines holders (length places) modulus at ≡ false
        → number_at holders at < line_count next
    not_free modulus at is none =
        let mine : same_modulus modulus (modulus_of old at) ≡ true = ap (same_modulus modulus) is ∙ same_modulus-itself modulus in
        let test : nat_le (length places) (number_at holders at) ≡ false = ap (λ b. b && nat_le (length places) (number_at holders at)) (sym mine) ∙ none in
        let below = leb-false (length places) (number_at holders at) test in
        omega (arith, below, assigned.long)

    -- a line for which no place is free
    pub place_refused : (modulus : Modulus) (line from : ℕ) → line < line_count next
        → wants_place (line_count old) (line_at next line) modulus (number_at places line) ≡ true
        → Taken modulus from
        → ((k : ℕ) → from ≤ k → k < line_count old → is_free old.lines holders (length places) modulus k ≡ false)
        → CannotBeLaid old next (faults.Place (line_at next line).name)
    place_refused modulus line from within wants taken none =
        let (kind, unplaced) = and_parts (not (is_spare (line_at next line)) && same_modulus modulus (modulus_of next line)) (nat_le (line_count old) (number_at places line)) wants in
        let (spare, alike) = and_parts (not (is_spare (line_at next line))) (same_modulus modulus (modulus_of next line)) kind in
        let there : IsThere next line = (within, not_true (is_spare (line_at next line)) spare) in
        let same : modulus ≡ modulus_of next line = same_modulus_is modulus (modulus_of next line) alike in
        let past : line_count old ≤ number_at places line = leb-true (line_count old) (number_at places line) unplaced in (
          line,
          next_sound.named line there,
          unknown there past (line_named_of old (line_at next line).name) refl,
          record {
            holder = number_at holders;
            holds = λ at known modulus_is.
                let below = held modulus from taken none at known (modulus_is ∙ sym same) in
                let back = assigned.held at known below in
                let (has, _, its) = assigned.stands (number_at holders at) below (omega (arith, back, known)) in (
                  has,
                  its ∙ ap (modulus_of old) back ∙ modulus_is,
                  λ e. (let placed = sym back ∙ ap (number_at places) e in omega (arith, placed, past, known)),
                );
            apart = λ one other known also one_is other_is e.
                sym (assigned.held one known (held modulus from taken none one known (one_is ∙ sym same)))
                ∙ ap (number_at places) e
                ∙ assigned.held other also (held modulus from taken none other also (other_is ∙ sym same));
          },
        )
      where
        unknown : IsThere next line → line_count old ≤ number_at places line
            → (found : Option ℕ) → line_named_of old (line_at next line).name ≡ found → line_named_of old (line_at next line).name ≡ None
        unknown there past None e = e
        unknown there past (Some was) e =
            let place = assigned.kept was line there e in
            let (has, _) = sound.name_held (line_at next line).name was e in
            absurd (omega (arith, place, past, has))

        held : (modulus : Modulus) (from : ℕ) → Taken modulus from
            → ((k : ℕ) → from ≤ k → k < line_count old → is_free old.lines holders (length places) modulus k ≡ false)
            → (at : ℕ) → at < line_count old → modulus_of old at ≡ modulus → number_at holders at < line_count next
        held modulus from taken none at known is =
            elim (cases_lt at from) [
              | inl before ↦ taken at before known is
              | inr behind ↦ not_free modulus at is (none at behind known)
            ]

-- the same of the lines that a loop goes over
pub unfit_refused : (one other : Tables) (old next : Tables) → one ≡ old → other ≡ next → IsSound one → IsSound other
    → (items : List Line) → items ≡ other.lines → (at : ℕ) (line : Line) → at < length items → line ≡ get_or items at line
    → fits old line ≡ false → (name : List ℕ) → name ≡ line.name → CannotBeLaid old next (faults.Modulus name)
unfit_refused one other old next is also sound next_sound items all at line within here unfit name named =
    let this : line ≡ line_at next at =
    get_or_read items at line within here no_line ∙ ap (λ l. get_or l at no_line) all ∙ ap (λ (t : Tables). get_or t.lines at no_line) also in
    let long : length items ≡ line_count next = ap length all ∙ ap (λ (t : Tables). length t.lines) also in
    let P : List ℕ → Type 0 = λ n. CannotBeLaid old next (faults.Modulus n) in
    subst P (sym (named ∙ ap (λ (l : Line). l.name) this))
    (modulus_refused old next (subst IsSound is sound) (subst IsSound also next_sound) at (omega (arith, within, long)) (ap (fits old) (sym this) ∙ unfit))

pub fit_checked : (old next other : Tables) (items : List Line) (at : ℕ) → other ≡ next → items ≡ other.lines → length items ≤ at
    → ((k : ℕ) → k < at → fits old (get_or items k no_line) ≡ true) → AllFit old next.lines
fit_checked old next other items at is all past each line within =
    let lines : items ≡ next.lines = all ∙ ap (λ (t : Tables). t.lines) is in
    ap (λ l. fits old (get_or l line no_line)) (sym lines) ∙ each line (omega (arith, within, past, ap length lines))

pub assigned_first : (one other : Tables) (old next : Tables) → one ≡ old → other ≡ next → IsSound one → IsSound other
    → {places holders : List ℕ} {lines items : List Line} → places ≡ numbers_in old lines → lines ≡ other.lines → holders ≡ numbers_in next items → items ≡ one.lines
    → AllFit old next.lines → Assigns old next places holders
assigned_first one other old next is also sound next_sound of_lines lines of_places items fit =
    rw (
      of_lines ∙ ap (numbers_in old) (lines ∙ ap (λ (t : Tables). t.lines) also),
      of_places ∙ ap (numbers_in next) (items ∙ ap (λ (t : Tables). t.lines) is),
    )
    (first_assigns old next (subst IsSound is sound) (subst IsSound also next_sound) fit)
