-- One line after another gets a place.
use Rattle.std.proofs.Common.{◌≡◌, ◌≢◌, ℕ, ◌+◌, ◌<◌, ◌≤◌, List, Bool, true, false, not, ◌&&◌, inl, inr, length, set, get_or, refl, sym, ap, subst, ◌∙◌, arith}
use Rattle.std.specs.Prelude.{nat_le, unwrap_or}
use Rattle.std.proofs.lemmas.Bool.{and_parts, cases_eq, cases_lt, leb-true, leb-false}
use Rattle.std.proofs.lemmas.List.{get_or_read, get_or-set_other, get_or-set_same}
use Rattle.xp_packets.specs.declared.modulus.Modulus.{Modulus}
use Rattle.xp_packets.specs.declared.modulus.Modulus.TheVariants.{Eight, Long}
use Rattle.xp_subs.specs.declared.laid.LayFault.TheVariants as faults
use Rattle.xp_subs.specs.declared.line.Line.{Line}
use Rattle.xp_subs.specs.Laid.{CannotBeLaid, Comes}
use Rattle.xp_subs.specs.Sound.{IsSound}
use Rattle.xp_subs.specs.Tables.{Tables, IsThere, is_spare, line_at, line_count, modulus_of, no_line}
use Rattle.xp_subs.specs.steps.Places.{AllFit, Assigns, Fills, Goes, IsNew, is_free, no_number, number_at, numbers_in, same_modulus, wants_place}
use Rattle.xp_subs.proofs.PlaceLemmas.{assigned_first, not_free, not_true, number_at-numbers, place_refused, put_assigns, same_modulus_is, same_modulus-itself}

-- a line of the modulus that wants no place has one
not_wanting : (count : ℕ) (line : Line) (modulus : Modulus) (place : ℕ) → wants_place count line modulus place ≡ false
    → is_spare line ≡ false → line.modulus ≡ modulus → place < count
not_wanting count line modulus place none there is =
    let alike : same_modulus modulus line.modulus ≡ true = ap (same_modulus modulus) is ∙ same_modulus-itself modulus in
    let test : nat_le count place ≡ false =
    ap (λ b. (not b && true) && nat_le count place) (sym there)
    ∙ ap (λ b. (not (is_spare line) && b) && nat_le count place) (sym alike) ∙ none in
    leb-false count place test

module _ (old next : Tables) (modulus : Modulus) (line from : ℕ) (places holders : List ℕ) (fills : Fills old next modulus line from places holders) where
  -- a line that wants no place
  pub skipped : wants_place (line_count old) (line_at next line) modulus (number_at places line) ≡ false
      → Fills old next modulus (line + 1) from places holders
  skipped none =
      let has : IsThere next line → modulus_of next line ≡ modulus → number_at places line < line_count old =
      λ there is. not_wanting (line_count old) (line_at next line) modulus (number_at places line) none there.1 is in
      let old_one : IsNew old next modulus line → ⊥ = λ new. (
      let below = has new.0.0 new.1 in let past = fills.waiting line (omega arith) new in omega (arith, below, past)) in
      record {
        assigned = fills.assigned;
        taken = fills.taken;
        placed = λ k below there is. elim (cases_lt k line) [
          | inl earlier ↦ fills.placed k earlier there is
          | inr now ↦
              let this : k ≡ line = omega (arith, below, now) in
              subst (λ n. number_at places n < line_count old) (sym this) (has (subst (IsThere next) this there) (ap (modulus_of next) (sym this) ∙ is))
        ];
        before = λ k below new. elim (cases_lt k line) [
          | inl earlier ↦ fills.before k earlier new
          | inr now ↦ let this : k ≡ line = omega (arith, below, now) in absurd (old_one (subst (IsNew old next modulus) this new))
        ];
        ordered = λ k later apart below new also. elim (cases_lt later line) [
          | inl earlier ↦ fills.ordered k later apart earlier new also
          | inr now ↦ let this : later ≡ line = omega (arith, below, now) in absurd (old_one (subst (IsNew old next modulus) this also))
        ];
        waiting = λ k behind new. fills.waiting k (omega (arith, behind)) new;
      }

  -- a line that gets the first free place
  module _ (sound : IsSound old) (next_sound : IsSound next) (at : ℕ) (within : line < line_count next) (inside : at < line_count old)
      (wants : wants_place (line_count old) (line_at next line) modulus (number_at places line) ≡ true)
      (free : is_free old.lines holders (length places) modulus at ≡ true) (behind : from ≤ at)
      (first : (k : ℕ) → from ≤ k → k < at → is_free old.lines holders (length places) modulus k ≡ false) where
    kind : (not (is_spare (line_at next line)) && same_modulus modulus (modulus_of next line) ≡ true) × (nat_le (line_count old) (number_at places line) ≡ true)
    kind = and_parts (not (is_spare (line_at next line)) && same_modulus modulus (modulus_of next line)) (nat_le (line_count old) (number_at places line)) wants

    alike : modulus ≡ modulus_of next line
    alike = same_modulus_is modulus (modulus_of next line) (and_parts (not (is_spare (line_at next line))) (same_modulus modulus (modulus_of next line)) kind.0).1

    unplaced : line_count old ≤ number_at places line
    unplaced = leb-true (line_count old) (number_at places line) kind.1

    its : (same_modulus modulus (modulus_of old at) ≡ true) × (nat_le (length places) (number_at holders at) ≡ true)
    its = and_parts (same_modulus modulus (modulus_of old at)) (nat_le (length places) (number_at holders at)) free

    unheld : line_count next ≤ number_at holders at
    unheld = let past = leb-true (length places) (number_at holders at) its.1 in omega (arith, past, fills.assigned.long)

    now : Assigns old next (set places line at) (set holders at line)
    now =
        put_assigns old next sound next_sound places holders fills.assigned line at within inside
        (not_true (is_spare (line_at next line)) (and_parts (not (is_spare (line_at next line))) (same_modulus modulus (modulus_of next line)) kind.0).0)
        (sym alike ∙ same_modulus_is modulus (modulus_of old at) its.0) unplaced unheld

    here : number_at (set places line at) line ≡ at
    here = get_or-set_same places line at 0 (omega (arith, within, fills.assigned.long))

    elsewhere : (k : ℕ) → k ≢ line → number_at (set places line at) k ≡ number_at places k
    elsewhere k other = get_or-set_other places line k at 0 other

    still_held : (k : ℕ) → k < line_count old → number_at holders k < line_count next → number_at (set holders at line) k < line_count next
    still_held k known below =
        let apart : k ≢ at = λ e. (let same_holder = ap (number_at holders) e in omega (arith, same_holder, below, unheld)) in
        let as_before = get_or-set_other holders at k line 0 apart in
        omega (arith, as_before, below)

    now_taken : (k : ℕ) → k < at + 1 → k < line_count old → modulus_of old k ≡ modulus → number_at (set holders at line) k < line_count next
    now_taken k below known is =
        elim (cases_eq k at) [
          | inl this ↦
              let holder : number_at (set holders at line) at ≡ line = get_or-set_same holders at line 0 (omega (arith, inside, fills.assigned.wide)) in
              let same_holder = ap (number_at (set holders at line)) this in
              omega (arith, same_holder, holder, within)
          | inr other ↦ still_held k known (elim (cases_lt k from) [
            | inl earlier ↦ fills.taken k earlier known is
            | inr later ↦ not_free old next sound next_sound places holders fills.assigned modulus k is (first k later (omega (arith, below, other)))
          ])
        ]

    pub filled : Fills old next modulus (line + 1) (at + 1) (set places line at) (set holders at line)
    filled = record {
      assigned = now;
      taken = now_taken;
      placed = λ k below there is. elim (cases_eq k line) [
        | inl this ↦ let same_place = ap (number_at (set places line at)) this in omega (arith, same_place, here, inside)
        | inr other ↦ let earlier = fills.placed k (omega (arith, below, other)) there is in let as_before = elsewhere k other in omega (arith, as_before, earlier)
      ];
      before = λ k below new. elim (cases_eq k line) [
        | inl this ↦ let same_place = ap (number_at (set places line at)) this in omega (arith, same_place, here)
        | inr other ↦ let earlier = fills.before k (omega (arith, below, other)) new in let as_before = elsewhere k other in omega (arith, as_before, earlier, behind)
      ];
      ordered = λ k later apart below new also. elim (cases_eq later line) [
        | inl this ↦
            let earlier = fills.before k (omega (arith, apart, this)) new in
            let as_before = elsewhere k (λ e. omega (arith, e, apart, this)) in
            let same_place = ap (number_at (set places line at)) this in
            omega (arith, as_before, earlier, behind, same_place, here)
        | inr other ↦
            let earlier = fills.ordered k later apart (omega (arith, below, other)) new also in
            let one_before = elsewhere k (λ e. omega (arith, e, apart, below, other)) in
            let as_before = elsewhere later other in
            omega (arith, one_before, as_before, earlier)
      ];
      waiting = λ k past new.
          let earlier = fills.waiting k (omega (arith, past)) new in
          let as_before = elsewhere k (λ e. omega (arith, e, past)) in
          omega (arith, as_before, earlier);
    }

    pub gone : Goes old next modulus places holders (set places line at) (set holders at line)
    gone = record {
      still = λ k known below. elsewhere k (λ e. (let same_place = ap (number_at places) e in omega (arith, same_place, below, unplaced)));
      others = λ k apart. elsewhere k (λ e. apart (ap (modulus_of next) e ∙ sym alike));
      kept = still_held;
    }

pub goes_nowhere : (old next : Tables) (modulus : Modulus) (places holders : List ℕ) → Goes old next modulus places holders places holders
goes_nowhere old next modulus places holders = record { still = λ k known below. refl; others = λ k apart. refl; kept = λ at known below. below }

pub goes_on : (old next : Tables) (modulus : Modulus) (places holders after held last final : List ℕ) → Goes old next modulus places holders after held
    → Goes old next modulus after held last final → Goes old next modulus places holders last final
goes_on old next modulus places holders after held last final one other = record {
  still = λ k known below. (let as_before = one.still k known below in other.still k known (omega (arith, as_before, below)) ∙ as_before);
  others = λ k apart. other.others k apart ∙ one.others k apart;
  kept = λ at known below. other.kept at known (one.kept at known below);
}

-- the start, and what stands between the two moduli
pub begins : (old next : Tables) (modulus : Modulus) (places holders : List ℕ) → Assigns old next places holders
    → ((k : ℕ) → IsNew old next modulus k → line_count old ≤ number_at places k) → Fills old next modulus 0 0 places holders
begins old next modulus places holders assigned waiting = record {
  assigned = assigned;
  taken = λ at below known is. absurd (omega (arith, below));
  placed = λ k below there is. absurd (omega (arith, below));
  before = λ k below new. absurd (omega (arith, below));
  ordered = λ k later apart below new also. absurd (omega (arith, below));
  waiting = λ k behind new. waiting k new;
}

-- lines that come have no places at the start
none_placed : (old next : Tables) → IsSound old → (line : ℕ) → Comes old next line → line_count old ≤ number_at (numbers_in old next.lines) line
none_placed old next sound line comes =
    let is : number_at (numbers_in old next.lines) line ≡ no_number =
    number_at-numbers old next.lines line comes.0.0 ∙ ap (λ o. unwrap_or o no_number) comes.1 in
    omega (arith, is, sound.few_lines)

pub first_begins : (one other : Tables) (old next : Tables) → one ≡ old → other ≡ next → IsSound one → IsSound other
    → {places holders : List ℕ} {lines items : List Line} → places ≡ numbers_in old lines → lines ≡ other.lines → holders ≡ numbers_in next items → items ≡ one.lines
    → AllFit old next.lines → (modulus : Modulus) → Fills old next modulus 0 0 places holders
first_begins one other old next is also sound next_sound {places} {holders} of_lines lines of_places items fit modulus =
    begins old next modulus places holders (assigned_first one other old next is also sound next_sound of_lines lines of_places items fit)
    (λ k new.
    let same_places : places ≡ numbers_in old next.lines = of_lines ∙ ap (numbers_in old) (lines ∙ ap (λ (t : Tables). t.lines) also) in
    subst (λ p. line_count old ≤ number_at p k) (sym same_places) (none_placed old next (subst IsSound is sound) k new.0))

pub second_begins : (old next : Tables) (places holders after held : List ℕ) → Fills old next Long 0 0 places holders
    → Goes old next Eight places holders after held → (from : ℕ) × Fills old next Eight (line_count next) from after held → Fills old next Long 0 0 after held
second_begins old next places holders after held start goes (from, fills) =
    begins old next Long after held fills.assigned (λ k new.
    let as_before = goes.others k (λ e. long_is_eight (sym new.1 ∙ e)) in
    let unplaced = start.waiting k (omega arith) new in
    omega (arith, as_before, unplaced))
  where
    long_is_eight : Long ≡ Eight → ⊥
    long_is_eight e = cc

pub entry_at : {other : Tables} (next : Tables) (line : ℕ) {entry : Line} → other ≡ next → line < line_count next → entry ≡ get_or other.lines line entry
    → entry ≡ line_at next line
entry_at {other} next line {entry} is within found =
    get_or_read other.lines line entry (omega (arith, within, ap (λ (t : Tables). line_count t) is)) found no_line ∙ ap (λ (t : Tables). line_at t line) is

-- what `fill_line` meets
module _ (old next : Tables) (modulus : Modulus) (line from : ℕ) (places holders : List ℕ) (fills : Fills old next modulus line from places holders)
    (within : line < line_count next) {other : Tables} (also : other ≡ next) {entry : Line} (found : entry ≡ get_or other.lines line entry)
    {place : ℕ} (at : place ≡ get_or places line place) where
  tested : (b : Bool) → wants_place (line_count old) entry modulus place ≡ b → wants_place (line_count old) (line_at next line) modulus (number_at places line) ≡ b
  tested b is =
      ap (λ l. wants_place (line_count old) l modulus (number_at places line)) (sym (entry_at next line also within found))
      ∙ ap (λ n. wants_place (line_count old) entry modulus n) (sym (get_or_read places line place (omega (arith, within, fills.assigned.long)) at 0)) ∙ is

  pub line_skipped : wants_place (line_count old) entry modulus place ≡ false → Fills old next modulus (line + 1) from places holders
  line_skipped none = skipped old next modulus line from places holders fills (tested false none)

  module _ {one : Tables} (is : one ≡ old) (sound : IsSound one) (next_sound : IsSound other) {items : List Line} (all : items ≡ one.lines) (wants : wants_place (line_count old) entry modulus place ≡ true) where
    lines_are : items ≡ old.lines
    lines_are = all ∙ ap (λ (t : Tables). t.lines) is

    pub line_refused : ((k : ℕ) → from ≤ k → k < length items → is_free items holders (length places) modulus k ≡ false)
        → (name : List ℕ) → name ≡ entry.name → CannotBeLaid old next (faults.Place name)
    line_refused none name named =
        let P : List ℕ → Type 0 = λ n. CannotBeLaid old next (faults.Place n) in
        let Q : List Line → Type 0 = λ l. (k : ℕ) → from ≤ k → k < length l → is_free l holders (length places) modulus k ≡ false in
        subst P (sym (named ∙ ap (λ (l : Line). l.name) (entry_at next line also within found)))
        (place_refused old next (subst IsSound is sound) (subst IsSound also next_sound) places holders fills.assigned modulus line from within
        (tested true wants) fills.taken (subst Q lines_are none))

    module _ (free : ℕ) (inside : free < length items) (behind : from ≤ free) (passes : is_free items holders (length places) modulus free ≡ true)
        (first : (k : ℕ) → from ≤ k → k < free → is_free items holders (length places) modulus k ≡ false) where
      Q : (l : List Line) → Type 0
      Q l = (free < length l) × (is_free l holders (length places) modulus free ≡ true)
          × ((k : ℕ) → from ≤ k → k < free → is_free l holders (length places) modulus k ≡ false)

      known : Q old.lines
      unfolding Q
      known = let P : List Line → Type 0 = λ l. (free < length l) × (is_free l holders (length places) modulus free ≡ true)
          × ((k : ℕ) → from ≤ k → k < free → is_free l holders (length places) modulus k ≡ false) in subst P lines_are (inside, passes, first)

      pub line_filled : Fills old next modulus (line + 1) (free + 1) (set places line free) (set holders free line)
      unfolding Q
      line_filled =
          filled old next modulus line from places holders fills (subst IsSound is sound) (subst IsSound also next_sound) free within known.0 (tested true wants) known.1 behind known.2

      pub line_gone : Goes old next modulus places holders (set places line free) (set holders free line)
      unfolding Q
      line_gone =
          gone old next modulus line from places holders fills (subst IsSound is sound) (subst IsSound also next_sound) free within known.0 (tested true wants) known.1 behind known.2
