-- The lines of a newly read file stand at their places.
use Rattle.std.proofs.Common.{◌≡◌, ℕ, ◌<◌, ◌≤◌, List, true, inl, inr, map, refl, sym, ap, subst, ◌∙◌, arith}
use Rattle.std.specs.Map.{lookup}
use Rattle.std.specs.Prelude.{option_map}
use Rattle.std.proofs.lemmas.Bool.{cases_lt}
use Rattle.std.proofs.lemmas.List.{get_or_default, get_or_past}
use Rattle.std.proofs.lemmas.Map.Made.{lookup-map_values}
use Rattle.xp_file.specs.Name.{same}
use Rattle.xp_packets.specs.declared.modulus.Modulus.{Modulus}
use Rattle.xp_packets.specs.declared.modulus.Modulus.TheVariants.{Eight, Long}
use Rattle.xp_subs.specs.declared.line.Line.{Line}
use Rattle.xp_subs.specs.declared.station.Station.{Station}
use Rattle.xp_subs.specs.declared.subs.Subs.TheInside.{Inside}
use Rattle.xp_subs.specs.Consistency.{tables}
use Rattle.xp_subs.specs.Laid.{Comes, station_with}
use Rattle.xp_subs.specs.Sound.{IsSound}
use Rattle.xp_subs.specs.Tables.{Tables, IsThere, is_spare, line_at, line_count, line_named_of, modulus_of, no_line, spare_place, target_of}
use Rattle.xp_subs.specs.steps.Consistency.{IsConsistent}
use Rattle.xp_subs.specs.steps.Moved.{IsMoved, moved_tables, moved_target}
use Rattle.xp_subs.specs.steps.Places.{AreHeld, Assigns, Fills, Goes, IsLaid, number_at}
use Rattle.xp_subs.proofs.MovedLemmas.{moved_sound, name_moved, target_moved}
use Rattle.xp_subs.proofs.There.{true_is_false}

-- what a `Subs` keeps whose lines are moved
pub moved_keeps : (inside was : Inside) (next : Tables) (place : ℕ → ℕ) (lines : List Line) → tables was ≡ next → IsConsistent was
    → IsMoved place next (moved_tables place next lines) → tables inside ≡ moved_tables place next lines
    → inside.targets.entries ≡ map (λ entry. (entry.0, moved_target place entry.1)) was.targets.entries
    → inside.names.entries ≡ map (λ entry. (entry.0, place entry.1)) was.names.entries
    → inside.nobody ≡ was.nobody → IsConsistent inside
moved_keeps inside was next place lines is kept moved now targets names nobody =
    let sound : IsSound next = subst IsSound is kept.sound in
    record {
      sound = subst IsSound (sym now) (moved_sound next place lines sound moved);
      targets = λ a.
          ap (lookup (same a)) targets
          ∙ lookup-map_values (moved_target place) (same a) was.targets.entries
          ∙ ap (option_map (moved_target place)) (kept.targets a ∙ ap (λ t. target_of t a) is)
          ∙ sym (target_moved next place lines sound moved a)
          ∙ ap (λ t. target_of t a) (sym now);
      names = λ n.
          ap (lookup (same n)) names
          ∙ lookup-map_values place (same n) was.names.entries
          ∙ ap (option_map place) (kept.names n ∙ ap (λ t. line_named_of t n) is)
          ∙ sym (name_moved next place lines sound moved n)
          ∙ ap (λ t. line_named_of t n) (sym now);
      nobody = nobody ∙ kept.nobody;
    }

module _ (old next : Tables) (sound : IsSound old) (places holders : List ℕ) (lines : List Line) (held : AreHeld old.lines next.lines holders lines)
    (mid mid_held : List ℕ) (mid_from from : ℕ) (first : Fills old next Eight (line_count next) mid_from mid mid_held)
    (goes : Goes old next Long mid mid_held places holders) (second : Fills old next Long (line_count next) from places holders) where
  assigned : Assigns old next places holders
  assigned = second.assigned

  abbrev laid : Tables
  laid = moved_tables (number_at places) next lines

  placed_first : (line : ℕ) → IsThere next line → modulus_of next line ≡ Eight → number_at mid line < line_count old
  placed_first line there is = first.placed line there.0 there is

  as_first : (line : ℕ) → IsThere next line → modulus_of next line ≡ Eight → number_at places line ≡ number_at mid line
  as_first line there is = goes.still line there.0 (placed_first line there is)

  placed : (line : ℕ) → IsThere next line → number_at places line < line_count old
  placed line there = by (modulus_of next line) refl
    where
      by : (modulus : Modulus) → modulus_of next line ≡ modulus → number_at places line < line_count old
      by Eight is = let below = placed_first line there is in let same_place = as_first line there is in omega (arith, below, same_place)
      by Long is = second.placed line there.0 there is

  -- a place whose line there is
  with_line : (at : ℕ) → at < line_count old → number_at holders at < line_count next → line_at laid at ≡ line_at next (number_at holders at)
  with_line at known below =
      held.each at known ∙ get_or_default next.lines (number_at holders at) (spare_place (modulus_of old at)) no_line below

  -- and one that has none
  without_line : (at : ℕ) → at < line_count old → line_count next ≤ number_at holders at → line_at laid at ≡ spare_place (modulus_of old at)
  without_line at known past =
      held.each at known ∙ get_or_past next.lines (number_at holders at) (spare_place (modulus_of old at)) past

  stands : (line : ℕ) → IsThere next line → (number_at places line < line_count laid) × (line_at laid (number_at places line) ≡ line_at next line)
  stands line there =
      let below = placed line there in
      let (_, holder, _) = assigned.stands line there.0 below in (
        omega (arith, below, held.long),
        with_line (number_at places line) below (omega (arith, holder, there.0)) ∙ ap (line_at next) holder,
      )

  -- each place is one of these
  others : (at : ℕ) → IsThere laid at → (line : ℕ) × IsThere next line × (number_at places line ≡ at)
  others at there =
      let known : at < line_count old = omega (arith, there.0, held.long) in
      elim (cases_lt (number_at holders at) (line_count next)) [
        | inl below ↦
            let back = assigned.held at known below in
            (number_at holders at, (assigned.stands (number_at holders at) below (omega (arith, back, known))).0, back)
        | inr past ↦ absurd (true_is_false (sym (ap is_spare (without_line at known past)) ∙ there.1))
      ]

  kinds : (at : ℕ) → is_spare (line_at laid at) ≡ true → line_at laid at ≡ spare_place (modulus_of laid at)
  kinds at spare =
      elim (cases_lt at (line_count old)) [
        | inl known ↦ elim (cases_lt (number_at holders at) (line_count next)) [
          | inl below ↦
              let back = assigned.held at known below in
              let there = (assigned.stands (number_at holders at) below (omega (arith, back, known))).0 in
              absurd (true_is_false (sym spare ∙ ap is_spare (with_line at known below) ∙ there.1))
          | inr past ↦ without_line at known past ∙ ap (λ (l : Line). spare_place l.modulus) (sym (without_line at known past))
        ]
        | inr past ↦ absurd (true_is_false (sym spare ∙ ap is_spare (get_or_past lines at no_line (omega (arith, past, held.long)))))
      ]

  moduli : (at : ℕ) → at < line_count old → modulus_of laid at ≡ modulus_of old at
  moduli at known =
      elim (cases_lt (number_at holders at) (line_count next)) [
        | inl below ↦
            let back = assigned.held at known below in
            let its = (assigned.stands (number_at holders at) below (omega (arith, back, known))).2 in
            ap (λ (l : Line). l.modulus) (with_line at known below) ∙ its ∙ ap (modulus_of old) back
        | inr past ↦ ap (λ (l : Line). l.modulus) (without_line at known past)
      ]

  apart : (one other : ℕ) → IsThere next one → IsThere next other → number_at places one ≡ number_at places other → one ≡ other
  apart one other there also e =
      sym (assigned.stands one there.0 (placed one there)).1 ∙ ap (number_at holders) e ∙ (assigned.stands other also.0 (placed other also)).1

  -- the place has a line
  line_there : (at : ℕ) → at < line_count old → number_at holders at < line_count next → IsThere laid at
  line_there at known below =
      let back = assigned.held at known below in
      let there = (assigned.stands (number_at holders at) below (omega (arith, back, known))).0 in
      (omega (arith, known, held.long), ap is_spare (with_line at known below) ∙ there.1)

  no_gap : (line at : ℕ) → Comes old next line → at < number_at places line → modulus_of old at ≡ modulus_of next line → IsThere laid at
  no_gap line at comes below alike = by (modulus_of next line) refl
    where
      by : (modulus : Modulus) → modulus_of next line ≡ modulus → IsThere laid at
      by Eight is =
          let same_place = as_first line comes.0 is in
          let known : at < line_count old = (let inside = placed line comes.0 in omega (arith, inside, below)) in
          let before = first.before line comes.0.0 (comes, is) in
          line_there at known (goes.kept at known (first.taken at (omega (arith, same_place, before, below)) known (alike ∙ is)))
      by Long is =
          let known : at < line_count old = (let inside = placed line comes.0 in omega (arith, inside, below)) in
          let before = second.before line comes.0.0 (comes, is) in
          line_there at known (second.taken at (omega (arith, before, below)) known (alike ∙ is))

  in_order : (line later : ℕ) → Comes old next line → Comes old next later → modulus_of next line ≡ modulus_of next later
      → line < later → number_at places line < number_at places later
  in_order line later comes also alike before = by (modulus_of next line) refl
    where
      by : (modulus : Modulus) → modulus_of next line ≡ modulus → number_at places line < number_at places later
      by Eight is =
          let later_is = sym alike ∙ is in
          let same_place = as_first line comes.0 is in
          let same_later = as_first later also.0 later_is in
          let ordered = first.ordered line later before also.0.0 (comes, is) (also, later_is) in
          omega (arith, same_place, same_later, ordered)
      by Long is = second.ordered line later before also.0.0 (comes, is) (also, sym alike ∙ is)

  pub is_laid : IsLaid old next places lines
  is_laid = record {
    moved = record {
      some = omega (arith, sound.some_line, held.long);
      few = omega (arith, sound.few_lines, held.long);
      apart = apart;
      stands = stands;
      others = others;
      blank = kinds;
    };
    over = record {
      place = number_at places;
      apart = apart;
      count = held.long;
      moduli = moduli;
      stands = λ line there. (placed line there, (stands line there).1);
      others = others;
      kept = assigned.kept;
      first = no_gap;
      in_order = in_order;
      rest = refl;
    };
  }

-- the tables of a `Subs` whose stations and lines alone are others
pub moved_stations : (was : Inside) (next : Tables) (place : ℕ → ℕ) (lines : List Line) {stations : List Station} → tables was ≡ next
    → stations ≡ map (station_with place) was.stations.items → record (tables was) { stations = stations; lines = lines } ≡ moved_tables place next lines
moved_stations was next place lines is made = ap (λ s. record (tables was) { stations = s; lines = lines }) made ∙ ap (λ t. moved_tables place t lines) is

-- the same from what the calls give, one after another
pub laid_as : (one other : Tables) (old next : Tables) → one ≡ old → other ≡ next → IsSound one
    → (places holders : List ℕ) (lines : List Line) (mid mid_held : List ℕ) → (from : ℕ) × Fills old next Eight (line_count next) from mid mid_held
    → Goes old next Long mid mid_held places holders → (from : ℕ) × Fills old next Long (line_count next) from places holders
    → {items : List Line} {held : List ℕ} → items ≡ other.lines → held ≡ holders → AreHeld old.lines items held lines → IsLaid old next places lines
laid_as one other old next is also sound places holders lines mid mid_held (mid_from, first) goes (from, second) {items} {held} all same_holders are =
    let alike : items ≡ next.lines = all ∙ ap (λ (t : Tables). t.lines) also in
    is_laid old next (subst IsSound is sound) places holders lines
    (subst (λ h. AreHeld old.lines next.lines h lines) same_holders (subst (λ l. AreHeld old.lines l held lines) alike are))
    mid mid_held mid_from from first goes second
