-- Lines that are moved to other places, with places that have none among them: the tables stay sound.
use Rattle.std.proofs.Common.{◌≡◌, ℕ, ◌<◌, List, Bool, true, false, Option, None, Some, IsTrue, Contains, inl, inr, length, map, get_or, refl, sym, ap, subst, ◌∙◌, arith}
use Rattle.std.specs.Prelude.{option_map, position}
use Rattle.std.proofs.lemmas.Bool.{cases_Bool}
use Rattle.std.proofs.lemmas.List.{get_or-map, get_or_default, length-map}
use Rattle.std.proofs.lemmas.List.Elements.{All-nil}
use Rattle.std.proofs.lemmas.List.Quantifiers.{position-Some}
use Rattle.xp_file.specs.declared.entry.Access.TheVariants.{Port}
use Rattle.xp_file.specs.Entries.{IsAccess}
use Rattle.xp_file.specs.Name.{same, is_line_name}
use Rattle.xp_file.specs.Sources.{AreSources, is_source}
use Rattle.xp_file.proofs.Choices.{none_is_some}
use Rattle.xp_packets.specs.declared.modulus.Modulus.{Modulus}
use Rattle.xp_subs.specs.declared.line.Line.{Line}
use Rattle.xp_subs.specs.declared.station.Station.{Station}
use Rattle.xp_subs.specs.declared.target.Target.{Target}
use Rattle.xp_subs.specs.Laid.{station_with}
use Rattle.xp_subs.specs.Sound.{IsSound, IsTarget, HasAddress, HasShortIndexes, HasOwnGroups, Lists}
use Rattle.xp_subs.specs.Tables.{Tables, IsThere, first_target, has_address, has_name, is_no_access, is_spare, line_at, line_count, line_named_of, modulus_of, no_line, no_station, one_line, spare_place, station_at, station_count, station_of, target_of, whole_station}
use Rattle.xp_subs.specs.steps.Moved.{IsMoved, moved_tables, moved_target}
use Rattle.xp_subs.proofs.PortLemmas.{ports_apart, once_of_apart}
use Rattle.xp_subs.proofs.PositionLemmas.{get_or-shown, none_passes, position-map}
use Rattle.xp_subs.proofs.TableLemmas.{held_is, named_is}
use Rattle.xp_subs.proofs.There.{true_is_false, there_of_own, there_of_station, there_of_name}

-- an element of a list that a function made, and an element that it was made of
map_held : (f : ℕ → ℕ) (xs : List ℕ) (x y : ℕ) → f x ≡ y → Contains xs x → Contains (map f xs) y
map_held f xs x y is (k, within, here) =
    (k, omega (arith, within, length-map xs f), get_or-map f xs k x y within ∙ ap f here ∙ is)

held_map : (f : ℕ → ℕ) (xs : List ℕ) (y : ℕ) → Contains (map f xs) y → (x : ℕ) × Contains xs x × (f x ≡ y)
held_map f xs y (k, within, here) =
    let inside : k < length xs = omega (arith, within, length-map xs f) in
    (get_or xs k 0, (k, inside, get_or_default xs k (get_or xs k 0) 0 inside), sym (get_or-map f xs k 0 y inside) ∙ here)

-- the places that have no line have nothing that a test could find
IsBlank : Tables → Type 0
IsBlank tables = (at : ℕ) → is_spare (line_at tables at) ≡ true → line_at tables at ≡ spare_place (modulus_of tables at)

there_in : (p : Line → Bool) (tables : Tables) → ((modulus : Modulus) → p (spare_place modulus) ≡ false) → IsBlank tables
    → (line : ℕ) → line < line_count tables → p (line_at tables line) ≡ true → IsThere tables line
unfolding IsBlank
there_in p tables fails blank line within passes =
    elim (cases_Bool (is_spare (line_at tables line))) [
      | inl spare ↦ absurd (true_is_false (sym passes ∙ ap p (blank line spare) ∙ fails (modulus_of tables line)))
      | inr there ↦ (within, there)
    ]

-- the one line that an address leads to
own_line : Option Target → Option ℕ
own_line None = None
own_line (Some target) = target.line

module _ (next : Tables) (place : ℕ → ℕ) (lines : List Line) (sound : IsSound next) (moved : IsMoved place next (moved_tables place next lines)) where
  abbrev laid : Tables
  laid = moved_tables place next lines

  next_blank : IsBlank next
  unfolding IsBlank
  next_blank = sound.spare

  laid_blank : IsBlank laid
  unfolding IsBlank
  laid_blank = moved.blank

  -- the line that stands at a place
  Stands : ℕ → Type 0
  Stands at = (line : ℕ) × IsThere next line × (place line ≡ at) × (line_at laid at ≡ line_at next line)

  standing : (at : ℕ) → IsThere laid at → Stands at
  unfolding Stands
  standing at there =
      let (line, before, is) = moved.others at there in
      (line, before, is, ap (line_at laid) (sym is) ∙ (moved.stands line before).1)

  -- a test that one line passes at most, and no place without a line, finds that line where it stands
  module _ (p : Line → Bool) (fails : (modulus : Modulus) → p (spare_place modulus) ≡ false)
      (once : (one other : ℕ) → IsThere next one → IsThere next other → p (line_at next one) ≡ true → p (line_at next other) ≡ true → one ≡ other) where
    position_moved : position p lines ≡ option_map place (position p next.lines)
    unfolding Stands
    position_moved = by (position p next.lines) refl (position p lines) refl
      where
        by : (was : Option ℕ) → position p next.lines ≡ was → (is : Option ℕ) → position p lines ≡ is → is ≡ option_map place was
        by None none None also = refl
        by None none (Some at) found =
            let (within, passes, _) = position-Some p lines at no_line found in
            let (line, there, _, same_line) = standing at (there_in p laid fails laid_blank at within passes) in
            absurd (true_is_false (sym passes ∙ ap p same_line ∙ none_passes p next.lines line no_line there.0 none))
        by (Some line) found None none =
            let (within, passes, _) = position-Some p next.lines line no_line found in
            let (inside, same_line) = moved.stands line (there_in p next fails next_blank line within passes) in
            absurd (true_is_false (sym passes ∙ ap p (sym same_line) ∙ none_passes p lines (place line) no_line inside none))
        by (Some line) found (Some at) also =
            let (within, passes, _) = position-Some p next.lines line no_line found in
            let (inside, here, _) = position-Some p lines at no_line also in
            let (other, there, is, same_line) = standing at (there_in p laid fails laid_blank at inside here) in
            let alike : other ≡ line = once other line there (there_in p next fails next_blank line within passes) (ap p (sym same_line) ∙ here) passes in
            ap (λ n. Some n) (sym is ∙ ap place alike)

  held_once : (a : List ℕ) (one other : ℕ) → IsThere next one → IsThere next other
      → has_address a (line_at next one) ≡ true → has_address a (line_at next other) ≡ true → one ≡ other
  unfolding own_line
  held_once a one other there also here too =
      let first = sound.line_found one a there.0 (held_is a (line_at next one).address here) in
      let second = sound.line_found other a also.0 (held_is a (line_at next other).address too) in
      let e : Some one ≡ Some other = ap own_line (sym first ∙ second) in
      cc

  named_once : (n : List ℕ) (one other : ℕ) → IsThere next one → IsThere next other
      → has_name n (line_at next one) ≡ true → has_name n (line_at next other) ≡ true → one ≡ other
  named_once n one other there also here too =
      let first : line_named_of next n ≡ Some one = ap (line_named_of next) (named_is n (line_at next one) here).1 ∙ sound.named one there in
      let second : line_named_of next n ≡ Some other = ap (line_named_of next) (named_is n (line_at next other) too).1 ∙ sound.named other also in
      let e = sym first ∙ second in
      cc

  pub name_moved : (n : List ℕ) → line_named_of laid n ≡ option_map place (line_named_of next n)
  name_moved n = position_moved (has_name n) (λ modulus. refl) (named_once n)

  pub target_moved : (a : List ℕ) → target_of laid a ≡ option_map (moved_target place) (target_of next a)
  target_moved a =
      ap (λ s. first_target (whole_station s) (one_line lines (position (has_address a) lines)))
      (position-map (λ (s : Station). same a s.address) (station_with place) next.stations)
      ∙ ap (λ l. first_target (whole_station (position (λ (s : Station). same a s.address) next.stations)) (one_line lines l))
      (position_moved (has_address a) (λ modulus. refl) (held_once a))
      ∙ by (position (λ (s : Station). same a s.address) next.stations) (position (has_address a) next.lines) refl
    where
      by : (s l : Option ℕ) → position (has_address a) next.lines ≡ l
          → first_target (whole_station s) (one_line lines (option_map place l)) ≡ option_map (moved_target place) (first_target (whole_station s) (one_line next.lines l))
      by (Some s) l e = refl
      by None None e = refl
      by None (Some line) e =
          let (within, passes, _) = position-Some (has_address a) next.lines line no_line e in
          let there = there_in (has_address a) next (λ modulus. refl) next_blank line within passes in
          ap (λ (l : Line). Some (let t : Target = record { station = l.station; line = Some (place line) } in t)) (moved.stands line there).1

  station_moved : (station : ℕ) → station_at laid station ≡ station_with place (station_at next station)
  station_moved station = get_or-shown (station_with place) next.stations station no_station

  stations_same : station_count laid ≡ station_count next
  stations_same = length-map next.stations (station_with place)

  moved_placed : (at : ℕ) → IsThere laid at → station_of laid at < station_count laid
  unfolding Stands
  moved_placed at there =
      let (line, before, is, same_line) = standing at there in
      let same_station : station_of laid at ≡ station_of next line = ap (λ (l : Line). l.station) same_line in
      omega (arith, same_station, stations_same, sound.placed line before)

  moved_listed : (at : ℕ) → IsThere laid at → Lists laid (station_of laid at) at
  unfolding Stands
  moved_listed at there =
      let (line, before, is, same_line) = standing at there in
      let same_station : station_of laid at ≡ station_of next line = ap (λ (l : Line). l.station) same_line in
      let P : Station → Type 0 = λ s. Contains s.lines.items at in
      let held : P (station_with place (station_at next (station_of next line))) =
      map_held place (station_at next (station_of next line)).lines.items line at is (sound.listed line before) in
      subst (λ s. Lists laid s at) (sym same_station) (subst P (sym (station_moved (station_of next line))) held)

  moved_own : (station at : ℕ) → station < station_count laid → Lists laid station at → (at < line_count laid) × (station_of laid at ≡ station)
  moved_own station at within held =
      let P : Station → Type 0 = λ s. Contains s.lines.items at in
      let (line, mine, is) = held_map place (station_at next station).lines.items at (subst P (station_moved station) held) in
      let known : station < station_count next = omega (arith, within, stations_same) in
      let (inside, same_line) = moved.stands line (there_of_own next station line sound known mine) in
      subst (λ a. (a < line_count laid) × (station_of laid a ≡ station)) is
      (inside, ap (λ (l : Line). l.station) same_line ∙ (sound.own station line known mine).1)

  moved_station_found : (station : ℕ) → station < station_count laid
      → target_of laid (station_at laid station).address ≡ Some (record { station = station; line = None })
  moved_station_found station within =
      let known : station < station_count next = omega (arith, within, stations_same) in
      ap (λ (s : Station). target_of laid s.address) (station_moved station)
      ∙ target_moved (station_at next station).address
      ∙ ap (option_map (moved_target place)) (sound.station_found station known)

  moved_line_found : (at : ℕ) (address : List ℕ) → at < line_count laid → (line_at laid at).address ≡ Some address
      → target_of laid address ≡ Some (record { station = station_of laid at; line = Some at })
  unfolding Stands
  moved_line_found at address within held =
      elim (cases_Bool (is_spare (line_at laid at))) [
        | inl spare ↦ absurd (none_is_some (sym (ap (λ (l : Line). l.address) (moved.blank at spare)) ∙ held))
        | inr there ↦
            let (line, before, is, same_line) = standing at (within, there) in
            target_moved address
            ∙ ap (option_map (moved_target place)) (sound.line_found line address before.0 (ap (λ (l : Line). l.address) (sym same_line) ∙ held))
            ∙ ap (λ (l : Line). Some (let t : Target = record { station = l.station; line = Some (place line) } in t)) (sym same_line)
            ∙ ap (λ n. Some (let t : Target = record { station = station_of laid at; line = Some n } in t)) is
      ]

  moved_named : (at : ℕ) → IsThere laid at → line_named_of laid (line_at laid at).name ≡ Some at
  unfolding Stands
  moved_named at there =
      let (line, before, is, same_line) = standing at there in
      ap (λ (l : Line). line_named_of laid l.name) same_line
      ∙ name_moved (line_at next line).name
      ∙ ap (option_map place) (sound.named line before)
      ∙ ap (λ n. Some n) is

  -- what an address leads to
  target_is : (station : ℕ) (line : Option ℕ) → IsTarget next (record { station = station; line = line })
      → IsTarget laid (record { station = station; line = option_map place line })
  target_is station None (known, _) = (omega (arith, known, stations_same), tt)
  target_is station (Some line) (known, (within, its)) =
      let (inside, same_line) = moved.stands line (there_of_station next line sound within (omega (arith, known, its))) in
      (omega (arith, known, stations_same), (inside, ap (λ (l : Line). l.station) same_line ∙ its))

  target_held : (a : List ℕ) (station : ℕ) (line : Option ℕ) → IsTarget next (record { station = station; line = line })
      → HasAddress next (record { station = station; line = line }) a → HasAddress laid (record { station = station; line = option_map place line }) a
  target_held a station None known held = ap (λ (s : Station). s.address) (station_moved station) ∙ held
  target_held a station (Some line) (known, (within, its)) held =
      let (inside, same_line) = moved.stands line (there_of_station next line sound within (omega (arith, known, its))) in
      ap (λ (l : Line). l.address) same_line ∙ held

  target_was : (a : List ℕ) (target : Target) → target_of laid a ≡ Some target
      → (was : Target) × (target_of next a ≡ Some was) × (moved_target place was ≡ target)
  target_was a target found = by (target_of next a) refl (sym (target_moved a) ∙ found)
    where
      by : (o : Option Target) → target_of next a ≡ o → option_map (moved_target place) o ≡ Some target
          → (was : Target) × (target_of next a ≡ Some was) × (moved_target place was ≡ target)
      by None e is = absurd (none_is_some is)
      by (Some was) e is = (was, e, (let this : moved_target place was ≡ target = cc in this))

  moved_target_is : (a : List ℕ) (target : Target) → target_of laid a ≡ Some target → IsTarget laid target
  moved_target_is a target found =
      let (was, e, is) = target_was a target found in
      subst (IsTarget laid) is (target_is was.station was.line (sound.target a was e))

  moved_address_held : (a : List ℕ) (target : Target) → target_of laid a ≡ Some target → HasAddress laid target a
  moved_address_held a target found =
      let (was, e, is) = target_was a target found in
      subst (λ t. HasAddress laid t a) is (target_held a was.station was.line (sound.target a was e) (sound.address_held a was e))

  moved_name_held : (n : List ℕ) (at : ℕ) → line_named_of laid n ≡ Some at → (at < line_count laid) × ((line_at laid at).name ≡ n)
  moved_name_held n at found = by (line_named_of next n) refl (sym (name_moved n) ∙ found)
    where
      by : (o : Option ℕ) → line_named_of next n ≡ o → option_map place o ≡ Some at → (at < line_count laid) × ((line_at laid at).name ≡ n)
      by None e is = absurd (none_is_some is)
      by (Some line) e is =
          let this : place line ≡ at = cc in
          let (inside, same_line) = moved.stands line (there_of_name next n line e) in
          subst (λ a. (a < line_count laid) × ((line_at laid a).name ≡ n)) this
          (inside, ap (λ (l : Line). l.name) same_line ∙ (sound.name_held n line e).1)

  moved_groups : (station : ℕ) → station < station_count laid → HasOwnGroups laid (station_at laid station)
  moved_groups station within =
      let groups = sound.own_groups station (omega (arith, within, stations_same)) in
      subst (HasOwnGroups laid) (sym (station_moved station)) (record {
        indexes_once = groups.indexes_once;
        groups_once = groups.groups_once;
        groups_named = groups.groups_named;
        preferential = groups.preferential;
      })

  moved_ports : (one other p : ℕ) → one < length lines → other < length lines → (get_or lines one no_line).access ≡ Port p
      → (get_or lines other no_line).access ≡ Port p → one ≡ other
  unfolding Stands
  moved_ports one other p within inside is also =
      let (line, there, at, same_line) = standing one (within, ap is_no_access is) in
      let (line', there', at', same_line') = standing other (inside, ap is_no_access also) in
      let alike : line ≡ line' = ports_apart next.lines sound.ports_once line line' p there.0 there'.0
      (ap (λ (l : Line). l.access) (sym same_line) ∙ is) (ap (λ (l : Line). l.access) (sym same_line') ∙ also) in
      sym at ∙ ap place alike ∙ at'

  moved_sources : (at : ℕ) → at < line_count laid → AreSources (line_at laid at).from
  unfolding Stands
  moved_sources at within =
      elim (cases_Bool (is_spare (line_at laid at))) [
        | inl spare ↦
            subst (λ (l : Line). AreSources l.from) (sym (moved.blank at spare)) (record { few = omega arith; spelled = All-nil (λ text. IsTrue (is_source text)) })
        | inr there ↦
            let (line, before, is, same_line) = standing at (within, there) in
            subst (λ (l : Line). AreSources l.from) (sym same_line) (sound.sources line before.0)
      ]

  moved_line : (P : Line → Type 0) → ((line : ℕ) → IsThere next line → P (line_at next line)) → (at : ℕ) → IsThere laid at → P (line_at laid at)
  unfolding Stands
  moved_line P each at there =
      let (line, before, is, same_line) = standing at there in
      subst P (sym same_line) (each line before)

  pub moved_sound : IsSound laid
  moved_sound = record {
    some_line = moved.some;
    few_lines = moved.few;
    few_stations = omega (arith, stations_same, sound.few_stations);
    spare = moved.blank;
    placed = moved_placed;
    listed = moved_listed;
    own = moved_own;
    station_found = moved_station_found;
    line_found = moved_line_found;
    named = moved_named;
    target = moved_target_is;
    address_held = moved_address_held;
    name_held = moved_name_held;
    indexes = λ station within. subst HasShortIndexes (sym (station_moved station)) (sound.indexes station (omega (arith, within, stations_same)));
    own_groups = moved_groups;
    names_of_groups = sound.names_of_groups;
    accesses = moved_line (λ l. IsAccess l.access) sound.accesses;
    ports_once = once_of_apart lines moved_ports;
    xot_port = sound.xot_port;
    limits = sound.limits;
    spelled = moved_line (λ l. IsTrue (is_line_name l.name)) sound.spelled;
    sources = moved_sources;
  }
