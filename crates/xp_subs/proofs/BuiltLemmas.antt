-- The stations and lines that are built: which line is whose, and what the indexes say of them.
use Rattle.std.proofs.Common.{◌≡◌, ℕ, zero, suc, ◌+◌, ◌-◌, ◌<◌, ◌≤◌, List, [], ◌∷◌, ◌++◌, true, false, not, ◌&&◌, Option, None, Some, ◌⊎◌, inl, inr, Contains, All, IsTrue, Ok, length, map, replicate, get_or, refl, sym, ap, subst, ◌∙◌, arith, length-append}
use Rattle.std.specs.Prelude.{option_map, position}
use Rattle.std.specs.List.{list_all}
use Rattle.std.specs.Map.{lookup}
use Rattle.std.proofs.lemmas.Bool.{cases_lt, and_parts}
use Rattle.std.proofs.lemmas.List.{get_or_append_left, get_or-append_right, get_or-replicate, get_or_past, length-map, length-replicate, map-append, map-id}
use Rattle.std.proofs.lemmas.List.Elements.{All-head, All-tail, All-append, All-nil, All-cons}
use Rattle.std.proofs.lemmas.List.Quantifiers.{position-Some}
use Rattle.std.proofs.lemmas.List.Sums.{sum_by-cons}
use Rattle.xp_file.specs.declared.entry.Access.{Access}
use Rattle.xp_file.specs.declared.entry.Access.TheVariants.{Port, Router, Spare}
use Rattle.xp_file.specs.declared.entry.GroupEntry.{GroupEntry}
use Rattle.xp_file.specs.declared.entry.LineEntry.{LineEntry}
use Rattle.xp_file.specs.Entries.{AreLimits, StationData, IsAccess, IsLineEntry, IsGroupEntry}
use Rattle.xp_file.specs.Name.{same, is_line_name}
use Rattle.xp_file.specs.Routers.{IsPort}
use Rattle.xp_file.specs.Sources.{AreSources}
use Rattle.xp_packets.specs.declared.modulus.Modulus.{Modulus}
use Rattle.xp_packets.specs.declared.modulus.Modulus.TheVariants.{Eight, Long}
use Rattle.xp_subs.specs.declared.line.Line.{Line}
use Rattle.xp_subs.specs.declared.station.Membership.{Membership}
use Rattle.xp_subs.specs.declared.station.Station.{Station}
use Rattle.xp_subs.specs.declared.target.Target.{Target}
use Rattle.xp_subs.specs.Built.{numbers, line_from, lines_of, lines_from, membership_from, memberships_of, station_from, stations_from, mentions, spare_places, tables_of}
use Rattle.xp_subs.specs.Bounds.{most_lines}
use Rattle.xp_subs.specs.Laid.{station_with}
use Rattle.xp_subs.specs.steps.Built.{AreKnown}
use Rattle.xp_subs.specs.steps.Moved.{IsMoved, moved_tables, moved_target}
use Rattle.xp_file.specs.SubscriptionFile.{FileData}
use Rattle.xp_subs.specs.declared.subs.Subs.TheInside.{Inside}
use Rattle.xp_subs.specs.Consistency.{tables}
use Rattle.xp_subs.specs.steps.Consistency.{IsConsistent}
use Rattle.xp_subs.specs.steps.WithinLimits.{AreWithinLimits, IsStationWithinLimits}
use Rattle.xp_subs.specs.Passes.{line_total, has_own_indexes}
use Rattle.xp_subs.specs.steps.Passes.{Used, nothing_used, with_stations}
use Rattle.xp_subs.specs.Sound.{IsSound, IsTarget, HasAddress, HasShortIndexes, HasOwnGroups, Lists}
use Rattle.xp_subs.specs.Tables.{Tables, IsThere, has_name, is_no_access, is_spare, modulus_of, spare_place, no_line, no_station, station_at, line_at, station_of, target_of, line_named_of, has_address, whole_station, one_line, first_target, station_count, line_count}
use Rattle.xp_subs.proofs.AgreeLemmas.{Agrees, Own, owns, no_own, lead}
use Rattle.xp_subs.proofs.EntersLemmas.{own_list, name_list, station_addresses, all_names, all_owns, stations_agree}
use Rattle.xp_subs.proofs.GroupLemmas.{mentions_once, all_known, own_groups}
use Rattle.xp_subs.proofs.UsesLemmas.{all_once, line_ports_once}
use Rattle.xp_subs.proofs.MovedLemmas.{moved_sound, name_moved, target_moved}
use Rattle.xp_subs.proofs.PositionLemmas.{get_or-shown, position-alike, position-map}
use Rattle.xp_subs.proofs.TableLemmas.{held_is, named_is, same_is}
use Rattle.xp_file.proofs.Choices.{none_is_some}
use Rattle.xp_subs.proofs.There.{true_is_false}

length-numbers : (first count : ℕ) → length (numbers first count) ≡ count
length-numbers first zero = refl
length-numbers first (suc count) = ap suc (length-numbers (first + 1) count)

numbers-at : (first count i d : ℕ) → i < count → get_or (numbers first count) i d ≡ first + i
numbers-at first zero i d within = absurd (omega arith)
numbers-at first (suc count) zero d within = omega arith
numbers-at first (suc count) (suc i) d within = numbers-at (first + 1) count i d (omega arith) ∙ omega arith

-- a line that a file may have
abbrev pub IsLine : Line → Type 0
IsLine line = IsTrue (is_line_name line.name) × IsAccess line.access × AreSources line.from

-- the lines of one station
own_of : Line → Own
own_of line = (line.station, line.address)

lines_of-names : (station : ℕ) (lines : List LineEntry) → map (λ (l : Line). l.name) (lines_of station lines) ≡ name_list lines
unfolding name_list
lines_of-names station [] = refl
lines_of-names station (line ∷ lines) = ap (λ l. line.name ∷ l) (lines_of-names station lines)

lines_of-owns : (station : ℕ) (lines : List LineEntry) → map own_of (lines_of station lines) ≡ own_list station lines
unfolding own_of own_list
lines_of-owns station [] = refl
lines_of-owns station (line ∷ lines) = ap (λ l. (station, line.address) ∷ l) (lines_of-owns station lines)

lines_of-length : (station : ℕ) (lines : List LineEntry) → length (lines_of station lines) ≡ length lines
lines_of-length station lines = length-map lines (line_from station)

lines_of-station : (station : ℕ) (lines : List LineEntry) (i : ℕ)
    → i < length (lines_of station lines) → (get_or (lines_of station lines) i no_line).station ≡ station
lines_of-station station [] i within = absurd (omega arith)
lines_of-station station (line ∷ lines) zero within = refl
lines_of-station station (line ∷ lines) (suc i) within = lines_of-station station lines i (omega arith)

-- the lines of all stations
lines_from-names : (number : ℕ) (entries : List StationData) → map (λ (l : Line). l.name) (lines_from number entries) ≡ all_names entries
unfolding all_names
lines_from-names number [] = refl
lines_from-names number (entry ∷ entries) =
    map-append (λ (l : Line). l.name) (lines_of number entry.lines) (lines_from (number + 1) entries)
    ∙ ap (λ l. l ++ map (λ (l : Line). l.name) (lines_from (number + 1) entries)) (lines_of-names number entry.lines)
    ∙ ap (λ l. name_list entry.lines ++ l) (lines_from-names (number + 1) entries)

lines_from-owns : (number : ℕ) (entries : List StationData) → map own_of (lines_from number entries) ≡ all_owns number entries
unfolding all_owns
lines_from-owns number [] = refl
lines_from-owns number (entry ∷ entries) =
    map-append own_of (lines_of number entry.lines) (lines_from (number + 1) entries)
    ∙ ap (λ l. l ++ map own_of (lines_from (number + 1) entries)) (lines_of-owns number entry.lines)
    ∙ ap (λ l. own_list number entry.lines ++ l) (lines_from-owns (number + 1) entries)

lines_from-length : (number : ℕ) (entries : List StationData) → length (lines_from number entries) ≡ line_total entries
lines_from-length number [] = refl
lines_from-length number (entry ∷ entries) =
    length-append (lines_of number entry.lines) (lines_from (number + 1) entries)
    ∙ ap (λ n. n + length (lines_from (number + 1) entries)) (lines_of-length number entry.lines)
    ∙ ap (λ n. length entry.lines + n) (lines_from-length (number + 1) entries)
    ∙ sym (sum_by-cons (λ (station : StationData). length station.lines) entry entries)

module _ (known : List (List ℕ)) where
  stations_from-addresses : (line : ℕ) (entries : List StationData) → map (λ (s : Station). s.address) (stations_from known line entries) ≡ station_addresses entries
  unfolding station_addresses
  stations_from-addresses line [] = refl
  stations_from-addresses line (entry ∷ entries) = ap (λ l. entry.address ∷ l) (stations_from-addresses (line + length entry.lines) entries)

  stations_from-length : (line : ℕ) (entries : List StationData) → length (stations_from known line entries) ≡ length entries
  stations_from-length line [] = refl
  stations_from-length line (entry ∷ entries) = ap suc (stations_from-length (line + length entry.lines) entries)

  -- a line is its station's
  Placed : ℕ → ℕ → List StationData → ℕ → Type 0
  Placed number first entries l =
      (k : ℕ) × (k < length entries) × ((get_or (lines_from number entries) l no_line).station ≡ number + k)
      × Contains (get_or (stations_from known first entries) k no_station).lines.items (first + l)

  placed : (number first : ℕ) (entries : List StationData) → (l : ℕ) → l < length (lines_from number entries) → Placed number first entries l
  unfolding Placed
  placed number first [] l within = absurd (omega arith)
  placed number first (entry ∷ entries) l within =
      by (lines_of-length number entry.lines)
      (cases_lt l (length (lines_of number entry.lines)))
      (λ i. placed (number + 1) (first + length entry.lines) entries i)
    where
      by : length (lines_of number entry.lines) ≡ length entry.lines
          → (l < length (lines_of number entry.lines)) ⊎ (length (lines_of number entry.lines) ≤ l)
          → ((i : ℕ) → i < length (lines_from (number + 1) entries) → Placed (number + 1) (first + length entry.lines) entries i)
          → Placed number first (entry ∷ entries) l
      by long (inl below) rest =
          let here : l < length entry.lines = omega (arith, long) in
          let inside : l < length (numbers first (length entry.lines)) = omega (arith, length-numbers first (length entry.lines)) in (
            0,
            omega arith,
            ap (λ (x : Line). x.station) (get_or_append_left (lines_of number entry.lines) (lines_from (number + 1) entries) no_line l below)
                ∙ lines_of-station number entry.lines l below ∙ omega arith,
            (l, inside, numbers-at first (length entry.lines) l (first + l) here),
          )
      by long (inr above) rest =
          let i = l - length (lines_of number entry.lines) in
          let within_rest : i < length (lines_from (number + 1) entries) =
          omega (arith, within, length-append (lines_of number entry.lines) (lines_from (number + 1) entries)) in
          let (k, below, station, held) = rest i within_rest in
          let same_line : first + length entry.lines + i ≡ first + l = omega (arith, long) in (
            suc k,
            omega arith,
            ap (λ (x : Line). x.station) (get_or-append_right (lines_of number entry.lines) (lines_from (number + 1) entries) (length (lines_of number entry.lines)) l no_line refl above)
                ∙ station ∙ omega arith,
            subst (Contains (get_or (stations_from known (first + length entry.lines) entries) k no_station).lines.items) same_line held,
          )

  -- and a station's lines are its own
  Owned : ℕ → ℕ → List StationData → ℕ → ℕ → Type 0
  Owned number first entries k v =
      (l : ℕ) × (v ≡ first + l) × (l < length (lines_from number entries)) × ((get_or (lines_from number entries) l no_line).station ≡ number + k)

  owned : (number first : ℕ) (entries : List StationData) → (k v : ℕ) → k < length entries
      → Contains (get_or (stations_from known first entries) k no_station).lines.items v → Owned number first entries k v
  unfolding Owned
  owned number first [] k v within held = absurd (omega arith)
  owned number first (entry ∷ entries) zero v within (i, inside, is) =
      let long = lines_of-length number entry.lines in
      let here : i < length entry.lines = omega (arith, inside, length-numbers first (length entry.lines)) in
      let below : i < length (lines_of number entry.lines) = omega (arith, long) in (
        i,
        sym is ∙ numbers-at first (length entry.lines) i v here,
        omega (arith, below, length-append (lines_of number entry.lines) (lines_from (number + 1) entries)),
        ap (λ (x : Line). x.station) (get_or_append_left (lines_of number entry.lines) (lines_from (number + 1) entries) no_line i below)
            ∙ lines_of-station number entry.lines i below ∙ omega arith,
      )
  owned number first (entry ∷ entries) (suc k) v within held =
      let long = lines_of-length number entry.lines in
      let (l, is, inside, station) = owned (number + 1) (first + length entry.lines) entries k v (omega arith) held in
      let a = length (lines_of number entry.lines) in
      let there : a ≤ a + l = omega arith in
      let less : a + l - a ≡ l = omega arith in (
        a + l,
        is ∙ omega (arith, long),
        omega (arith, inside, length-append (lines_of number entry.lines) (lines_from (number + 1) entries)),
        ap (λ (x : Line). x.station)
            (get_or-append_right (lines_of number entry.lines) (lines_from (number + 1) entries) a (a + l) no_line refl there
            ∙ ap (λ j. get_or (lines_from (number + 1) entries) j no_line) less)
            ∙ station ∙ omega arith,
      )

-- each line is one of a file
all_lines : (number : ℕ) (entries : List StationData) → All IsStationWithinLimits entries → All IsLine (lines_from number entries)
all_lines number [] each = All-nil IsLine
all_lines number (entry ∷ entries) each =
    All-append IsLine (lines_of number entry.lines) (lines_from (number + 1) entries)
    (made entry.lines (All-head IsStationWithinLimits entry entries each).entry.lines)
    (all_lines (number + 1) entries (All-tail IsStationWithinLimits entry entries each))
  where
    made : (lines : List LineEntry) → All IsLineEntry lines → All IsLine (lines_of number lines)
    made [] all = All-nil IsLine
    made (line ∷ lines) all =
        let here = All-head IsLineEntry line lines all in
        All-cons IsLine (line_from number line) (lines_of number lines) (here.spelled, here.access, here.sources)
        (made lines (All-tail IsLineEntry line lines all))

-- what holds of each station of a file holds of each that is built
all_built : {P : StationData → Type 0} (Q : Station → Type 0) (known : List (List ℕ)) (line : ℕ) (entries : List StationData)
    → ((line : ℕ) (entry : StationData) → P entry → Q (station_from known line entry)) → All P entries → All Q (stations_from known line entries)
all_built {P} Q known line [] made each = All-nil Q
all_built {P} Q known line (entry ∷ entries) made each =
    All-cons Q (station_from known line entry) (stations_from known (line + length entry.lines) entries)
    (made line entry (All-head P entry entries each))
    (all_built Q known (line + length entry.lines) entries made (All-tail P entry entries each))

short_indexes : (known : List (List ℕ)) (groups : List GroupEntry) → All IsGroupEntry groups
    → All (λ (membership : Membership). membership.index ≤ 9_999) (memberships_of known groups)
short_indexes known [] all = All-nil (λ (membership : Membership). membership.index ≤ 9_999)
short_indexes known (group ∷ groups) all =
    All-cons (λ (membership : Membership). membership.index ≤ 9_999) (membership_from known group) (memberships_of known groups)
    (All-head IsGroupEntry group groups all) (short_indexes known groups (All-tail IsGroupEntry group groups all))

lead_shown : (lines : List Line) (s l : Option ℕ) → first_target (whole_station s) (one_line lines l) ≡ lead (map own_of lines) s l
unfolding own_of
lead_shown lines (Some s) l = refl
lead_shown lines None None = refl
lead_shown lines None (Some l) =
    ap (λ (o : Own). Some (let t : Target = record { station = o.0; line = Some l } in t)) (sym (get_or-shown own_of lines l no_line))

module _ (tables : Tables) (used : Used)
    (agree : Agrees (map (λ (s : Station). s.address) tables.stations) (map (λ (l : Line). l.name) tables.lines) (map own_of tables.lines) used)
    (there : All (λ (l : Line). is_spare l ≡ false) tables.lines) where
  -- what an address leads to, by the addresses alone
  lead_of : (a : List ℕ)
      → lead (map own_of tables.lines) (position (same a) (map (λ (s : Station). s.address) tables.stations)) (position (owns a) (map own_of tables.lines))
      ≡ target_of tables a
  unfolding own_of
  lead_of a =
      ap (λ s. lead (map own_of tables.lines) s (position (owns a) (map own_of tables.lines))) (position-map (same a) (λ (s : Station). s.address) tables.stations)
      ∙ ap (λ l. lead (map own_of tables.lines) (position (λ (s : Station). same a s.address) tables.stations) l) (position-map (owns a) own_of tables.lines)
      ∙ sym (lead_shown tables.lines (position (λ (s : Station). same a s.address) tables.stations) (position (has_address a) tables.lines))

  targets_agree : (a : List ℕ) → lookup (same a) used.targets ≡ target_of tables a
  targets_agree a = agree.targets a ∙ lead_of a

  -- a name leads to the line that has it, by the names alone
  named_by : (n : List ℕ) → position (same n) (map (λ (l : Line). l.name) tables.lines) ≡ line_named_of tables n
  named_by n =
      position-map (same n) (λ (l : Line). l.name) tables.lines
      ∙ position-alike (λ (l : Line). same n l.name) (has_name n) tables.lines
      (λ k d within. ap (λ b. not b && same n (get_or tables.lines k d).name) (sym (there k d within)))

  names_agree : (n : List ℕ) → lookup (same n) used.names ≡ line_named_of tables n
  names_agree n = agree.names_found n ∙ named_by n

  station_found : (station : ℕ) → station < station_count tables
      → target_of tables (station_at tables station).address ≡ Some (record { station = station; line = None })
  station_found station within =
      let inside : station < length (map (λ (s : Station). s.address) tables.stations) = omega (arith, within, length-map tables.stations (λ (s : Station). s.address)) in
      ap (target_of tables) (sym (get_or-shown (λ (s : Station). s.address) tables.stations station no_station))
      ∙ sym (lead_of (get_or (map (λ (s : Station). s.address) tables.stations) station []))
      ∙ ap (λ s. lead (map own_of tables.lines) s (position (owns (get_or (map (λ (s : Station). s.address) tables.stations) station [])) (map own_of tables.lines)))
      (agree.stations_once station inside)

  line_found : (line : ℕ) (address : List ℕ) → line < line_count tables → (line_at tables line).address ≡ Some address
      → target_of tables address ≡ Some (record { station = station_of tables line; line = Some line })
  unfolding own_of
  line_found line address within held =
      let inside : line < length (map own_of tables.lines) = omega (arith, within, length-map tables.lines own_of) in
      let shown : get_or (map own_of tables.lines) line no_own ≡ own_of (line_at tables line) = get_or-shown own_of tables.lines line no_line in
      let (no_station, here) = agree.lines_once line address inside (ap (λ (o : Own). o.1) shown ∙ held) in
      sym (lead_of address)
      ∙ rw (no_station, here) (ap (λ (o : Own). Some (let t : Target = record { station = o.0; line = Some line } in t)) shown)

  named : (line : ℕ) → line < line_count tables → line_named_of tables (line_at tables line).name ≡ Some line
  named line within =
      let inside : line < length (map (λ (l : Line). l.name) tables.lines) = omega (arith, within, length-map tables.lines (λ (l : Line). l.name)) in
      ap (line_named_of tables) (sym (get_or-shown (λ (l : Line). l.name) tables.lines line no_line))
      ∙ sym (named_by (get_or (map (λ (l : Line). l.name) tables.lines) line []))
      ∙ agree.names_once line inside

  leads_in : ((line : ℕ) → line < line_count tables → station_of tables line < station_count tables)
      → (a : List ℕ) (target : Target) → target_of tables a ≡ Some target → IsTarget tables target
  leads_in placed a target found =
      by (position (λ (s : Station). same a s.address) tables.stations) refl (position (has_address a) tables.lines) refl found
    where
      by : (s : Option ℕ) → position (λ (s : Station). same a s.address) tables.stations ≡ s
          → (l : Option ℕ) → position (has_address a) tables.lines ≡ l
          → first_target (whole_station s) (one_line tables.lines l) ≡ Some target → IsTarget tables target
      by (Some s) e l f is =
          let (within, _, _) = position-Some (λ (s : Station). same a s.address) tables.stations s no_station e in
          let this : record { station = s; line = None } ≡ target = cc in
          subst (IsTarget tables) this (within, tt)
      by None e (Some l) f is =
          let (within, _, _) = position-Some (has_address a) tables.lines l no_line f in
          let this : record { station = station_of tables l; line = Some l } ≡ target = cc in
          subst (IsTarget tables) this (placed l within, (within, refl))
      by None e None f is = absurd (none_is_some is)

-- an address leads only to where it stands
leads_held : (tables : Tables) (a : List ℕ) (target : Target) → target_of tables a ≡ Some target → HasAddress tables target a
leads_held tables a target found =
    by (position (λ (s : Station). same a s.address) tables.stations) refl (position (has_address a) tables.lines) refl found
  where
    by : (s : Option ℕ) → position (λ (s : Station). same a s.address) tables.stations ≡ s
        → (l : Option ℕ) → position (has_address a) tables.lines ≡ l
        → first_target (whole_station s) (one_line tables.lines l) ≡ Some target → HasAddress tables target a
    by (Some s) e l f is =
        let (_, here, _) = position-Some (λ (s : Station). same a s.address) tables.stations s no_station e in
        let this : record { station = s; line = None } ≡ target = cc in
        subst (λ t. HasAddress tables t a) this (sym (same_is a (station_at tables s).address here))
    by None e (Some l) f is =
        let (_, here, _) = position-Some (has_address a) tables.lines l no_line f in
        let this : record { station = station_of tables l; line = Some l } ≡ target = cc in
        subst (λ t. HasAddress tables t a) this (held_is a (line_at tables l).address here)
    by None e None f is = absurd (none_is_some is)

-- and a name only to a line of this name
name_held : (tables : Tables) (n : List ℕ) (line : ℕ) → line_named_of tables n ≡ Some line
    → (line < line_count tables) × ((line_at tables line).name ≡ n)
name_held tables n line found =
    let (within, here, _) = position-Some (has_name n) tables.lines line no_line found in
    (within, sym (named_is n (line_at tables line) here).1)

all_own : (tables : Tables) (line : ℕ) (entries : List StationData) → All (AreKnown tables.groups) entries → list_all has_own_indexes entries ≡ true
    → All (HasOwnGroups tables) (stations_from tables.groups line entries)
all_own tables line [] known own = All-nil (HasOwnGroups tables)
all_own tables line (entry ∷ entries) known own =
    let both = and_parts (has_own_indexes entry) (list_all has_own_indexes entries) own in
    All-cons (HasOwnGroups tables) (station_from tables.groups line entry) (stations_from tables.groups (line + length entry.lines) entries)
    (own_groups tables line entry (All-head (AreKnown tables.groups) entry entries known) both.0)
    (all_own tables (line + length entry.lines) entries (All-tail (AreKnown tables.groups) entry entries known) both.1)

-- the tables of a file without the places that it reserves
bare_of : FileData → Tables
bare_of file = record {
  stations = stations_from (mentions [] file.stations) 0 file.stations;
  lines = lines_from 0 file.stations;
  groups = mentions [] file.stations;
  segment_limit = file.segment_limit;
  journal = file.journal;
  host = file.host;
  xot_port = file.xot_port;
  name = file.name;
}

access_there : (access : Access) → IsAccess access → is_no_access access ≡ false
access_there (Port port) is = refl
access_there (Router router) is = refl
access_there Spare is = absurd is

-- the reserved places
spare_at : (file : FileData) (i : ℕ) → i < length (spare_places file) → (modulus : Modulus) × (get_or (spare_places file) i no_line ≡ spare_place modulus)
spare_at file i within =
    let eights = replicate file.spare_lines (spare_place Eight) in
    let longs = replicate file.spare_lines_128 (spare_place Long) in
    let long : length eights ≡ file.spare_lines = length-replicate file.spare_lines (spare_place Eight) in
    let longer : length longs ≡ file.spare_lines_128 = length-replicate file.spare_lines_128 (spare_place Long) in
    elim (cases_lt i (length eights)) [
      | inl below ↦ (Eight, get_or_append_left eights longs no_line i below ∙ get_or-replicate file.spare_lines i (spare_place Eight) no_line (omega (arith, below, long)))
      | inr above ↦
          let rest : i - length eights < file.spare_lines_128 = omega (arith, within, above, longer, length-append eights longs) in
          (Long, get_or-append_right eights longs (length eights) i no_line refl above ∙ get_or-replicate file.spare_lines_128 (i - length eights) (spare_place Long) no_line rest)
    ]

station_same : (s : Station) → station_with (λ n. n) s ≡ s
station_same s = ap (λ items. record s { lines = record { items = items } }) (map-id s.lines.items)

stations_same : (stations : List Station) → map (station_with (λ n. n)) stations ≡ stations
stations_same [] = refl
stations_same (s ∷ stations) = ap (λ x. x ∷ map (station_with (λ n. n)) stations) (station_same s) ∙ ap (λ xs. s ∷ xs) (stations_same stations)

target_same : (found : Option Target) → option_map (moved_target (λ n. n)) found ≡ found
target_same None = refl
target_same (Some target) = ap (λ l. Some (let t : Target = record { station = target.station; line = l } in t)) (line_same target.line)
  where
    line_same : (l : Option ℕ) → option_map (λ n. n) l ≡ l
    line_same None = refl
    line_same (Some l) = refl

name_same : (found : Option ℕ) → option_map (λ n. n) found ≡ found
name_same None = refl
name_same (Some l) = refl

-- the facts of a file that is built
module _ (file : FileData) (used : Used) (fit : AreWithinLimits file.stations) (some : 0 < length file.stations)
    (limits : AreLimits file.segment_limit file.journal) (port : IsPort file.xot_port) (once : with_stations 0 0 file.stations nothing_used ≡ Ok used)
    (own : list_all has_own_indexes file.stations ≡ true) (places : line_total file.stations + file.spare_lines + file.spare_lines_128 ≤ most_lines) where
  entries : List StationData
  entries = file.stations

  nothing_agrees : Agrees [] [] [] nothing_used
  nothing_agrees = record {
    targets = λ a. refl;
    names_found = λ n. refl;
    stations_once = λ i within. absurd (omega arith);
    lines_once = λ i a within held. absurd (omega arith);
    names_once = λ i within. absurd (omega arith);
  }

  all_agree : Agrees (map (λ (s : Station). s.address) (bare_of file).stations) (map (λ (l : Line). l.name) (bare_of file).lines)
      (map own_of (bare_of file).lines) used
  unfolding bare_of
  all_agree =
      rw (stations_from-addresses (mentions [] file.stations) 0 file.stations, lines_from-names 0 file.stations, lines_from-owns 0 file.stations)
      (stations_agree file.stations [] [] [] nothing_used used 0 0 refl refl refl nothing_agrees once)

  bare_placed : (line : ℕ) → line < line_count (bare_of file)
      → (station_of (bare_of file) line < station_count (bare_of file)) × Lists (bare_of file) (station_of (bare_of file) line) line
  unfolding bare_of Placed
  bare_placed line within =
      let (k, below, station, held) = placed (mentions [] file.stations) 0 0 file.stations line within in
      let same_station : station_of (bare_of file) line ≡ k = station ∙ omega arith in
      let same_line : 0 + line ≡ line = omega arith in
      rw same_station (
        omega (arith, below, stations_from-length (mentions [] file.stations) 0 file.stations),
        subst (Contains (station_at (bare_of file) k).lines.items) same_line held,
      )

  bare_own : (station line : ℕ) → station < station_count (bare_of file) → Lists (bare_of file) station line
      → (line < line_count (bare_of file)) × (station_of (bare_of file) line ≡ station)
  unfolding bare_of Owned
  bare_own station line within held =
      let below : station < length file.stations = omega (arith, within, stations_from-length (mentions [] file.stations) 0 file.stations) in
      let (l, is, inside, at) = owned (mentions [] file.stations) 0 0 file.stations station line below held in
      let same_line : l ≡ line = omega (arith, is) in
      subst (λ l. (l < line_count (bare_of file)) × (station_of (bare_of file) l ≡ station)) same_line (inside, at ∙ omega arith)

  at_least_one : (entries : List StationData) → 0 < length entries → All IsStationWithinLimits entries → 0 < line_total entries
  at_least_one [] none each = absurd (omega arith)
  at_least_one (entry ∷ entries) here each =
      omega (arith, (All-head IsStationWithinLimits entry entries each).entry.some, sum_by-cons (λ (station : StationData). length station.lines) entry entries)

  bare_line : (line : ℕ) → line < line_count (bare_of file) → IsLine (line_at (bare_of file) line)
  unfolding bare_of
  bare_line line within = all_lines 0 file.stations fit.each line no_line within

  bare_indexes : (station : ℕ) → station < station_count (bare_of file) → HasShortIndexes (station_at (bare_of file) station)
  unfolding bare_of
  bare_indexes station within =
      all_built {P = IsStationWithinLimits} HasShortIndexes (mentions [] file.stations) 0 file.stations
      (λ line entry is. short_indexes (mentions [] file.stations) entry.groups is.entry.groups) fit.each station no_station within

  bare_groups : (station : ℕ) → station < station_count (bare_of file) → HasOwnGroups (bare_of file) (station_at (bare_of file) station)
  unfolding bare_of
  bare_groups station within =
      all_own (bare_of file) 0 file.stations (all_known file.stations) own station no_station within

  all_there : All (λ (l : Line). is_spare l ≡ false) (bare_of file).lines
  unfolding bare_of
  all_there k d within = access_there (get_or (lines_from 0 file.stations) k d).access (all_lines 0 file.stations fit.each k d within).1

  not_spare : (line : ℕ) → is_spare (line_at (bare_of file) line) ≡ false
  not_spare line =
      elim (cases_lt line (line_count (bare_of file))) [
        | inl below ↦ all_there line no_line below
        | inr above ↦ ap is_spare (get_or_past (bare_of file).lines line no_line above)
      ]

  bare_sound : IsSound (bare_of file)
  unfolding bare_of
  bare_sound = record {
    some_line = omega (arith, lines_from-length 0 file.stations, at_least_one file.stations some fit.each);
    few_lines = omega (arith, lines_from-length 0 file.stations, fit.lines);
    few_stations = omega (arith, stations_from-length (mentions [] file.stations) 0 file.stations, fit.few);
    spare = λ line spare. absurd (true_is_false (sym spare ∙ not_spare line));
    placed = λ line there. (bare_placed line there.0).0;
    listed = λ line there. (bare_placed line there.0).1;
    own = bare_own;
    station_found = station_found (bare_of file) used all_agree all_there;
    line_found = line_found (bare_of file) used all_agree all_there;
    named = λ line there. named (bare_of file) used all_agree all_there line there.0;
    target = leads_in (bare_of file) used all_agree all_there (λ line within. (bare_placed line within).0);
    address_held = leads_held (bare_of file);
    name_held = name_held (bare_of file);
    indexes = bare_indexes;
    own_groups = bare_groups;
    names_of_groups = mentions_once file.stations;
    accesses = λ line there. (bare_line line there.0).1;
    ports_once = line_ports_once 0 file.stations (all_once file.stations used once);
    xot_port = port;
    limits = limits;
    spelled = λ line there. (bare_line line there.0).0;
    sources = λ line within. (bare_line line within).2;
  }

  -- the reserved places stand behind the lines, each of which keeps its number
  full : Tables
  full = moved_tables (λ n. n) (bare_of file) (lines_from 0 file.stations ++ spare_places file)

  full_is : full ≡ tables_of file
  unfolding tables_of bare_of full
  full_is = rw (stations_same (stations_from (mentions [] file.stations) 0 file.stations))

  full_lines : line_count full ≡ line_total file.stations + file.spare_lines + file.spare_lines_128
  unfolding full
  full_lines = omega (
    arith,
    lines_from-length 0 file.stations,
    length-append (lines_from 0 file.stations) (spare_places file),
    length-append (replicate file.spare_lines (spare_place Eight)) (replicate file.spare_lines_128 (spare_place Long)),
    length-replicate file.spare_lines (spare_place Eight),
    length-replicate file.spare_lines_128 (spare_place Long),
  )

  -- a place of the full tables is a line of the file, or a reserved one, or there is none
  Kinds : ℕ → Type 0
  Kinds at =
      ((at < line_count (bare_of file)) × (line_at full at ≡ line_at (bare_of file) at))
      ⊎ (((modulus : Modulus) × (line_at full at ≡ spare_place modulus)) ⊎ ((line_count full ≤ at) × (line_at full at ≡ no_line)))

  kinds : (at : ℕ) → Kinds at
  unfolding bare_of full Kinds
  kinds at =
      let lines = lines_from 0 file.stations in
      elim (cases_lt at (length lines)) [
        | inl below ↦ inl (below, get_or_append_left lines (spare_places file) no_line at below)
        | inr above ↦
            let is : line_at full at ≡ get_or (spare_places file) (at - length lines) no_line =
            get_or-append_right lines (spare_places file) (length lines) at no_line refl above in
            elim (cases_lt (at - length lines) (length (spare_places file))) [
              | inl below ↦ let (modulus, spare) = spare_at file (at - length lines) below in inr (inl (modulus, is ∙ spare))
              | inr past ↦ inr (inr (omega (arith, above, past, length-append lines (spare_places file)), is ∙ get_or_past (spare_places file) (at - length lines) no_line past))
            ]
      ]

  full_others : (at : ℕ) → IsThere full at → (line : ℕ) × IsThere (bare_of file) line × (line ≡ at)
  unfolding Kinds
  full_others at there = by (kinds at)
    where
      by : Kinds at → (line : ℕ) × IsThere (bare_of file) line × (line ≡ at)
      by (inl (below, is)) = (at, (below, not_spare at), refl)
      by (inr (inl (modulus, is))) = absurd (true_is_false (sym (ap is_spare is) ∙ there.1))
      by (inr (inr (past, is))) = absurd (omega (arith, past, there.0))

  full_blank : (at : ℕ) → is_spare (line_at full at) ≡ true → line_at full at ≡ spare_place (modulus_of full at)
  unfolding Kinds
  full_blank at spare = by (kinds at)
    where
      by : Kinds at → line_at full at ≡ spare_place (modulus_of full at)
      by (inl (below, is)) = absurd (true_is_false (sym spare ∙ ap is_spare is ∙ not_spare at))
      by (inr (inl (modulus, is))) = is ∙ ap (λ (l : Line). spare_place l.modulus) (sym is)
      by (inr (inr (past, is))) = absurd (true_is_false (sym spare ∙ ap is_spare is))

  full_moved : IsMoved (λ n. n) (bare_of file) full
  unfolding bare_of full
  full_moved = record {
    some = omega (arith, full_lines, at_least_one file.stations some fit.each);
    few = omega (arith, full_lines, places);
    apart = λ one other there also is. is;
    stands = λ line there. (
      omega (arith, there.0, length-append (lines_from 0 file.stations) (spare_places file)),
      get_or_append_left (lines_from 0 file.stations) (spare_places file) no_line line there.0,
    );
    others = full_others;
    blank = full_blank;
  }

  pub built_sound : IsSound (tables_of file)
  unfolding full
  built_sound = subst IsSound full_is (moved_sound (bare_of file) (λ n. n) (lines_from 0 file.stations ++ spare_places file) bare_sound full_moved)

  pub built_targets : (a : List ℕ) → lookup (same a) used.targets ≡ target_of (tables_of file) a
  unfolding full
  built_targets a =
      targets_agree (bare_of file) used all_agree all_there a
      ∙ sym (target_same (target_of (bare_of file) a))
      ∙ sym (target_moved (bare_of file) (λ n. n) (lines_from 0 file.stations ++ spare_places file) bare_sound full_moved a)
      ∙ ap (λ t. target_of t a) full_is

  pub built_names : (n : List ℕ) → lookup (same n) used.names ≡ line_named_of (tables_of file) n
  unfolding full
  built_names n =
      names_agree (bare_of file) used all_agree all_there n
      ∙ sym (name_same (line_named_of (bare_of file) n))
      ∙ sym (name_moved (bare_of file) (λ n. n) (lines_from 0 file.stations ++ spare_places file) bare_sound full_moved n)
      ∙ ap (λ t. line_named_of t n) full_is

-- what a `Subs` of such a file keeps
pub built_keeps : (inside : Inside) (file : FileData) (used : Used) → AreWithinLimits file.stations → 0 < length file.stations
    → AreLimits file.segment_limit file.journal → IsPort file.xot_port → with_stations 0 0 file.stations nothing_used ≡ Ok used
    → list_all has_own_indexes file.stations ≡ true → line_total file.stations + file.spare_lines + file.spare_lines_128 ≤ most_lines
    → tables inside ≡ tables_of file
    → inside.targets.entries ≡ used.targets → inside.names.entries ≡ used.names → inside.nobody ≡ no_station
    → IsConsistent inside
built_keeps inside file used fit some limits port once own places is targets names nobody = record {
  sound = subst IsSound (sym is) (built_sound file used fit some limits port once own places);
  targets = λ a. ap (lookup (same a)) targets ∙ built_targets file used fit some limits port once own places a ∙ ap (λ t. target_of t a) (sym is);
  names = λ n. ap (lookup (same n)) names ∙ built_names file used fit some limits port once own places n ∙ ap (λ t. line_named_of t n) (sym is);
  nobody = nobody;
}

-- the tables that were built of the parts of a file
pub built_tables : (file : FileData) (limit journal : ℕ) (host : List ℕ) (xot_port : ℕ) (name : Option (List ℕ)) (eights longs : ℕ) (entries first second third : List StationData)
    (known : List (List ℕ)) (stations : List Station) (lines : List Line)
    → record { segment_limit = limit; journal = journal; host = host; xot_port = xot_port; name = name; spare_lines = eights; spare_lines_128 = longs; stations = entries } ≡ file
    → first ≡ entries → known ≡ mentions [] first → second ≡ entries → stations ≡ stations_from known 0 second
    → third ≡ entries → lines ≡ lines_from 0 third ++ spare_places file
    → record { stations = stations; lines = lines; groups = known; segment_limit = limit; journal = journal; host = host; xot_port = xot_port; name = name } ≡ tables_of file
unfolding tables_of
built_tables file limit journal host xot_port name eights longs entries first second third known stations lines is a names b these c those =
    rw (these, those, ← is, names, a, b, c)
