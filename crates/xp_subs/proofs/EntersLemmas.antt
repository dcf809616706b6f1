-- What the stations of a file enter, all in order.
use Rattle.std.proofs.Common.{◌≡◌, ℕ, ◌+◌, List, [], ◌∷◌, ◌++◌, None, Ok, length, map, sym, subst, ◌∙◌, arith, append_assoc, length-append}
use Rattle.std.proofs.lemmas.List.{append-nil, length-map}
use Rattle.xp_file.specs.declared.entry.LineEntry.{LineEntry}
use Rattle.xp_file.specs.Entries.{StationData}
use Rattle.xp_file.specs.Reading.{◌>>=◌}
use Rattle.xp_subs.specs.steps.Passes.{Used, with_address, with_name, with_names, with_access, with_ports, with_own, with_addresses, with_station, with_stations}
use Rattle.xp_subs.proofs.AgreeLemmas.{Agrees, Own, add_station, add_name, add_access, add_line}
use Rattle.xp_file.proofs.Choices.{bind_ok}

-- the names of lines, and their stations and own addresses
unfoldable pub name_list : List LineEntry → List (List ℕ)
name_list lines = map (λ (line : LineEntry). line.name) lines

unfoldable pub own_list : ℕ → List LineEntry → List Own
own_list station lines = map (λ (line : LineEntry). (station, line.address)) lines

module _ (stations : List (List ℕ)) (lines : List Own) where
  names_agree : (names : List (List ℕ)) (more : List LineEntry) (used last : Used) (line : ℕ) → length names ≡ line → Agrees stations names lines used
      → with_names line more used ≡ Ok last → Agrees stations (names ++ name_list more) lines last
  unfolding name_list
  names_agree names [] used last line long agree entered =
      let is : used ≡ last = (let e : Ok used ≡ Ok last = entered in cc) in
      subst (λ l. Agrees stations l lines last) (sym (append-nil names)) (subst (Agrees stations names lines) is agree)
  names_agree names (first ∷ more) used last line long agree entered =
      let name = first.name in
      let (next, one, rest) = bind_ok (with_name line name used) (with_names (line + 1) more) last entered in
      let here : with_name (length names) name used ≡ Ok next = rw long one in
      let longer : length (names ++ name ∷ []) ≡ line + 1 = omega (arith, length-append {A = List ℕ}) in
      subst (λ l. Agrees stations l lines last) (append_assoc names (name ∷ []) (name_list more))
      (names_agree (names ++ name ∷ []) more next last (line + 1) longer (add_name stations names lines used agree name next here) rest)

  ports_agree : (names : List (List ℕ)) (ports : List LineEntry) (used last : Used) → Agrees stations names lines used
      → with_ports ports used ≡ Ok last → Agrees stations names lines last
  ports_agree names [] used last agree entered =
      let is : used ≡ last = (let e : Ok used ≡ Ok last = entered in cc) in subst (Agrees stations names lines) is agree
  ports_agree names (first ∷ ports) used last agree entered =
      let access = first.access in
      let (next, one, rest) = bind_ok (with_access access used) (with_ports ports) last entered in
      ports_agree names ports next last (add_access stations names lines used agree access next one) rest

lines_agree : (stations names : List (List ℕ)) (lines : List Own) (station : ℕ) (more : List LineEntry) (used last : Used) (line : ℕ)
    → length lines ≡ line → Agrees stations names lines used → with_addresses station line more used ≡ Ok last
    → Agrees stations names (lines ++ own_list station more) last
unfolding own_list
lines_agree stations names lines station [] used last line long agree entered =
    let is : used ≡ last = (let e : Ok used ≡ Ok last = entered in cc) in
    subst (λ l. Agrees stations names l last) (sym (append-nil lines)) (subst (Agrees stations names lines) is agree)
lines_agree stations names lines station (first ∷ more) used last line long agree entered =
    let address = first.address in
    let (next, one, rest) = bind_ok (with_own station line address used) (with_addresses station (line + 1) more) last entered in
    let here : with_own station (length lines) address used ≡ Ok next = rw long one in
    let longer : length (lines ++ (station, address) ∷ []) ≡ line + 1 = omega (arith, length-append {A = Own}) in
    subst (λ l. Agrees stations names l last) (append_assoc lines ((station, address) ∷ []) (own_list station more))
    (lines_agree stations names (lines ++ (station, address) ∷ []) station more next last (line + 1) longer
    (add_line stations names lines used agree station address next here) rest)

-- the addresses of the stations, the names of all lines, and their stations and own addresses
unfoldable pub station_addresses : List StationData → List (List ℕ)
station_addresses entries = map (λ entry. entry.address) entries

unfoldable pub all_names : List StationData → List (List ℕ)
all_names [] = []
all_names (entry ∷ entries) = name_list entry.lines ++ all_names entries

unfoldable pub all_owns : ℕ → List StationData → List Own
all_owns number [] = []
all_owns number (entry ∷ entries) = own_list number entry.lines ++ all_owns (number + 1) entries

pub stations_agree : (entries : List StationData) (stations names : List (List ℕ)) (lines : List Own) (used last : Used) (number line : ℕ)
    → length stations ≡ number → length names ≡ line → length lines ≡ line → Agrees stations names lines used
    → with_stations number line entries used ≡ Ok last
    → Agrees (stations ++ station_addresses entries) (names ++ all_names entries) (lines ++ all_owns number entries) last
unfolding own_list name_list station_addresses all_names all_owns with_station
stations_agree [] stations names lines used last number line so many long agree entered =
    let is : used ≡ last = (let e : Ok used ≡ Ok last = entered in cc) in
    rw (append-nil, append-nil, append-nil) (subst (Agrees stations names lines) is agree)
stations_agree (entry ∷ entries) stations names lines used last number line so many long agree entered =
    let (next, one, rest) = bind_ok (with_station number line entry used) (with_stations (number + 1) (line + length entry.lines) entries) last entered in
    let (a, first, then_names) = bind_ok (with_address (record { station = number; line = None }) entry.address used)
    (λ a. with_names line entry.lines a >>= λ b. with_ports entry.lines b >>= λ c. with_addresses number line entry.lines c) next one in
    let (b, second, then_ports) = bind_ok (with_names line entry.lines a)
    (λ b. with_ports entry.lines b >>= λ c. with_addresses number line entry.lines c) next then_names in
    let (c, third, fourth) = bind_ok (with_ports entry.lines b) (λ c. with_addresses number line entry.lines c) next then_ports in
    let station_here : with_address (record { station = length stations; line = None }) entry.address used ≡ Ok a = rw so first in
    let after_station = add_station stations names lines used agree entry.address a station_here in
    let after_names = names_agree (stations ++ entry.address ∷ []) lines names entry.lines a b line many after_station second in
    let after_ports = ports_agree (stations ++ entry.address ∷ []) lines (names ++ name_list entry.lines) entry.lines b c after_names third in
    let after = lines_agree (stations ++ entry.address ∷ []) (names ++ name_list entry.lines) lines number entry.lines c next line long after_ports fourth in
    let so_next : length (stations ++ entry.address ∷ []) ≡ number + 1 = omega (arith, length-append {A = List ℕ}) in
    let many_next : length (names ++ name_list entry.lines) ≡ line + length entry.lines =
    length-append names (name_list entry.lines) ∙ rw (many, length-map) in
    let long_next : length (lines ++ own_list number entry.lines) ≡ line + length entry.lines =
    length-append lines (own_list number entry.lines) ∙ rw (long, length-map) in
    let all = stations_agree entries (stations ++ entry.address ∷ []) (names ++ name_list entry.lines) (lines ++ own_list number entry.lines)
    next last (number + 1) (line + length entry.lines) so_next many_next long_next after rest in
    rw (
      ← append_assoc stations (entry.address ∷ []) (station_addresses entries),
      ← append_assoc names (name_list entry.lines) (all_names entries),
      ← append_assoc lines (own_list number entry.lines) (all_owns (number + 1) entries),
    ) all
