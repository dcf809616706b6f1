-- Subscriptions that are laid over those that are laid already.
use Rattle.std.proofs.Common.{◌≡◌, ◌∙◌, ◌<◌, ℕ, suc, List, [], ◌∷◌, Bool, Result, Ok, Err, Some, refl, sym, ap, subst, inl, inr, arith, length, map, get_or}
use Rattle.std.proofs.lemmas.Bool.{cases_Bool}
use Rattle.std.proofs.lemmas.List.Elements.{Contains-get_or}
use Rattle.std.specs.declared.io.ErrorKind.{ErrorKind}
use Rattle.xp_renewal.specs.steps.Laid.{IsLaidFrom}
use Rattle.xp_subs.proofs.LawLemmas.{one_answer}
use Rattle.xp_subs.proofs.There.{there_of_own}
use Rattle.xp_subs.specs.Laid.{IsLaidOver, station_with}
use Rattle.xp_subs.specs.Sound.{IsSound}
use Rattle.xp_subs.specs.Tables.{IsThere, Tables, is_spare, line_at, line_count, line_named_of, no_line, no_station, spare_place, station_at, station_count}
use Rattle.xp_subs.specs.declared.line.Line.{Line}
use Rattle.xp_subs.specs.declared.station.Station.{Station}
use Rattle.xp_tasks.specs.SetUp.{SetsUp}

-- lists with the same elements at each place
same_list : {X : Type 0} (d : X) (xs ys : List X) → length xs ≡ length ys → ((i : ℕ) → i < length xs → get_or xs i d ≡ get_or ys i d) → xs ≡ ys
same_list d [] [] count each = refl
same_list d [] (y ∷ ys) count each = absurd (omega (arith, count))
same_list d (x ∷ xs) [] count each = absurd (omega (arith, count))
same_list d (x ∷ xs) (y ∷ ys) count each =
    let first : x ≡ y = each 0 (omega arith) in
    let rest : xs ≡ ys = same_list d xs ys (omega (arith, count)) (λ i within. each (suc i) (omega (arith, within))) in
    ap (λ z. z ∷ xs) first ∙ ap (λ zs. y ∷ zs) rest

-- functions that agree on each element
same_map : {X Y : Type 0} (f g : X → Y) (d : X) (xs : List X) → ((i : ℕ) → i < length xs → f (get_or xs i d) ≡ g (get_or xs i d)) → map f xs ≡ map g xs
same_map f g d [] each = refl
same_map f g d (x ∷ xs) each =
    let first : f x ≡ g x = each 0 (omega arith) in
    let rest : map f xs ≡ map g xs = same_map f g d xs (λ i within. each (suc i) (omega (arith, within))) in
    ap (λ z. z ∷ map f xs) first ∙ ap (λ zs. g x ∷ zs) rest

module _ (old next laid again : Tables) (over : IsLaidOver old next laid) (anew : IsLaidOver laid next again) (next_sound : IsSound next) (laid_sound : IsSound laid) (again_sound : IsSound again) where
  -- a line is there at its place
  there_at : (line : ℕ) → IsThere next line → IsThere laid (over.place line)
  there_at line there =
      let stands = over.stands line there in
      let below : over.place line < line_count old = stands.0 in
      let count : line_count laid ≡ line_count old = over.count in
      (omega (arith, below, count), ap is_spare stands.1 ∙ there.1)

  -- and keeps it
  same_place : (line : ℕ) → IsThere next line → anew.place line ≡ over.place line
  same_place line there =
      let name : (line_at laid (over.place line)).name ≡ (line_at next line).name = ap (λ (l : Line). l.name) (over.stands line there).1 in
      anew.kept (over.place line) line there
      (subst (λ n. line_named_of laid n ≡ Some (over.place line)) name (laid_sound.named (over.place line) (there_at line there)))

  line_there : (line at : ℕ) → IsThere next line → anew.place line ≡ at → line_at again at ≡ line_at laid at
  line_there line at there is =
      ap (line_at again) (sym is) ∙ (anew.stands line there).1 ∙ sym (over.stands line there).1 ∙ ap (line_at laid) (sym (same_place line there) ∙ is)

  same_line : (at : ℕ) → at < line_count again → line_at again at ≡ line_at laid at
  same_line at within =
      let count : line_count again ≡ line_count laid = anew.count in
      let in_laid : at < line_count laid = omega (arith, within, count) in
      elim (cases_Bool (is_spare (line_at again at))) [
        | inl spare ↦ elim (cases_Bool (is_spare (line_at laid at))) [
          | inl also ↦ again_sound.spare at spare ∙ ap spare_place (anew.moduli at in_laid) ∙ sym (laid_sound.spare at also)
          | inr there ↦
              let is = over.others at (in_laid, there) in
              line_there is.0 at is.1 (same_place is.0 is.1 ∙ is.2)
        ]
        | inr there ↦ let is = anew.others at (within, there) in line_there is.0 at is.1 is.2
      ]

  same_lines : again.lines ≡ laid.lines
  same_lines = same_list no_line again.lines laid.lines anew.count same_line

  same_station : (station : ℕ) → station < station_count next → station_with anew.place (station_at next station) ≡ station_with over.place (station_at next station)
  same_station station known =
      let is = station_at next station in
      let lines = is.lines.items in
      let places : map anew.place lines ≡ map over.place lines =
      same_map anew.place over.place 0 lines
      (λ i within. same_place (get_or lines i 0) (there_of_own next station (get_or lines i 0) next_sound known (Contains-get_or lines i 0 within))) in
      ap (λ (items : List ℕ). record is { lines = record { items = items } }) places

  same_stations : map (station_with anew.place) next.stations ≡ map (station_with over.place) next.stations
  same_stations = same_map (station_with anew.place) (station_with over.place) no_station next.stations same_station

  pub laid_again : again ≡ laid
  laid_again =
      anew.rest
      ∙ ap (λ (stations : List Station). record next { stations = stations; lines = again.lines }) same_stations
      ∙ ap (λ (lines : List Line). record next { stations = map (station_with over.place) next.stations; lines = lines }) same_lines
      ∙ sym over.rest

one_set_up : (text : Result (List ℕ) ErrorKind) (one other : Tables) → SetsUp text (Ok one) → SetsUp text (Ok other) → one ≡ other
one_set_up (Ok text) one other first second = let is : Ok one ≡ Ok other = one_answer text (Ok one) (Ok other) first second in cc
one_set_up (Err kind) one other first second = absurd first

-- what the same text sets up has its places in what was laid before
pub copied : (force laid next copy : Tables) (text : Result (List ℕ) ErrorKind) → IsLaidFrom force text laid → SetsUp text (Ok next) → IsLaidOver laid next copy
    → IsSound next → IsSound laid → IsSound copy → copy ≡ laid
copied force laid next copy text from set_up over next_sound laid_sound copy_sound =
    let is : from.next ≡ next = one_set_up text from.next next from.set_up set_up in
    laid_again force next laid copy (subst (λ tables. IsLaidOver force tables laid) is from.over) over next_sound laid_sound copy_sound
