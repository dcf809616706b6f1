-- What places are to have next, one after the other.
use Rattle.std.proofs.Common.{◌≡◌, ℕ, ◌+◌, ◌<◌, ◌≤◌, List, [], ◌∷◌, ◌++◌, arith, inl, inr, length, refl, slice_index_or, subst, sym, ◌∙◌}
use Rattle.std.proofs.lemmas.Bool.{cases_lt}
use Rattle.std.proofs.lemmas.List.{get_or_append_left, get_or_push, length_push}
use Rattle.xp_listening.specs.NextPlaces.{AreFirstPlaces, IsNextPlace, no_place}
use Rattle.xp_subs.specs.Tables.{Tables}
use Rattle.xp_tcp.specs.NextPlaces.{NextPlace}

-- of the places with one more behind them, the one in a place before or the last
place_at : (force next : Tables) (count : ℕ) (places : List NextPlace) (place : NextPlace)
    → AreFirstPlaces force next count places → IsNextPlace force next count place
    → (line : ℕ) → line < count + 1 → IsNextPlace force next line (slice_index_or (places ++ place ∷ []) line no_place)
place_at force next count places place are is line below = elim (cases_lt line count) [
  | inl before ↦
      let within : line < length places = subst (λ end. line < end) (sym are.count_is) before in
      subst (IsNextPlace force next line) (sym (get_or_append_left places (place ∷ []) no_place line within)) (are.each line before)
  | inr behind ↦
      let last : line ≡ count = omega (arith, below, behind) in
      subst (IsNextPlace force next line) (sym (get_or_push places place no_place line (are.count_is ∙ sym last)))
      (subst (λ number. IsNextPlace force next number place) (sym last) is)
]

-- one more place
pub places_more : (force next : Tables) (count : ℕ) (places : List NextPlace) (place : NextPlace)
    → AreFirstPlaces force next count places → IsNextPlace force next count place → AreFirstPlaces force next (count + 1) (places ++ place ∷ [])
places_more force next count places place are is =
    let counted : length (places ++ place ∷ []) ≡ count + 1 = omega (arith, length_push places place, are.count_is) in
    record { count_is = counted; each = place_at force next count places place are is }

-- no place yet
pub no_places : (force next : Tables) → AreFirstPlaces force next 0 []
no_places force next = record { count_is = refl; each = λ line below. absurd (omega (arith, below)) }
