-- What is known of a file as it takes octets.
use Rattle.std.proofs.Common.{◌≡◌, ℕ, ◌+◌, ◌≤◌, List, [], ◌++◌, Option, None, Some, append-nil, append_assoc, arith, drop, length, length-append, sym, take, take-add, ap, ◌∙◌}
use Rattle.std.proofs.lemmas.List.{append_cancel_left, length-drop, length-take, nil_from_length, take-append-drop, take-append-le, take_all}
use Rattle.xp_cdr.specs.Files.{HasFront, LosesAnEnd}
use Rattle.xp_cdr.specs.steps.Writer.{IsAt, IsSettled}

-- more octets wait
pub more_wait : (synced octets more taken : List ℕ) (place : Option ℕ) → IsAt synced octets taken place → IsAt synced (octets ++ more) taken place
more_wait synced octets more taken None at = record {
  front = at.front;
  rest = at.rest ++ more;
  octets_are = ap (λ all. all ++ more) at.octets_are ∙ append_assoc at.front at.rest more;
  taken_is = at.taken_is;
}
more_wait synced octets more taken (Some count) at =
    (omega (arith, at.0, length-append octets more), at.1 ∙ ap (λ front. synced ++ front) (sym (take-append-le count octets more at.0)))

-- behind what is on the disk, the file has taken a front of what waits
pub front_at : (synced octets taken : List ℕ) (place : Option ℕ) → IsAt synced octets taken place → HasFront synced octets taken
front_at synced octets taken None at = at
front_at synced octets taken (Some count) at = record {
  front = take count octets;
  rest = drop count octets;
  octets_are = sym (take-append-drop count octets);
  taken_is = at.1;
}

-- also after it has lost an end
pub front_left : (synced octets old new : List ℕ) → HasFront synced octets old → LosesAnEnd synced old new → HasFront synced octets new
front_left synced octets old new had loses =
    let same : had.front ≡ loses.behind = append_cancel_left synced had.front loses.behind (sym had.taken_is ∙ loses.had) in
    record {
      front = loses.has.front;
      rest = loses.has.rest ++ had.rest;
      octets_are =
          had.octets_are
          ∙ ap (λ front. front ++ had.rest) (same ∙ loses.has.octets_are)
          ∙ append_assoc loses.has.front loses.has.rest had.rest;
      taken_is = loses.has.taken_is;
    }

-- the file had taken all of these octets, and has lost an end
pub front_of_all : (synced octets old new : List ℕ) → old ≡ synced ++ octets → LosesAnEnd synced old new → HasFront synced octets new
front_of_all synced octets old new had loses =
    front_left synced octets old new (record { front = octets; rest = []; octets_are = sym (append-nil octets); taken_is = had }) loses

-- how many octets the file has taken is known after a cut
pub settled_within : (synced octets old new : List ℕ) (place : Option ℕ) (start : ℕ) → IsAt synced octets old place → IsSettled synced old new place start → start ≤ length octets
settled_within synced octets old new None start at is = omega (arith, is.0)
settled_within synced octets old new (Some count) start at is = omega (arith, at.0, is.0)

pub settled_taken : (synced octets old new : List ℕ) (place : Option ℕ) (start : ℕ) → IsAt synced octets old place → IsSettled synced old new place start → new ≡ synced ++ take start octets
settled_taken synced octets old new None start at is =
    is.1 ∙ sym (ap (λ n. synced ++ take n octets) is.0 ∙ append-nil synced)
settled_taken synced octets old new (Some count) start at is = is.1 ∙ at.1 ∙ ap (λ n. synced ++ take n octets) (sym is.0)

-- the file took more octets
pub more_taken : (synced octets old new : List ℕ) (start count : ℕ) → start ≤ length octets → old ≡ synced ++ take start octets → count ≤ length (drop start octets) → new ≡ old ++ take count (drop start octets) → IsAt synced octets new (Some (start + count))
more_taken synced octets old new start count within had most more = (
  omega (arith, within, most, length-drop start octets),
  more
      ∙ ap (λ front. front ++ take count (drop start octets)) had
      ∙ append_assoc synced (take start octets) (take count (drop start octets))
      ∙ ap (λ front. synced ++ front) (sym (take-add start count octets)),
)

-- the file took the rest of the octets
pub rest_taken : (synced octets old new : List ℕ) (start count : ℕ) → start ≤ length octets → old ≡ synced ++ take start octets → count ≡ length (drop start octets) → new ≡ old ++ take count (drop start octets) → new ≡ synced ++ octets
rest_taken synced octets old new start count within had all more =
    more
    ∙ ap (λ rest. old ++ rest) (take_all count (drop start octets) (omega (arith, all)))
    ∙ ap (λ front. front ++ drop start octets) had
    ∙ append_assoc synced (take start octets) (drop start octets)
    ∙ ap (λ all. synced ++ all) (take-append-drop start octets)

-- of octets that begin with these
pub front_wider : (synced octets more taken : List ℕ) → HasFront synced octets taken → HasFront synced (octets ++ more) taken
front_wider synced octets more taken has = record {
  front = has.front;
  rest = has.rest ++ more;
  octets_are = ap (λ all. all ++ more) has.octets_are ∙ append_assoc has.front has.rest more;
  taken_is = has.taken_is;
}

-- where there is nothing to take, nothing is taken
pub none_taken : (synced taken : List ℕ) (place : Option ℕ) → IsAt synced [] taken place → taken ≡ synced
none_taken synced taken None at =
    let none : at.front ≡ [] = nil_from_length at.front (omega (arith, ap length at.octets_are, length-append at.front at.rest)) in
    at.taken_is ∙ ap (λ front. synced ++ front) none ∙ append-nil synced
none_taken synced taken (Some count) at =
    let none : take count [] ≡ [] = nil_from_length (take count []) (omega (arith, length-take {A = ℕ} count [])) in
    at.1 ∙ ap (λ front. synced ++ front) none ∙ append-nil synced

-- the file has taken nothing behind what it has on the disk
pub at_start : (synced octets taken : List ℕ) → taken ≡ synced → IsAt synced octets taken (Some 0)
at_start synced octets taken same = (omega arith, same ∙ sym (append-nil synced))
