-- The indexes agree with the lists of addresses and names that were entered.
use Rattle.std.proofs.Common.{◌≡◌, ℕ, ◌<◌, ◌≤◌, List, [], ◌∷◌, ◌++◌, Bool, true, false, Option, None, Some, Ok, ◌⊎◌, inl, inr, length, get_or, refl, sym, ap, subst, ◌∙◌, arith, length-append}
use Rattle.std.specs.Prelude.{position, nat_eq}
use Rattle.std.specs.List.{list_any}
use Rattle.std.specs.Map.{lookup}
use Rattle.std.proofs.lemmas.Bool.{cases_Bool, cases_lt}
use Rattle.std.proofs.lemmas.List.{get_or_append_left}
use Rattle.std.proofs.lemmas.List.Quantifiers.{position-Some}
use Rattle.xp_file.specs.Name.{same}
use Rattle.xp_file.specs.declared.entry.Access.{Access}
use Rattle.xp_file.specs.declared.entry.Access.TheVariants.{Port, Router, Spare}
use Rattle.xp_subs.specs.declared.target.Target.{Target}
use Rattle.xp_subs.specs.steps.Passes.{Used, with_address, with_name, with_port, with_access, with_own}
use Rattle.xp_subs.specs.Tables.{holds}
use Rattle.xp_subs.proofs.PositionLemmas.{or_last, lookup-push, position-push, get_or-last}
use Rattle.xp_subs.proofs.TableLemmas.{same_is, same-itself}
use Rattle.xp_file.proofs.Choices.{none_is_some, err_is_ok}

-- a line's station and its own address
abbrev pub Own : Type 0
Own = ℕ × Option (List ℕ)

abbrev pub owns : List ℕ → Own → Bool
owns address own = holds address own.1

abbrev pub no_own : Own
no_own = (0, None)

-- what an address leads to, by the addresses of stations and of lines
abbrev pub lead : List Own → Option ℕ → Option ℕ → Option Target
lead lines (Some station) line = Some (record { station = station; line = None })
lead lines None (Some line) = Some (record { station = (get_or lines line no_own).0; line = Some line })
lead lines None None = None

pub record Agrees (stations names : List (List ℕ)) (lines : List Own) (used : Used) : Type 0 where
  pub targets : (a : List ℕ) → lookup (same a) used.targets ≡ lead lines (position (same a) stations) (position (owns a) lines)
  pub names_found : (n : List ℕ) → lookup (same n) used.names ≡ position (same n) names
  pub stations_once : (i : ℕ) → i < length stations → position (same (get_or stations i [])) stations ≡ Some i
  pub lines_once : (i : ℕ) (a : List ℕ) → i < length lines → (get_or lines i no_own).1 ≡ Some a
      → (position (same a) stations ≡ None) × (position (owns a) lines ≡ Some i)
  pub names_once : (i : ℕ) → i < length names → position (same (get_or names i [])) names ≡ Some i

-- what was entered was not there
pub address_is_new : (target : Target) (a : List ℕ) (used more : Used) → with_address target a used ≡ Ok more
    → (lookup (same a) used.targets ≡ None) × (more ≡ record used { targets = used.targets ++ (a, target) ∷ [] })
address_is_new target a used more entered = by (lookup (same a) used.targets) refl
  where
    by : (o : Option Target) → lookup (same a) used.targets ≡ o
        → (lookup (same a) used.targets ≡ None) × (more ≡ record used { targets = used.targets ++ (a, target) ∷ [] })
    by None e = (e, (let made : Ok (record used { targets = used.targets ++ (a, target) ∷ [] }) ≡ Ok more = rw e at entered in cc))
    by (Some x) e = let never = rw e at entered in absurd (err_is_ok never)

pub name_is_new : (line : ℕ) (n : List ℕ) (used more : Used) → with_name line n used ≡ Ok more
    → (lookup (same n) used.names ≡ None) × (more ≡ record used { names = used.names ++ (n, line) ∷ [] })
name_is_new line n used more entered = by (lookup (same n) used.names) refl
  where
    by : (o : Option ℕ) → lookup (same n) used.names ≡ o
        → (lookup (same n) used.names ≡ None) × (more ≡ record used { names = used.names ++ (n, line) ∷ [] })
    by None e = (e, (let made : Ok (record used { names = used.names ++ (n, line) ∷ [] }) ≡ Ok more = rw e at entered in cc))
    by (Some x) e = let never = rw e at entered in absurd (err_is_ok never)

port_is_new : (port : ℕ) (used more : Used) → with_port port used ≡ Ok more → more ≡ record used { ports = used.ports ++ port ∷ [] }
port_is_new port used more entered =
    elim (cases_Bool (list_any (nat_eq port) used.ports)) [
      | inl e ↦ let never = rw e at entered in absurd (err_is_ok never)
      | inr e ↦ let made : Ok (record used { ports = used.ports ++ port ∷ [] }) ≡ Ok more = rw e at entered in cc
    ]

-- what leads nowhere is no address
no_lead : (lines : List Own) (s l : Option ℕ) → lead lines s l ≡ None → (s ≡ None) × (l ≡ None)
no_lead lines None None e = (refl, refl)
no_lead lines None (Some l) e = absurd (none_is_some (sym e))
no_lead lines (Some s) l e = absurd (none_is_some (sym e))

module _ (stations names : List (List ℕ)) (lines : List Own) (used : Used) (agree : Agrees stations names lines used) where
  absent : (a : List ℕ) → lookup (same a) used.targets ≡ None → (position (same a) stations ≡ None) × (position (owns a) lines ≡ None)
  absent a none = no_lead lines _ _ (sym (agree.targets a) ∙ none)

  -- one more station
  station_lead : (a q : List ℕ) (s l : Option ℕ) (b : Bool) → (b ≡ true → l ≡ None)
      → or_last (lead lines s l) b (record { station = length stations; line = None }) ≡ lead lines (or_last s b (length stations)) l
  station_lead a q (Some s) l b alone = refl
  station_lead a q None l false alone = elim l as (λ l. or_last (lead lines None l) false (record { station = length stations; line = None }) ≡ lead lines None l) [ None ↦ refl | Some x ↦ refl ]
  station_lead a q None l true alone = rw (alone refl)

  pub add_station : (a : List ℕ) (more : Used) → with_address (record { station = length stations; line = None }) a used ≡ Ok more
      → Agrees (stations ++ a ∷ []) names lines more
  add_station a more entered =
      let (none, is) = address_is_new (record { station = length stations; line = None }) a used more entered in
      let (no_station, no_line) = absent a none in
      record {
        targets = λ q.
            ap (λ u. lookup (same q) u.targets) is
            ∙ lookup-push (same q) used.targets a (record { station = length stations; line = None })
            ∙ ap (λ o. or_last o (same q a) (record { station = length stations; line = None })) (agree.targets q)
            ∙ station_lead a q (position (same q) stations) (position (owns q) lines) (same q a)
            (λ e. ap (λ x. position (owns x) lines) (same_is q a e) ∙ no_line)
            ∙ ap (λ s. lead lines s (position (owns q) lines)) (sym (position-push (same q) stations a));
        names_found = λ n. ap (λ u. lookup (same n) u.names) is ∙ agree.names_found n;
        stations_once = λ i within. once i within no_station (cases_lt i (length stations));
        lines_once = λ i x within held.
            let (other, here) = agree.lines_once i x within held in
            (position-push (same x) stations a ∙ ap (λ o. or_last o (same x a) (length stations)) other ∙ apart x i here no_line, here);
        names_once = agree.names_once;
      }
    where
      once : (i : ℕ) → i < length (stations ++ a ∷ []) → position (same a) stations ≡ None → (i < length stations) ⊎ (length stations ≤ i)
          → position (same (get_or (stations ++ a ∷ []) i [])) (stations ++ a ∷ []) ≡ Some i
      once i within none (inl below) =
          ap (λ x. position (same x) (stations ++ a ∷ [])) (get_or_append_left stations (a ∷ []) [] i below)
          ∙ position-push (same (get_or stations i [])) stations a
          ∙ ap (λ o. or_last o (same (get_or stations i []) a) (length stations)) (agree.stations_once i below)
      once i within none (inr above) =
          let last : i ≡ length stations = omega (arith, length-append {A = List ℕ}) in
          ap (λ j. position (same (get_or (stations ++ a ∷ []) j [])) (stations ++ a ∷ [])) last
          ∙ ap (λ x. position (same x) (stations ++ a ∷ [])) (get_or-last stations a [])
          ∙ position-push (same a) stations a
          ∙ rw (none, same-itself a) (ap (λ n. Some n) (sym last))

      apart : (x : List ℕ) (i : ℕ) → position (owns x) lines ≡ Some i → position (owns a) lines ≡ None → or_last None (same x a) (length stations) ≡ None
      apart x i here no_line =
          elim (cases_Bool (same x a)) [
            | inl e ↦ let never : Some i ≡ None = sym here ∙ ap (λ y. position (owns y) lines) (same_is x a e) ∙ no_line in absurd (none_is_some (sym never))
            | inr e ↦ rw e
          ]

  -- one more name
  pub add_name : (n : List ℕ) (more : Used) → with_name (length names) n used ≡ Ok more → Agrees stations (names ++ n ∷ []) lines more
  add_name n more entered =
      let (none, is) = name_is_new (length names) n used more entered in
      record {
        targets = λ q. ap (λ u. lookup (same q) u.targets) is ∙ agree.targets q;
        names_found = λ q.
            ap (λ u. lookup (same q) u.names) is
            ∙ lookup-push (same q) used.names n (length names)
            ∙ ap (λ o. or_last o (same q n) (length names)) (agree.names_found q)
            ∙ sym (position-push (same q) names n);
        stations_once = agree.stations_once;
        lines_once = agree.lines_once;
        names_once = λ i within. once i within (sym (agree.names_found n) ∙ none) (cases_lt i (length names));
      }
    where
      once : (i : ℕ) → i < length (names ++ n ∷ []) → position (same n) names ≡ None → (i < length names) ⊎ (length names ≤ i)
          → position (same (get_or (names ++ n ∷ []) i [])) (names ++ n ∷ []) ≡ Some i
      once i within none (inl below) =
          ap (λ x. position (same x) (names ++ n ∷ [])) (get_or_append_left names (n ∷ []) [] i below)
          ∙ position-push (same (get_or names i [])) names n
          ∙ ap (λ o. or_last o (same (get_or names i []) n) (length names)) (agree.names_once i below)
      once i within none (inr above) =
          let last : i ≡ length names = omega (arith, length-append {A = List ℕ}) in
          ap (λ j. position (same (get_or (names ++ n ∷ []) j [])) (names ++ n ∷ [])) last
          ∙ ap (λ x. position (same x) (names ++ n ∷ [])) (get_or-last names n [])
          ∙ position-push (same n) names n
          ∙ rw (none, same-itself n) (ap (λ m. Some m) (sym last))

  -- one more port
  add_port : (port : ℕ) (more : Used) → with_port port used ≡ Ok more → Agrees stations names lines more
  add_port port more entered = subst (Agrees stations names lines) (sym (port_is_new port used more entered)) (record {
    targets = agree.targets;
    names_found = agree.names_found;
    stations_once = agree.stations_once;
    lines_once = agree.lines_once;
    names_once = agree.names_once;
  })

  pub add_access : (access : Access) (more : Used) → with_access access used ≡ Ok more → Agrees stations names lines more
  add_access (Port port) more entered = add_port port more entered
  add_access (Router router) more entered =
      let is : used ≡ more = (let e : Ok used ≡ Ok more = entered in cc) in subst (Agrees stations names lines) is agree
  add_access Spare more entered =
      let is : used ≡ more = (let e : Ok used ≡ Ok more = entered in cc) in subst (Agrees stations names lines) is agree

  -- one more line, with its own address or without
  line_kept : (line : Own) (a : List ℕ) (s : Option ℕ) → lead lines s (position (owns a) lines) ≡ lead (lines ++ line ∷ []) s (position (owns a) lines)
  line_kept line a (Some s) = refl
  line_kept line a None = by (position (owns a) lines) refl
    where
      by : (l : Option ℕ) → position (owns a) lines ≡ l → lead lines None l ≡ lead (lines ++ line ∷ []) None l
      by None e = refl
      by (Some l) e =
          let (within, _, _) = position-Some (owns a) lines l no_own e in
          ap (λ (o : Own). Some (let t : Target = record { station = o.0; line = Some l } in t)) (sym (get_or_append_left lines (line ∷ []) no_own l within))

  line_lead : (line : Own) (x q : List ℕ) (s l : Option ℕ) (b : Bool) → line ≡ (line.0, Some x) → (b ≡ true → s ≡ None)
      → or_last (lead (lines ++ line ∷ []) s l) b (record { station = line.0; line = Some (length lines) })
      ≡ lead (lines ++ line ∷ []) s (or_last l b (length lines))
  line_lead line x q (Some s) l true is alone = absurd (none_is_some (sym (alone refl)))
  line_lead line x q (Some s) l false is alone = refl
  line_lead line x q None (Some l) b is alone = refl
  line_lead line x q None None false is alone = refl
  line_lead line x q None None true is alone =
      ap (λ (o : Own). Some (let t : Target = record { station = o.0; line = Some (length lines) } in t)) (sym (get_or-last lines line no_own))

  pub add_line : (station : ℕ) (own : Option (List ℕ)) (more : Used) → with_own station (length lines) own used ≡ Ok more
      → Agrees stations names (lines ++ (station, own) ∷ []) more
  add_line station None more entered =
      let is : more ≡ used = (let e : Ok used ≡ Ok more = entered in cc) in
      subst (Agrees stations names (lines ++ (station, None) ∷ [])) (sym is) (record {
        targets = λ q.
            agree.targets q ∙ line_kept (station, None) q (position (same q) stations)
            ∙ ap (λ l. lead (lines ++ (station, None) ∷ []) (position (same q) stations) l) (sym (unowned q));
        names_found = agree.names_found;
        stations_once = agree.stations_once;
        lines_once = λ i x within held. once i x within held (cases_lt i (length lines));
        names_once = agree.names_once;
      })
    where
      unowned : (q : List ℕ) → position (owns q) (lines ++ (station, None) ∷ []) ≡ position (owns q) lines
      unowned q = position-push (owns q) lines (station, None) ∙ by (position (owns q) lines)
        where
          by : (o : Option ℕ) → or_last o false (length lines) ≡ o
          by None = refl
          by (Some l) = refl

      once : (i : ℕ) (x : List ℕ) → i < length (lines ++ (station, None) ∷ []) → (get_or (lines ++ (station, None) ∷ []) i no_own).1 ≡ Some x
          → (i < length lines) ⊎ (length lines ≤ i)
          → (position (same x) stations ≡ None) × (position (owns x) (lines ++ (station, None) ∷ []) ≡ Some i)
      once i x within held (inl below) =
          let (other, here) = agree.lines_once i x below (ap (λ (o : Own). o.1) (sym (get_or_append_left lines ((station, None) ∷ []) no_own i below)) ∙ held) in
          (other, unowned x ∙ here)
      once i x within held (inr above) =
          let last : i ≡ length lines = omega (arith, length-append {A = Own}) in
          let at_last : get_or (lines ++ (station, None) ∷ []) i no_own ≡ (station, None) =
          ap (λ j. get_or (lines ++ (station, None) ∷ []) j no_own) last ∙ get_or-last lines (station, None) no_own in
          absurd (none_is_some (sym (ap (λ (o : Own). o.1) at_last) ∙ held))
  add_line station (Some a) more entered =
      let target : Target = record { station = station; line = Some (length lines) } in
      let (none, is) = address_is_new target a used more entered in
      let (no_station, no_line) = absent a none in
      record {
        targets = λ q.
            ap (λ u. lookup (same q) u.targets) is
            ∙ lookup-push (same q) used.targets a target
            ∙ ap (λ o. or_last o (same q a) target) (agree.targets q ∙ line_kept (station, Some a) q (position (same q) stations))
            ∙ line_lead (station, Some a) a q (position (same q) stations) (position (owns q) lines) (same q a) refl
            (λ e. ap (λ x. position (same x) stations) (same_is q a e) ∙ no_station)
            ∙ ap (λ l. lead (lines ++ (station, Some a) ∷ []) (position (same q) stations) l) (sym (position-push (owns q) lines (station, Some a)));
        names_found = λ n. ap (λ u. lookup (same n) u.names) is ∙ agree.names_found n;
        stations_once = agree.stations_once;
        lines_once = λ i x within held. once i x within held no_station no_line (cases_lt i (length lines));
        names_once = agree.names_once;
      }
    where
      once : (i : ℕ) (x : List ℕ) → i < length (lines ++ (station, Some a) ∷ []) → (get_or (lines ++ (station, Some a) ∷ []) i no_own).1 ≡ Some x
          → position (same a) stations ≡ None → position (owns a) lines ≡ None → (i < length lines) ⊎ (length lines ≤ i)
          → (position (same x) stations ≡ None) × (position (owns x) (lines ++ (station, Some a) ∷ []) ≡ Some i)
      once i x within held no_station no_line (inl below) =
          let (other, here) = agree.lines_once i x below (ap (λ (o : Own). o.1) (sym (get_or_append_left lines ((station, Some a) ∷ []) no_own i below)) ∙ held) in
          (other, position-push (owns x) lines (station, Some a) ∙ ap (λ o. or_last o (same x a) (length lines)) here)
      once i x within held no_station no_line (inr above) =
          let last : i ≡ length lines = omega (arith, length-append {A = Own}) in
          let at_last : get_or (lines ++ (station, Some a) ∷ []) i no_own ≡ (station, Some a) =
          ap (λ j. get_or (lines ++ (station, Some a) ∷ []) j no_own) last ∙ get_or-last lines (station, Some a) no_own in
          let some : Some a ≡ Some x = sym (ap (λ (o : Own). o.1) at_last) ∙ held in
          let this : a ≡ x = cc in (
            ap (λ y. position (same y) stations) (sym this) ∙ no_station,
            ap (λ y. position (owns y) (lines ++ (station, Some a) ∷ [])) (sym this)
                ∙ position-push (owns a) lines (station, Some a) ∙ rw (no_line, same-itself a) (ap (λ n. Some n) (sym last)),
          )
