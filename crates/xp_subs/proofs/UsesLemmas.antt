-- What is entered so far is what was used, and what is used twice is the first of its kind.
use Rattle.std.proofs.Common.{◌≡◌, ℕ, ◌+◌, List, [], ◌∷◌, ◌++◌, Bool, true, false, ◌||◌, is_some, Option, None, Some, Result, Ok, Err, ◌⊎◌, inl, inr, Contains, map, refl, sym, ap, subst, ◌∙◌, append_assoc}
use Rattle.std.specs.Prelude.{nat_eq}
use Rattle.std.specs.List.{list_any}
use Rattle.std.specs.Map.{lookup}
use Rattle.std.proofs.lemmas.Bool.{eq-eqb, eqb-true}
use Rattle.std.proofs.lemmas.List.{append-nil}
use Rattle.std.proofs.lemmas.List.Folds.{list_any-append}
use Rattle.xp_file.specs.declared.entry.Access.{Access}
use Rattle.xp_file.specs.declared.entry.Access.TheVariants.{Port, Router, Spare}
use Rattle.xp_file.specs.declared.entry.LineEntry.{LineEntry}
use Rattle.xp_file.specs.declared.fault.SubscriptionFault.{SubscriptionFault}
use Rattle.xp_file.specs.declared.fault.SubscriptionFault.TheVariants as faults
use Rattle.xp_file.specs.Entries.{StationData}
use Rattle.xp_file.specs.Name.{same}
use Rattle.xp_file.specs.Reading.{◌>>=◌}
use Rattle.xp_file.proofs.Choices.{err_is_ok}
use Rattle.xp_subs.specs.declared.line.Line.{Line}
use Rattle.xp_subs.specs.declared.target.Target.{Target}
use Rattle.xp_subs.specs.Built.{lines_of, lines_from}
use Rattle.xp_subs.specs.Tables.{port_list, ports_of}
use Rattle.xp_subs.specs.steps.Passes.{Used, nothing_used, with_address, with_name, with_names, with_port, with_access, with_ports, with_own, with_addresses, with_station, with_stations}
use Rattle.xp_subs.specs.UsedValues.{Use, address, name, port, key_of, port_use, port_uses, own_use, own_uses, uses_of_station, uses_of, Once, IsFirstRepeated}
use Rattle.xp_subs.proofs.AgreeLemmas.{address_is_new, name_is_new}
use Rattle.xp_subs.proofs.OnceLemmas.{in_none, in_front, in_rest, in_cases, in_left, in_right, in_parts, once_none, once_head, once_tail, once_cons, once_push}
use Rattle.xp_subs.proofs.PositionLemmas.{or_last, lookup-push}
use Rattle.xp_subs.proofs.TableLemmas.{same_is, same-itself}

-- whether a value is entered
pub has : Used → Use → Bool
has used (address a) = is_some (lookup (same a) used.targets)
has used (name n) = is_some (lookup (same n) used.names)
has used (port p) = list_any (nat_eq p) used.ports

pub same_use : Use → Use → Bool
same_use (address a) (address b) = same a b
same_use (name a) (name b) = same a b
same_use (port a) (port b) = nat_eq a b
same_use _ _ = false

same_use_is : (u v : Use) → same_use u v ≡ true → u ≡ v
unfolding same_use
same_use_is (address a) (address b) e = ap address (same_is a b e)
same_use_is (name a) (name b) e = ap name (same_is a b e)
same_use_is (port a) (port b) e = ap port (eqb-true a b e)
same_use_is (address a) (name b) e = cc
same_use_is (address a) (port b) e = cc
same_use_is (name a) (address b) e = cc
same_use_is (name a) (port b) e = cc
same_use_is (port a) (address b) e = cc
same_use_is (port a) (name b) e = cc

same_use-itself : (u : Use) → same_use u u ≡ true
unfolding same_use
same_use-itself (address a) = same-itself a
same_use-itself (name n) = same-itself n
same_use-itself (port p) = eq-eqb p p refl

-- exactly what was used is entered, each value once
pub record Marks (used : Used) (done : List Use) : Type 0 where
  pub once : Once done
  pub held : (u : Use) → has used u ≡ true → Contains done u
  pub known : (u : Use) → Contains done u → has used u ≡ true

-- one more use, or the first of a value that was used before
pub record Enters (used more : Used) (u : Use) : Type 0 where
  pub new : has used u ≡ false
  pub more_has : (v : Use) → has more v ≡ (has used v || same_use v u)

pub record Refuses (used : Used) (fault : SubscriptionFault) (u : Use) : Type 0 where
  pub again : has used u ≡ true
  pub key : fault ≡ faults.TwiceUsed (key_of u)

or_cases : (a b : Bool) → (a || b) ≡ true → (a ≡ true) ⊎ (b ≡ true)
or_cases true b e = inl refl
or_cases false b e = inr e

or_one : (a b : Bool) → (a ≡ true) ⊎ (b ≡ true) → (a || b) ≡ true
or_one true b e = refl
or_one false b (inl e) = cc
or_one false b (inr e) = e

marks_more : (used more : Used) (done : List Use) (u : Use) → Marks used done → Enters used more u → Marks more (done ++ u ∷ [])
marks_more used more done u marks enters = record {
  once = once_push done u marks.once (λ here. let is = marks.known u here in let no = enters.new in cc);
  held = λ v e. held v (or_cases (has used v) (same_use v u) (sym (enters.more_has v) ∙ e));
  known = λ v here. enters.more_has v ∙ or_one (has used v) (same_use v u) (known v (in_parts done (u ∷ []) v here));
}
  where
    held : (v : Use) → (has used v ≡ true) ⊎ (same_use v u ≡ true) → Contains (done ++ u ∷ []) v
    held v (inl e) = in_left done (u ∷ []) v (marks.held v e)
    held v (inr e) = subst (Contains (done ++ u ∷ [])) (sym (same_use_is v u e)) (in_right done (u ∷ []) u (in_front u []))

    last : (v : Use) → (u ≡ v) ⊎ Contains [] v → (has used v ≡ true) ⊎ (same_use v u ≡ true)
    last v (inl is) = inr (ap (λ w. same_use w u) (sym is) ∙ same_use-itself u)
    last v (inr here) = absurd (in_none v here)

    known : (v : Use) → Contains done v ⊎ Contains (u ∷ []) v → (has used v ≡ true) ⊎ (same_use v u ≡ true)
    known v (inl here) = inl (marks.known v here)
    known v (inr here) = last v (in_cases u v [] here)

-- what is used is told: all of it, or the first that is used again
pub record Twice (done uses : List Use) (fault : SubscriptionFault) : Type 0 where
  pub use_again : Use
  pub before : List Use
  pub after : List Use
  pub split : uses ≡ before ++ use_again ∷ after
  pub once : Once (done ++ before)
  pub again : Contains (done ++ before) use_again
  pub key : fault ≡ faults.TwiceUsed (key_of use_again)

pub Leads : List Use → List Use → Result Used SubscriptionFault → Type 0
Leads done uses (Ok last) = Marks last (done ++ uses)
Leads done uses (Err fault) = Twice done uses fault

leads_on : (done uses more : List Use) (r : Result Used SubscriptionFault) → Leads (done ++ uses) more r → Leads done (uses ++ more) r
unfolding Leads
leads_on done uses more (Ok last) marks = subst (Marks last) (append_assoc done uses more) marks
leads_on done uses more (Err fault) twice = record {
  use_again = twice.use_again;
  before = uses ++ twice.before;
  after = twice.after;
  split = ap (λ l. uses ++ l) twice.split ∙ sym (append_assoc uses twice.before (twice.use_again ∷ twice.after));
  once = subst Once (append_assoc done uses twice.before) twice.once;
  again = subst (λ l. Contains l twice.use_again) (append_assoc done uses twice.before) twice.again;
  key = twice.key;
}

leads_then : (done uses more : List Use) (r : Result Used SubscriptionFault) (next : Used → Result Used SubscriptionFault) → Leads done uses r
    → ((mid : Used) → Marks mid (done ++ uses) → Leads (done ++ uses) more (next mid)) → Leads done (uses ++ more) (r >>= next)
unfolding Leads
leads_then done uses more (Ok mid) next marks then = leads_on done uses more (next mid) (then mid marks)
leads_then done uses more (Err fault) next twice then = record {
  use_again = twice.use_again;
  before = twice.before;
  after = twice.after ++ more;
  split = ap (λ l. l ++ more) twice.split ∙ append_assoc twice.before (twice.use_again ∷ twice.after) more;
  once = twice.once;
  again = twice.again;
  key = twice.key;
}

-- one use
leads_one : (done : List Use) (used : Used) (u : Use) (r : Result Used SubscriptionFault) → Marks used done
    → ((more : Used) → r ≡ Ok more → Enters used more u) → ((fault : SubscriptionFault) → r ≡ Err fault → Refuses used fault u) → Leads done (u ∷ []) r
unfolding Leads
leads_one done used u (Ok more) marks enters refuses = marks_more used more done u marks (enters more refl)
leads_one done used u (Err fault) marks enters refuses =
    let no = refuses fault refl in
    record {
      use_again = u;
      before = [];
      after = [];
      split = refl;
      once = subst Once (sym (append-nil done)) marks.once;
      again = subst (λ l. Contains l u) (sym (append-nil done)) (marks.held u no.again);
      key = no.key;
    }

is_some-or_last : {X : Type 0} (found : Option X) (test : Bool) (x : X) → is_some (or_last found test x) ≡ (is_some found || test)
is_some-or_last (Some y) test x = refl
is_some-or_last None true x = refl
is_some-or_last None false x = refl

or-false-again : (b : Bool) → b ≡ (b || false)
or-false-again true = refl
or-false-again false = refl

address_leads : (done : List Use) (used : Used) (target : Target) (a : List ℕ) → Marks used done
    → Leads done (address a ∷ []) (with_address target a used)
unfolding has same_use
address_leads done used target a marks = leads_one done used (address a) (with_address target a used) marks enters (λ fault e. refuses fault e (lookup (same a) used.targets) refl)
  where
    enters : (more : Used) → with_address target a used ≡ Ok more → Enters used more (address a)
    enters more e =
        let (none, is) = address_is_new target a used more e in
        record {
          new = rw none refl;
          more_has = λ v. ap (λ m. has m v) is ∙ by v;
        }
      where
        by : (v : Use) → has (record used { targets = used.targets ++ (a, target) ∷ [] }) v ≡ (has used v || same_use v (address a))
        by (address q) = ap is_some (lookup-push (same q) used.targets a target) ∙ is_some-or_last (lookup (same q) used.targets) (same q a) target
        by (name n) = or-false-again (is_some (lookup (same n) used.names))
        by (port p) = or-false-again (list_any (nat_eq p) used.ports)

    refuses : (fault : SubscriptionFault) → with_address target a used ≡ Err fault → (o : Option Target) → lookup (same a) used.targets ≡ o → Refuses used fault (address a)
    refuses fault e None none = let never : Ok (record used { targets = used.targets ++ (a, target) ∷ [] }) ≡ Err fault = rw none at e in absurd (err_is_ok (sym never))
    refuses fault e (Some x) here =
        let made : Err (faults.TwiceUsed (key_of (address a))) ≡ Err fault = rw here at e in
        record { again = rw here refl; key = cc }

name_leads : (done : List Use) (used : Used) (line : ℕ) (n : List ℕ) → Marks used done → Leads done (name n ∷ []) (with_name line n used)
unfolding has same_use
name_leads done used line n marks = leads_one done used (name n) (with_name line n used) marks enters (λ fault e. refuses fault e (lookup (same n) used.names) refl)
  where
    enters : (more : Used) → with_name line n used ≡ Ok more → Enters used more (name n)
    enters more e =
        let (none, is) = name_is_new line n used more e in
        record {
          new = rw none refl;
          more_has = λ v. ap (λ m. has m v) is ∙ by v;
        }
      where
        by : (v : Use) → has (record used { names = used.names ++ (n, line) ∷ [] }) v ≡ (has used v || same_use v (name n))
        by (name q) = ap is_some (lookup-push (same q) used.names n line) ∙ is_some-or_last (lookup (same q) used.names) (same q n) line
        by (address a) = or-false-again (is_some (lookup (same a) used.targets))
        by (port p) = or-false-again (list_any (nat_eq p) used.ports)

    refuses : (fault : SubscriptionFault) → with_name line n used ≡ Err fault → (o : Option ℕ) → lookup (same n) used.names ≡ o → Refuses used fault (name n)
    refuses fault e None none = let never : Ok (record used { names = used.names ++ (n, line) ∷ [] }) ≡ Err fault = rw none at e in absurd (err_is_ok (sym never))
    refuses fault e (Some x) here =
        let made : Err (faults.TwiceUsed (key_of (name n))) ≡ Err fault = rw here at e in
        record { again = rw here refl; key = cc }

port_leads : (done : List Use) (used : Used) (p : ℕ) → Marks used done → Leads done (port p ∷ []) (with_port p used)
unfolding has same_use
port_leads done used p marks = leads_one done used (port p) (with_port p used) marks (λ more e. enters more e (list_any (nat_eq p) used.ports) refl) (λ fault e. refuses fault e (list_any (nat_eq p) used.ports) refl)
  where
    by : (v : Use) → has (record used { ports = used.ports ++ p ∷ [] }) v ≡ (has used v || same_use v (port p))
    by (port q) = list_any-append (nat_eq q) used.ports (p ∷ []) ∙ ap (λ b. list_any (nat_eq q) used.ports || b) (sym (or-false-again (nat_eq q p)))
    by (address a) = or-false-again (is_some (lookup (same a) used.targets))
    by (name n) = or-false-again (is_some (lookup (same n) used.names))

    enters : (more : Used) → with_port p used ≡ Ok more → (b : Bool) → list_any (nat_eq p) used.ports ≡ b → Enters used more (port p)
    enters more e true here = let never : Err (faults.TwiceUsed (key_of (port p))) ≡ Ok more = rw here at e in absurd (err_is_ok never)
    enters more e false none =
        let made : Ok (record used { ports = used.ports ++ p ∷ [] }) ≡ Ok more = rw none at e in
        let is : more ≡ record used { ports = used.ports ++ p ∷ [] } = cc in
        record { new = none; more_has = λ v. ap (λ m. has m v) is ∙ by v }

    refuses : (fault : SubscriptionFault) → with_port p used ≡ Err fault → (b : Bool) → list_any (nat_eq p) used.ports ≡ b → Refuses used fault (port p)
    refuses fault e false none = let never : Ok (record used { ports = used.ports ++ p ∷ [] }) ≡ Err fault = rw none at e in absurd (err_is_ok (sym never))
    refuses fault e true here =
        let made : Err (faults.TwiceUsed (key_of (port p))) ≡ Err fault = rw here at e in
        record { again = here; key = cc }

-- nothing used
leads_none : (done : List Use) (used : Used) → Marks used done → Leads done [] (Ok used)
unfolding Leads
leads_none done used marks = subst (Marks used) (sym (append-nil done)) marks

-- the uses of a station's lines
names_lead : (lines : List LineEntry) (done : List Use) (used : Used) (line : ℕ) → Marks used done
    → Leads done (map (λ (l : LineEntry). name l.name) lines) (with_names line lines used)
names_lead [] done used line marks = leads_none done used marks
names_lead (first ∷ lines) done used line marks =
    leads_then done (name first.name ∷ []) (map (λ (l : LineEntry). name l.name) lines) (with_name line first.name used) (with_names (line + 1) lines)
    (name_leads done used line first.name marks) (λ mid more. names_lead lines (done ++ name first.name ∷ []) mid (line + 1) more)

access_leads : (access : Access) (done : List Use) (used : Used) → Marks used done → Leads done (port_use access) (with_access access used)
access_leads (Port p) done used marks = port_leads done used p marks
access_leads (Router router) done used marks = leads_none done used marks
access_leads Spare done used marks = leads_none done used marks

ports_lead : (lines : List LineEntry) (done : List Use) (used : Used) → Marks used done → Leads done (port_uses lines) (with_ports lines used)
ports_lead [] done used marks = leads_none done used marks
ports_lead (first ∷ lines) done used marks =
    leads_then done (port_use first.access) (port_uses lines) (with_access first.access used) (with_ports lines)
    (access_leads first.access done used marks) (λ mid more. ports_lead lines (done ++ port_use first.access) mid more)

own_leads : (own : Option (List ℕ)) (done : List Use) (used : Used) (station line : ℕ) → Marks used done → Leads done (own_use own) (with_own station line own used)
own_leads None done used station line marks = leads_none done used marks
own_leads (Some a) done used station line marks = address_leads done used (record { station = station; line = Some line }) a marks

owns_lead : (lines : List LineEntry) (done : List Use) (used : Used) (station line : ℕ) → Marks used done
    → Leads done (own_uses lines) (with_addresses station line lines used)
owns_lead [] done used station line marks = leads_none done used marks
owns_lead (first ∷ lines) done used station line marks =
    leads_then done (own_use first.address) (own_uses lines) (with_own station line first.address used) (with_addresses station (line + 1) lines)
    (own_leads first.address done used station line marks) (λ mid more. owns_lead lines (done ++ own_use first.address) mid station (line + 1) more)

-- of a station, and of all stations
station_leads : (station : StationData) (done : List Use) (used : Used) (number line : ℕ) → Marks used done
    → Leads done (uses_of_station station) (with_station number line station used)
unfolding with_station
station_leads station done used number line marks =
    let whole = address station.address ∷ [] in
    let names = map (λ (l : LineEntry). name l.name) station.lines in
    let ports = port_uses station.lines in
    let owns = own_uses station.lines in
    leads_then done whole (names ++ (ports ++ owns)) (with_address (record { station = number; line = None }) station.address used) _
    (address_leads done used (record { station = number; line = None }) station.address marks)
    (λ a after_address. leads_then (done ++ whole) names (ports ++ owns) (with_names line station.lines a) _
    (names_lead station.lines (done ++ whole) a line after_address)
    (λ b after_names. leads_then ((done ++ whole) ++ names) ports owns (with_ports station.lines b) _
    (ports_lead station.lines ((done ++ whole) ++ names) b after_names)
    (λ c after_ports. owns_lead station.lines (((done ++ whole) ++ names) ++ ports) c number line after_ports)))

stations_lead : (stations : List StationData) (done : List Use) (used : Used) (number line : ℕ) → Marks used done
    → Leads done (uses_of stations) (with_stations number line stations used)
stations_lead [] done used number line marks = leads_none done used marks
stations_lead (station ∷ stations) done used number line marks =
    leads_then done (uses_of_station station) (uses_of stations) (with_station number line station used) _
    (station_leads station done used number line marks)
    (λ mid more. stations_lead stations (done ++ uses_of_station station) mid _ _ more)

nothing_marked : Marks nothing_used []
unfolding has
nothing_marked = record { once = once_none; held = λ u e. none u e; known = λ u here. absurd (in_none u here) }
  where
    none : (u : Use) → has nothing_used u ≡ true → Contains [] u
    none (address a) e = cc
    none (name n) e = cc
    none (port p) e = cc

-- no value is used twice
pub all_once : (stations : List StationData) (used : Used) → with_stations 0 0 stations nothing_used ≡ Ok used → Once (uses_of stations)
unfolding Leads
all_once stations used e =
    let leads : Leads [] (uses_of stations) (Ok used) = subst (Leads [] (uses_of stations)) e (stations_lead stations [] nothing_used 0 0 nothing_marked) in
    leads.once

-- or the first that is used again is told
pub first_again : (stations : List StationData) (fault : SubscriptionFault) → with_stations 0 0 stations nothing_used ≡ Err fault
    → (u : Use) × IsFirstRepeated (uses_of stations) u × (fault ≡ faults.TwiceUsed (key_of u))
unfolding Leads
first_again stations fault e =
    let leads : Leads [] (uses_of stations) (Err fault) = subst (Leads [] (uses_of stations)) e (stations_lead stations [] nothing_used 0 0 nothing_marked) in
    (leads.use_again, record { before = leads.before; after = leads.after; split = leads.split; once = leads.once; again = leads.again }, leads.key)

-- the ports among what is used
ports_among : List Use → List ℕ
ports_among [] = []
ports_among (address a ∷ uses) = ports_among uses
ports_among (name n ∷ uses) = ports_among uses
ports_among (port p ∷ uses) = p ∷ ports_among uses

port_used : (uses : List Use) (p : ℕ) → Contains (ports_among uses) p → Contains uses (port p)
unfolding ports_among
port_used [] p here = absurd (in_none p here)
port_used (address a ∷ uses) p here = in_rest (address a) (port p) uses (port_used uses p here)
port_used (name n ∷ uses) p here = in_rest (name n) (port p) uses (port_used uses p here)
port_used (port q ∷ uses) p here = elim (in_cases q p (ports_among uses) here) [
  | inl is ↦ let P : ℕ → Type 0 = λ r. Contains (port q ∷ uses) (port r) in subst P is (in_front (port q) uses)
  | inr rest ↦ in_rest (port q) (port p) uses (port_used uses p rest)
]

ports_once : (uses : List Use) → Once uses → Once (ports_among uses)
unfolding ports_among
ports_once [] once = once_none
ports_once (address a ∷ uses) once = ports_once uses (once_tail (address a) uses once)
ports_once (name n ∷ uses) once = ports_once uses (once_tail (name n) uses once)
ports_once (port p ∷ uses) once =
    once_cons p (ports_among uses) (λ here. once_head (port p) uses once (port_used uses p here)) (ports_once uses (once_tail (port p) uses once))

ports_among-append : (uses more : List Use) → ports_among (uses ++ more) ≡ ports_among uses ++ ports_among more
unfolding ports_among
ports_among-append [] more = refl
ports_among-append (address a ∷ uses) more = ports_among-append uses more
ports_among-append (name n ∷ uses) more = ports_among-append uses more
ports_among-append (port p ∷ uses) more = ap (λ l. p ∷ l) (ports_among-append uses more)

names_without : (lines : List LineEntry) → ports_among (map (λ (l : LineEntry). name l.name) lines) ≡ []
unfolding ports_among
names_without [] = refl
names_without (line ∷ lines) = names_without lines

owns_without : (lines : List LineEntry) → ports_among (own_uses lines) ≡ []
unfolding ports_among
owns_without [] = refl
owns_without (line ∷ lines) =
    ports_among-append (own_use line.address) (own_uses lines) ∙ ap (λ l. ports_among (own_use line.address) ++ l) (owns_without lines) ∙ one line.address
  where
    one : (own : Option (List ℕ)) → ports_among (own_use own) ++ [] ≡ []
    one None = refl
    one (Some a) = refl

ports_with : (station : ℕ) (lines : List LineEntry) → ports_among (port_uses lines) ≡ ports_of (lines_of station lines)
unfolding ports_among
ports_with station [] = refl
ports_with station (line ∷ lines) =
    ports_among-append (port_use line.access) (port_uses lines)
    ∙ ap (λ l. l ++ ports_among (port_uses lines)) (one line.access)
    ∙ ap (λ l. port_list line.access ++ l) (ports_with station lines)
  where
    one : (access : Access) → ports_among (port_use access) ≡ port_list access
    one (Port p) = refl
    one (Router router) = refl
    one Spare = refl

ports_of-append : (lines more : List Line) → ports_of (lines ++ more) ≡ ports_of lines ++ ports_of more
ports_of-append [] more = refl
ports_of-append (line ∷ lines) more =
    ap (λ l. port_list line.access ++ l) (ports_of-append lines more) ∙ sym (append_assoc (port_list line.access) (ports_of lines) (ports_of more))

ports_of_uses : (number : ℕ) (stations : List StationData) → ports_among (uses_of stations) ≡ ports_of (lines_from number stations)
unfolding ports_among
ports_of_uses number [] = refl
ports_of_uses number (station ∷ stations) =
    let names = map (λ (l : LineEntry). name l.name) station.lines in
    let ports = port_uses station.lines in
    let owns = own_uses station.lines in
    ports_among-append (uses_of_station station) (uses_of stations)
    ∙ ap (λ l. l ++ ports_among (uses_of stations))
    (ports_among-append names (ports ++ owns)
    ∙ ap (λ l. l ++ ports_among (ports ++ owns)) (names_without station.lines)
    ∙ ports_among-append ports owns
    ∙ ap (λ l. ports_among ports ++ l) (owns_without station.lines)
    ∙ append-nil (ports_among ports)
    ∙ ports_with number station.lines)
    ∙ ap (λ l. ports_of (lines_of number station.lines) ++ l) (ports_of_uses (number + 1) stations)
    ∙ sym (ports_of-append (lines_of number station.lines) (lines_from (number + 1) stations))

-- no two lines have one port
pub line_ports_once : (number : ℕ) (stations : List StationData) → Once (uses_of stations) → Once (ports_of (lines_from number stations))
line_ports_once number stations once = subst Once (ports_of_uses number stations) (ports_once (uses_of stations) once)
