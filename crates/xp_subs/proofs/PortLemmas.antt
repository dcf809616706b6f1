-- No two lines have one port: of the list of ports, and of the lines by their numbers.
use Rattle.std.proofs.Common.{◌≡◌, ℕ, zero, suc, ◌<◌, List, [], ◌∷◌, ◌++◌, inl, inr, Contains, length, get_or, refl, sym, ap, subst, ◌∙◌, arith}
use Rattle.std.proofs.lemmas.List.Elements.{Contains-append_right}
use Rattle.xp_file.specs.declared.entry.Access.{Access}
use Rattle.xp_file.specs.declared.entry.Access.TheVariants.{Port, Router, Spare}
use Rattle.xp_subs.specs.declared.line.Line.{Line}
use Rattle.xp_subs.specs.Tables.{no_line, port_list, ports_of}
use Rattle.xp_subs.specs.UsedValues.{Once}
use Rattle.xp_subs.proofs.OnceLemmas.{in_none, in_front, in_cases, once_none, once_head, once_tail, once_cons}

port_at : (lines : List Line) (i p : ℕ) → i < length lines → (get_or lines i no_line).access ≡ Port p → Contains (ports_of lines) p
port_at [] i p within is = absurd (omega arith)
port_at (line ∷ lines) zero p within is =
    let P : Access → Type 0 = λ a. Contains (port_list a ++ ports_of lines) p in subst P (sym is) (in_front p (ports_of lines))
port_at (line ∷ lines) (suc i) p within is =
    Contains-append_right (port_list line.access) (ports_of lines) p (port_at lines i p (omega arith) is)

once_rest : (access : Access) (ports : List ℕ) → Once (port_list access ++ ports) → Once ports
once_rest (Port p) ports once = once_tail p ports once
once_rest (Router router) ports once = once
once_rest Spare ports once = once

once_first : (line : Line) (lines : List Line) (j p : ℕ) → Once (ports_of (line ∷ lines)) → line.access ≡ Port p → j < length lines
    → (get_or lines j no_line).access ≡ Port p → ⊥
once_first line lines j p once is within also =
    let P : Access → Type 0 = λ a. Once (port_list a ++ ports_of lines) in
    once_head p (ports_of lines) (subst P is once) (port_at lines j p within also)

pub ports_apart : (lines : List Line) → Once (ports_of lines) → (one other p : ℕ) → one < length lines → other < length lines
    → (get_or lines one no_line).access ≡ Port p → (get_or lines other no_line).access ≡ Port p → one ≡ other
ports_apart [] once one other p within also is here = absurd (omega arith)
ports_apart (line ∷ lines) once zero zero p within also is here = refl
ports_apart (line ∷ lines) once zero (suc j) p within also is here = absurd (once_first line lines j p once is (omega arith) here)
ports_apart (line ∷ lines) once (suc i) zero p within also is here = absurd (once_first line lines i p once here (omega arith) is)
ports_apart (line ∷ lines) once (suc i) (suc j) p within also is here =
    ap suc (ports_apart lines (once_rest line.access (ports_of lines) once) i j p (omega arith) (omega arith) is here)

abbrev Among : List Line → ℕ → Type 0
Among lines p = (i : ℕ) × (i < length lines) × ((get_or lines i no_line).access ≡ Port p)

one_further : (line : Line) (lines : List Line) (p : ℕ) → Among lines p → Among (line ∷ lines) p
one_further line lines p (i, within, is) = (suc i, omega arith, is)

port_among : (lines : List Line) (p : ℕ) → Contains (ports_of lines) p → Among lines p
port_among [] p here = absurd (in_none p here)
port_among (line ∷ lines) p here = by line.access refl here (λ rest. one_further line lines p (port_among lines p rest))
  where
    by : (access : Access) → line.access ≡ access → Contains (port_list access ++ ports_of lines) p
        → (Contains (ports_of lines) p → Among (line ∷ lines) p) → Among (line ∷ lines) p
    by (Port q) e held further = elim (in_cases q p (ports_of lines) held) [
      | inl is ↦ (0, omega arith, e ∙ ap (λ r. Port r) is)
      | inr rest ↦ further rest
    ]
    by (Router router) e held further = further held
    by Spare e held further = further held

pub once_of_apart : (lines : List Line)
    → ((one other p : ℕ) → one < length lines → other < length lines
    → (get_or lines one no_line).access ≡ Port p → (get_or lines other no_line).access ≡ Port p → one ≡ other)
    → Once (ports_of lines)
once_of_apart [] apart = once_none
once_of_apart (line ∷ lines) apart =
    by line.access refl (once_of_apart lines (λ i j p within also is here.
    let same_place = apart (suc i) (suc j) p (omega arith) (omega arith) is here in omega (arith, same_place)))
  where
    by : (access : Access) → line.access ≡ access → Once (ports_of lines) → Once (port_list access ++ ports_of lines)
    by (Port q) e rest =
        once_cons q (ports_of lines) (λ here.
        let (i, within, is) = port_among lines q here in
        let same_place = apart zero (suc i) q (omega arith) (omega arith) e is in absurd (omega (arith, same_place))) rest
    by (Router router) e rest = rest
    by Spare e rest = rest
