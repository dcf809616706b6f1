-- Lines that have no places cannot be laid.
use Rattle.std.proofs.Common.{◌≡◌, ◌∙◌, ◌<◌, ◌+◌, ℕ, Bool, true, false, Some, refl, sym, ap, subst, arith, nat_eq}
use Rattle.xp_changes.proofs.Pigeons.{eq_of, less, ne_of, pigeon}
use Rattle.xp_packets.specs.declared.modulus.Modulus.{Modulus}
use Rattle.xp_packets.specs.declared.modulus.Modulus.TheVariants.{Eight, Long}
use Rattle.xp_reload.specs.Frame.{HasSameSettings}
use Rattle.xp_subs.proofs.There.{there_of_name}
use Rattle.xp_subs.specs.Laid.{CannotBeLaid, HasNoPlace, IsLaidOver}
use Rattle.xp_subs.specs.Sound.{IsSound}
use Rattle.xp_subs.specs.Tables.{IsThere, Tables, line_at, line_count, line_named_of, modulus_of}
use Rattle.xp_subs.specs.declared.laid.LayFault.{LayFault}
use Rattle.xp_subs.specs.declared.laid.LayFault.TheVariants as faults
use Rattle.xp_subs.specs.declared.line.Line.{Line}

-- both are the same modulus
same_modulus : Modulus → Modulus → Bool
same_modulus Eight Eight = true
same_modulus Eight Long = false
same_modulus Long Eight = false
same_modulus Long Long = true

modulus_is : (one other : Modulus) → same_modulus one other ≡ true → one ≡ other
unfolding same_modulus
modulus_is Eight Eight e = refl
modulus_is Eight Long e = cc
modulus_is Long Eight e = cc
modulus_is Long Long e = refl

modulus_alike : (one : Modulus) → same_modulus one one ≡ true
unfolding same_modulus
modulus_alike Eight = refl
modulus_alike Long = refl

-- the one or the other
choose : Bool → ℕ → ℕ → ℕ
choose true one other = one
choose false one other = other

module _ (old next laid : Tables) (over : IsLaidOver old next laid) where
  -- a line's place has its modulus
  modulus_at : (line : ℕ) → IsThere next line → modulus_of old (over.place line) ≡ modulus_of next line
  modulus_at line there =
      let stands = over.stands line there in
      sym (over.moduli (over.place line) stands.0) ∙ ap (λ (l : Line). l.modulus) stands.1

  -- a line that stays has the modulus of its place
  stays : (name : _) (was line : ℕ) → IsSound next → line_named_of old name ≡ Some was → line_named_of next name ≡ Some line → modulus_of next line ≡ modulus_of old was
  stays name was line sound old_named next_named =
      let there = there_of_name next name line next_named in
      let is : (line_at next line).name ≡ name = (sound.name_held name line next_named).1 in
      let kept : over.place line ≡ was = over.kept was line there (subst (λ n. line_named_of old n ≡ Some was) (sym is) old_named) in
      sym (modulus_at line there) ∙ ap (modulus_of old) kept

  -- There are not more lines of a modulus than places: beside the places of that modulus, each of which has a holder, the line that is left
  -- stands at one of them too.
  module _ (line : ℕ) (there : IsThere next line) (none : HasNoPlace old next line) where
    is_own : ℕ → Bool
    is_own at = same_modulus (modulus_of old at) (modulus_of next line)

    -- where the holder of a place stands, or the line that is left; a place of the other modulus stands for itself
    stand : ℕ → ℕ
    stand at = choose (nat_eq at (line_count old)) (over.place line) (choose (is_own at) (over.place (none.holder at)) at)

    data Spot (at value : ℕ) : Type 0 where
      left : at ≡ line_count old → value ≡ over.place line → Spot at value
      held : at < line_count old → modulus_of old at ≡ modulus_of next line → value ≡ over.place (none.holder at) → Spot at value
      other : at < line_count old → is_own at ≡ false → value ≡ at → Spot at value

    spot : (at : ℕ) → at < line_count old + 1 → Spot at (stand at)
    unfolding stand is_own choose
    spot at within = spot_by (nat_eq at (line_count old)) refl (is_own at) refl where
      below : (at : ℕ) → at < line_count old + 1 → nat_eq at (line_count old) ≡ false → at < line_count old
      below at within e = less at (line_count old) (omega (arith, within)) (ne_of at (line_count old) e)

      spot_by : (last : Bool) → nat_eq at (line_count old) ≡ last → (own : Bool) → is_own at ≡ own
          → Spot at (choose last (over.place line) (choose own (over.place (none.holder at)) at))
      spot_by true e own f = left (eq_of at (line_count old) e) refl
      spot_by false e true f = held (below at within e) (modulus_is (modulus_of old at) (modulus_of next line) f) refl
      spot_by false e false f = other (below at within e) f refl

    -- a place where a line of the modulus stands is of that modulus
    own_at : (who at : ℕ) → IsThere next who → modulus_of next who ≡ modulus_of next line → over.place who ≡ at → is_own at ≡ false → ⊥
    unfolding is_own
    own_at who at there is at_is not =
        let modulus : modulus_of old at ≡ modulus_of next line = ap (modulus_of old) (sym at_is) ∙ modulus_at who there ∙ is in
        let own = subst (λ m. same_modulus m (modulus_of next line) ≡ false) modulus not in
        let alike = modulus_alike (modulus_of next line) in
        absurd (cc)

    holder_there : (at : ℕ) → at < line_count old → modulus_of old at ≡ modulus_of next line → IsThere next (none.holder at)
    holder_there at within is = (none.holds at within is).0

    no_place : ⊥
    no_place = pigeon (line_count old) stand below apart where
      below : (at : ℕ) → at < line_count old + 1 → stand at < line_count old
      below at within = elim (spot at within) [
        | left e v ↦ let is = (over.stands line there).0 in omega (arith, v, is)
        | held w m v ↦ let is = (over.stands (none.holder at) (holder_there at w m)).0 in omega (arith, v, is)
        | other w f v ↦ omega (arith, v, w)
      ]

      -- the line that is left stands where no holder does
      apart_left : (at value : ℕ) → Spot at value → over.place line ≡ value → at ≡ line_count old
      apart_left at value (left e v) same = e
      apart_left at value (held w m v) same =
          absurd ((none.holds at w m).2 (sym (over.apart line (none.holder at) there (holder_there at w m) (same ∙ v))))
      apart_left at value (other w f v) same = absurd (own_at line at there refl (same ∙ v) f)

      apart_by : (i j one two : ℕ) → Spot i one → Spot j two → one ≡ two → i ≡ j
      apart_by i j one two (left e v) spot same = e ∙ sym (apart_left j two spot (sym v ∙ same))
      apart_by i j one two spot (left e v) same = apart_left i one spot (sym v ∙ sym same) ∙ sym e
      apart_by i j one two (held w m v) (held x n u) same =
          none.apart i j w x m n (over.apart (none.holder i) (none.holder j) (holder_there i w m) (holder_there j x n) (sym v ∙ same ∙ u))
      apart_by i j one two (held w m v) (other x f u) same =
          absurd (own_at (none.holder i) j (holder_there i w m) (none.holds i w m).1 (sym v ∙ same ∙ u) f)
      apart_by i j one two (other w f v) (held x n u) same =
          absurd (own_at (none.holder j) i (holder_there j x n) (none.holds j x n).1 (sym u ∙ sym same ∙ v) f)
      apart_by i j one two (other w f v) (other x g u) same = sym v ∙ same ∙ u

      apart : (i j : ℕ) → i < line_count old + 1 → j < line_count old + 1 → stand i ≡ stand j → i ≡ j
      apart i j wi wj same = apart_by i j (stand i) (stand j) (spot i wi) (spot j wj) same

-- where lines have no places, they are not laid
pub refuted : (old next laid : Tables) (fault : LayFault) → IsSound next → CannotBeLaid old next fault → IsLaidOver old next laid → ⊥
refuted old next laid (faults.Modulus name) sound (was, line, old_named, next_named, differ) over =
    differ (stays old next laid over name was line sound old_named next_named)
refuted old next laid (faults.Place name) sound (line, next_named, not_old, none) over =
    no_place old next laid over line (there_of_name next name line next_named) none
refuted old next laid faults.Memory sound cannot over = cannot

-- laid subscriptions have the settings of those that are laid
pub settings_of : (old next laid : Tables) → IsLaidOver old next laid → HasSameSettings laid next
settings_of old next laid over =
    let rest = over.rest in
    record {
      segment_limit = ap (λ (t : Tables). t.segment_limit) (sym rest);
      journal = ap (λ (t : Tables). t.journal) (sym rest);
      host = ap (λ (t : Tables). t.host) (sym rest);
      xot_port = ap (λ (t : Tables). t.xot_port) (sym rest);
      name = ap (λ (t : Tables). t.name) (sym rest);
    }
