-- A facility field as its facilities are written one after the other.
use Rattle.std.proofs.Common.{◌≡◌, ℕ, zero, suc, ◌<◌, ◌≤◌, List, ◌++◌, length, codes, Some, None, sym, ◌∙◌, ap, append_assoc, arith, refl}
use Rattle.std.proofs.Output.{has_written_append, has_written_of_eq}
use Rattle.std.specs.Fmt.{HasWritten}
use Rattle.std.specs.declared.fmt.Formatter.{Formatter}
use Rattle.xp_facilities.specs.Items.{Item}
use Rattle.xp_words.specs.Facilities.{facilities_text, facility_text, field_text, first_facility, rest_text}

-- no facility is at the front: the rest alone is left
facilities_text-none : (most : ℕ) (rest : List ℕ) → first_facility rest ≡ None → facilities_text most rest ≡ rest_text rest
unfolding facilities_text
facilities_text-none zero rest none = refl
facilities_text-none (suc most) rest none = rw (none, facilities_text) refl

-- a facility is at the front
facilities_text-some : (most : ℕ) (rest behind : List ℕ) (item : Item)
    → first_facility rest ≡ Some (item, behind)
    → facilities_text (suc most) rest ≡ codes ", " ++ facility_text item ++ facilities_text most behind
unfolding facilities_text
facilities_text-some most rest behind item some = rw (some, facilities_text) refl

-- the formatter has got the front of the text of a field, and what is left of it is the text of the rest
pub record IsWrittenSoFar {W : Type 0} (took : W → List ℕ → W → Type 0) (before : Formatter W) (field : List ℕ) (after : Formatter W) (rest : List ℕ) : Type 0 where
  pub done : List ℕ
  pub most : ℕ
  pub written : HasWritten took before done after
  pub enough : length rest ≤ most
  pub whole : done ++ facilities_text most rest ≡ field_text field

module _ {W : Type 0} {took : W → List ℕ → W → Type 0} where
  pub one_more : (before after next : Formatter W) (field rest behind : List ℕ) (item : Item)
      → IsWrittenSoFar took before field after rest
      → first_facility rest ≡ Some (item, behind)
      → length behind < length rest
      → HasWritten took after (codes ", " ++ facility_text item) next
      → IsWrittenSoFar took before field next behind
  one_more before after next field rest behind item so_far front shorter written =
      one_more_by so_far.most refl
    where
      one_more_by : (most : ℕ) → so_far.most ≡ most → IsWrittenSoFar took before field next behind
      one_more_by zero none = absurd (omega (arith, so_far.enough, shorter, none))
      one_more_by (suc most) some =
          record {
            done = so_far.done ++ (codes ", " ++ facility_text item);
            most = most;
            written = has_written_append _ _ _ _ _ _ so_far.written written;
            enough = omega (arith, so_far.enough, shorter, some);
            whole =
                append_assoc so_far.done (codes ", " ++ facility_text item) (facilities_text most behind)
                ∙ ap (λ text. so_far.done ++ text) (append_assoc (codes ", ") (facility_text item) (facilities_text most behind))
                ∙ ap (λ text. so_far.done ++ text) (sym (facilities_text-some most rest behind item front))
                ∙ ap (λ m. so_far.done ++ facilities_text m rest) (sym some)
                ∙ so_far.whole;
          }

  pub the_rest : (before after last : Formatter W) (field rest : List ℕ)
      → IsWrittenSoFar took before field after rest
      → first_facility rest ≡ None
      → HasWritten took after (rest_text rest) last
      → HasWritten took before (field_text field) last
  the_rest before after last field rest so_far none written =
      has_written_of_eq _ _ _ _ _ (ap (λ text. so_far.done ++ text) (sym (facilities_text-none so_far.most rest none)) ∙ so_far.whole)
      (has_written_append _ _ _ _ _ _ so_far.written written)
