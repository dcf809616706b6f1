-- For private steps. Several details as one text, with cuts where the text of a later part begins.
use Rattle.std.specs.Prelude.{ℕ, ◌+◌, Bool, true, false, nat_lt, List, [], ◌∷◌, ◌++◌, length}
use Rattle.xp_cdr.specs.declared.cut.Cut.{Cut}
use Rattle.xp_cdr.specs.declared.ended.EndedCall.{EndedCall}

-- the octets of the details, how many details there are, the cuts between parts, and the last part
pub record Texts : Type 0 where
  pub octets : List ℕ
  pub count : ℕ
  pub cuts : List Cut
  pub part : ℕ

abbrev pub no_texts : ℕ → Texts
no_texts part = record { octets = []; count = 0; cuts = []; part = part }

-- the end of all, as a cut
abbrev pub end_of_all : Texts → Cut
end_of_all texts = record { part = texts.part; octets = length texts.octets; count = texts.count }

-- the first of these cuts, or the end
abbrev pub first_cut : List Cut → Cut → Cut
first_cut [] end = end
first_cut (cut ∷ cuts) end = cut

-- a text behind the others, where it begins a later part and where not
abbrev pub with_part : Bool → Texts → ℕ → List ℕ → Texts
with_part true texts part text = record {
  octets = texts.octets ++ text;
  count = texts.count + 1;
  cuts = texts.cuts ++ record { part = part; octets = length texts.octets; count = texts.count } ∷ [];
  part = part;
}
with_part false texts part text =
    record { octets = texts.octets ++ text; count = texts.count + 1; cuts = texts.cuts; part = texts.part }

abbrev pub with_text : Texts → ℕ → List ℕ → Texts
with_text texts part text = with_part (nat_lt texts.part part) texts part text

-- the texts of these records, behind the others
abbrev pub with_texts : (ℕ → ℕ) → (EndedCall → List ℕ) → Texts → List EndedCall → Texts
with_texts part_of text texts [] = texts
with_texts part_of text texts (call ∷ calls) =
    with_texts part_of text (with_text texts (part_of call.charging.ended) (text call)) calls
