-- What a line says of which two words are cut off and more is left.
use Rattle.std.proofs.Common.{◌≡◌, ℕ, ◌+◌, ◌-◌, List, [], ◌∷◌, Option, Some, None, IsSome, ◌&&◌, codes, is_some, take, drop, length, refl, sym, ap, ◌∙◌}
use Rattle.std.specs.List.{position}
use Rattle.xp_subs.specs.Tables.{Tables, same, line_named_of}
use Rattle.xp_script.specs.NamedText.{NamedText}
use Rattle.xp_script.specs.Command.{brings_octets_by, is_space, octets_of, said_by, said_with, words}
use Rattle.xp_script.proofs.DigitLemmas.{octets_of-spaced}
use Rattle.xp_script.proofs.WordLemmas.{words-cut, words-uncut}

-- Two words and more.
record IsLonger (text : List ℕ) : Type 0 where
  pub first : List ℕ
  pub second : List ℕ
  pub more : List (List ℕ)
  pub are : words text ≡ first ∷ second ∷ more

longer : (text front rest : List ℕ) (place : Option ℕ) → position is_space rest ≡ place → words text ≡ front ∷ words rest → IsLonger text
longer text front rest None is cut = record { first = front; second = rest; more = []; are = cut ∙ ap (λ words. front ∷ words) (words-uncut rest is) }
longer text front rest (Some place) is cut = record { first = front; second = take place rest; more = _; are = cut ∙ ap (λ words. front ∷ words) (words-cut rest place is) }

spaced_longer : (text : List ℕ) (place : ℕ) → position is_space text ≡ Some place → IsLonger text
spaced_longer text place space =
    let rest : List ℕ = take (length text - (place + 1)) (drop (place + 1) text) in
    longer text (take place text) rest (position is_space rest) refl (words-cut text place space)

module _ {A : Type 0} where
  said_with-none : (verb : List ℕ) (line : Option ℕ) → said_with {A = A} verb line None ≡ None
  said_with-none verb None = refl
  said_with-none verb (Some line) = refl

  said_longer : (tables : Tables) (named : List NamedText) (verb name text : List ℕ) → IsLonger text → octets_of text ≡ None
      → said_by {A = A} tables named (verb ∷ name ∷ words text) ≡ said_with verb (line_named_of tables name) (octets_of text)
  said_longer tables named verb name text longer none = rw (longer.are, none) (sym (said_with-none verb (line_named_of tables name)))

  said_from : (tables : Tables) (named : List NamedText) (verb name text : List ℕ) (place : Option ℕ) → position is_space text ≡ place
      → said_by {A = A} tables named (verb ∷ name ∷ words text) ≡ said_with verb (line_named_of tables name) (octets_of text)
  said_from tables named verb name text None none = rw (words-uncut text none) refl
  said_from tables named verb name text (Some place) space = said_longer tables named verb name text (spaced_longer text place space) (octets_of-spaced text place space)

  -- by octets, where what is left is digits alone
  pub said-cut : (tables : Tables) (named : List NamedText) (verb name text : List ℕ)
      → said_by {A = A} tables named (verb ∷ name ∷ words text) ≡ said_with verb (line_named_of tables name) (octets_of text)
  said-cut tables named verb name text = said_from tables named verb name text (position is_space text) refl

brings_at : (tables : Tables) (verb name text : List ℕ) (place : Option ℕ) → position is_space text ≡ place → IsSome (octets_of text)
    → brings_octets_by tables (verb ∷ name ∷ words text) ≡ same verb (codes "in") && is_some (line_named_of tables name)
brings_at tables verb name text None none some = rw (words-uncut text none) refl
brings_at tables verb name text (Some place) space some = let none = octets_of-spaced text place space in absurd (cc)

-- such a line brings octets
pub brings-cut : (tables : Tables) (verb name text : List ℕ) → IsSome (octets_of text)
    → brings_octets_by tables (verb ∷ name ∷ words text) ≡ same verb (codes "in") && is_some (line_named_of tables name)
brings-cut tables verb name text some = brings_at tables verb name text (position is_space text) refl some
