-- The names of exchanges that are made of those of hosts.
use Rattle.std.proofs.Common.{◌≡◌, ℕ, ◌≤◌, List, [], ◌∷◌, Bool, true, false, if◌then◌else◌, length, map, refl, sym, take}
use Rattle.std.proofs.lemmas.List.{take_all}
use Rattle.std.specs.List.{list_all}
use Rattle.xp_cdr.specs.Names.{clean_letter, is_exchange_letter}

-- a short text is its own front
pub short_taken : (text : List ℕ) → length text ≤ 64 → text ≡ take 64 text
short_taken text short = sym (take_all 64 text short)

-- what becomes of a character is one of a name
letter_cleaned : (is : Bool) (octet : ℕ) → is_exchange_letter octet ≡ is → is_exchange_letter (if is then octet else 45) ≡ true
letter_cleaned true octet same = same
letter_cleaned false octet same = refl

pub all_cleaned : (text : List ℕ) → list_all is_exchange_letter (map clean_letter text) ≡ true
all_cleaned [] = refl
all_cleaned (octet ∷ text) = rw (letter_cleaned (is_exchange_letter octet) octet refl, all_cleaned text) refl
