-- Subscriptions that a script may bring into force: the texts of subscription files, each with a name.
use Rattle.std.specs.Prelude.{ℕ, List, [], Option, Ok, position, slice_index_or}
use Rattle.xp_subs.specs.Built.{SetsUp}
use Rattle.xp_subs.specs.Laid.{CannotBeLaid, IsLaidOver}
use Rattle.xp_subs.specs.Tables.{Tables, same}
use Rattle.xp_subs.specs.declared.laid.LayFault.{LayFault}

pub record NamedText : Type 0 where
  pub name : List ℕ
  pub text : List ℕ

abbrev pub no_text : NamedText
no_text = record { name = []; text = [] }

abbrev pub name_at : List NamedText → ℕ → List ℕ
name_at named number = (slice_index_or named number no_text).name

abbrev pub text_at : List NamedText → ℕ → List ℕ
text_at named number = (slice_index_or named number no_text).text

-- the number of the first text with this name
abbrev pub number_named : List NamedText → List ℕ → Option ℕ
number_named named name = position (λ (text : NamedText). same text.name name) named

-- The tables that the text sets up, with their lines at the places of those in force.
pub record LaysOver (text : List ℕ) (force laid : Tables) : Type 0 where
  pub next : Tables
  pub set_up : SetsUp text (Ok next)
  pub over : IsLaidOver force next laid

-- The tables that the text sets up have lines for which there are no places.
pub record CannotLay (text : List ℕ) (force : Tables) (fault : LayFault) : Type 0 where
  pub next : Tables
  pub set_up : SetsUp text (Ok next)
  pub cannot : CannotBeLaid force next fault
