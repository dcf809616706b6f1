-- What the lines of a script say.
use Rattle.std.specs.Prelude.{ℕ, ◌≡◌, ◌<◌, ◌^◌, ◌==◌, codes, nat_lt, Bool, true, false, ◌&&◌, is_some, if◌then◌else◌, List, [], ◌∷◌, length, Option, None, Some, Result, Ok, Err}
use Rattle.std.specs.Char.{is_ascii_digit}
use Rattle.std.specs.List.{list_all, slice_split}
use Rattle.std.specs.Str.Parse.{digits_value}
use Rattle.hex.specs.Hex.{decode_of}
use Rattle.hex.specs.declared.error.FromHexError.{FromHexError}
use Rattle.xp_subs.specs.Tables.{Tables, same, line_named_of}
use Rattle.xp_script.specs.declared.command.Command.{Command}
use Rattle.xp_script.specs.declared.command.Command.TheVariants.{Nothing, Up, Down, Expire, In, At, Reload}
use Rattle.xp_script.specs.declared.fault.LineFault.{LineFault}
use Rattle.xp_script.specs.declared.fault.LineFault.TheVariants.{Faulty, Memory}
use Rattle.xp_script.specs.NamedText.{NamedText, number_named}

-- the most octets of a line, without its line feed
abbrev pub longest : ℕ
longest = 8192

-- an empty line, or a comment
abbrev pub is_skipped : List ℕ → Bool
is_skipped [] = true
is_skipped (octet ∷ octets) = octet == 35

-- the words of a line, told apart by single spaces
abbrev pub is_space : ℕ → Bool
is_space octet = octet == 32

abbrev pub words : List ℕ → List (List ℕ)
words text = slice_split is_space text

-- the octets that hexadecimal digits of either case stand for, at least one
abbrev pub some_octets : Result (List ℕ) FromHexError → Option (List ℕ)
some_octets (Ok []) = None
some_octets (Ok octets) = Some octets
some_octets (Err fault) = None

abbrev pub octets_of : List ℕ → Option (List ℕ)
octets_of digits = some_octets (decode_of digits)

-- the most digits of a moment
abbrev pub most_digits : ℕ
most_digits = 20

-- what comes of a number if it has 64 bits
abbrev pub within_64_bits : ℕ → Option ℕ
within_64_bits number = if nat_lt number (2 ^ 64) then Some number else None

-- the moment that decimal digits stand for, in seconds; zeros may stand in front
abbrev pub moment_of : List ℕ → Option ℕ
moment_of [] = None
moment_of (digit ∷ digits) =
    if nat_lt most_digits (length (digit ∷ digits)) then None
    else if list_all is_ascii_digit (digit ∷ digits) then within_64_bits (digits_value 10 (digit ∷ digits))
    else None

-- a text that says something is answered by what it says, and any other by `Faulty`; memory may be wanting for both
abbrev pub Answers : {X : Type 0} → Option X → Result X LineFault → Type 0
Answers told (Ok x) = told ≡ Some x
Answers told (Err Faulty) = told ≡ None
Answers told (Err Memory) = Unit {0}

-- a line of `in`, of a line that there is: the only one for which memory is wanted
abbrev pub brings_octets_by : Tables → List (List ℕ) → Bool
brings_octets_by tables (verb ∷ name ∷ digits ∷ []) = same verb (codes "in") && is_some (line_named_of tables name)
brings_octets_by tables _ = false

abbrev pub brings_octets : Tables → List ℕ → Bool
brings_octets tables line =
    if nat_lt longest (length line) then false
    else if is_skipped line then false
    else brings_octets_by tables (words line)

-- memory is wanting
abbrev pub LacksMemory : {X : Type 0} → Result X LineFault → Type 0
LacksMemory (Ok x) = ⊥
LacksMemory (Err Faulty) = ⊥
LacksMemory (Err Memory) = Unit {0}

module _ {A : Type 0} where
  -- `up`, `down` or `expire` of a line
  abbrev pub said_of : List ℕ → Option ℕ → Option (Command A)
  said_of verb None = None
  said_of verb (Some line) =
      if same verb (codes "up") then Some (Up line)
      else if same verb (codes "down") then Some (Down line)
      else if same verb (codes "expire") then Some (Expire line)
      else None

  -- `in`: octets that come in on a line
  abbrev pub said_with : List ℕ → Option ℕ → Option (List ℕ) → Option (Command A)
  said_with verb (Some line) (Some octets) = if same verb (codes "in") then Some (In line octets) else None
  said_with verb _ _ = None

  -- `at`: the moment of the events that follow
  abbrev pub said_at : Option ℕ → Option (Command A)
  said_at None = None
  said_at (Some moment) = Some (At moment)

  -- `tables`: the subscriptions of this name come into force
  abbrev pub said_reload : Option ℕ → Option (Command A)
  said_reload None = None
  said_reload (Some number) = Some (Reload number)

  abbrev pub said_by : Tables → List NamedText → List (List ℕ) → Option (Command A)
  said_by tables named (verb ∷ name ∷ []) =
      if same verb (codes "at") then said_at (moment_of name)
      else if same verb (codes "tables") then said_reload (number_named named name)
      else said_of verb (line_named_of tables name)
  said_by tables named (verb ∷ name ∷ digits ∷ []) = said_with verb (line_named_of tables name) (octets_of digits)
  said_by tables named _ = None

  -- what a line says, if it is no fault
  abbrev pub said : Tables → List NamedText → List ℕ → Option (Command A)
  said tables named line =
      if nat_lt longest (length line) then None
      else if is_skipped line then Some Nothing
      else said_by tables named (words line)

  -- what `Command::read` answers
  abbrev pub Reads : Tables → List NamedText → List ℕ → Result (Command A) LineFault → Type 0
  Reads tables named line result = Answers (said tables named line) result

  -- the number of the subscriptions that a command brings into force
  abbrev pub reload_of : Command A → Option ℕ
  reload_of (Reload number) = Some number
  reload_of command = None

  -- every line that is named is one of so many
  abbrev pub HasLine : ℕ → Command A → Type 0
  HasLine count Nothing = Unit {0}
  HasLine count (Up line) = line < count
  HasLine count (Down line) = line < count
  HasLine count (Expire line) = line < count
  HasLine count (In line octets) = line < count
  HasLine count (At moment) = Unit {0}
  HasLine count (Reload number) = Unit {0}

  -- the subscriptions that it brings into force are of so many
  abbrev pub HasTables : ℕ → Command A → Type 0
  HasTables count (Reload number) = number < count
  HasTables count command = Unit {0}
