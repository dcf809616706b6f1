-- Why no connection can be accepted for a while.
use Rattle.std.specs.Prelude.{◌≡◌, ◌⊎◌, ℤ, Option, Some, pos}

-- the system's errors that memory, descriptors or buffers are wanting: ENOMEM, ENFILE, EMFILE and ENOBUFS of Linux
abbrev pub IsWant : Option ℤ → Type 0
IsWant code = (code ≡ Some (pos 12)) ⊎ (code ≡ Some (pos 23)) ⊎ (code ≡ Some (pos 24)) ⊎ (code ≡ Some (pos 105))
