-- For private steps. The lines of a live file as they are kept and read, and the records that were seen so far.
use Rattle.std.specs.Prelude.{◌≡◌, ◌++◌, All, List, None, Option, Some, map, true, ℕ}
use Rattle.std.specs.List.{list_all}
use Rattle.xp_live.specs.LeftCalls.{call_name, is_partial_line, left_behind, lines_of}
use Rattle.xp_live.specs.declared.left_calls.LiveLine.{LiveLine}

abbrev pub text_in : LiveLine → List ℕ
text_in line = line.text.items

-- what a reader had and has left, where that is known: the lines that are left would be the same
abbrev pub AreSeen : Option (List ℕ) → Option (List ℕ) → List (List ℕ) → List (List ℕ) → Type 0
AreSeen None rest first left = Unit {0}
AreSeen (Some text) None first left = ⊥
AreSeen (Some text) (Some rest) first left = left_behind text first ≡ left_behind rest left

-- the lines of a text before its rest were read, and each is one of a live file
pub record AreRead (text rest : List ℕ) (lines : List LiveLine) : Type 0 where
  pub whole : lines_of text ≡ map text_in lines ++ lines_of rest
  pub partial : list_all is_partial_line (map text_in lines) ≡ true
  pub named : All (λ line. line.name.items ≡ call_name line.text.items) lines
