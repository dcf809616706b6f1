use Rattle.std.proofs.Common.{◌≡◌, ◌+◌, ◌*◌, ◌++◌, length, take}
use Rattle.xp_capture.specs.Segment.{octets_of_words}
use Rattle.xp_capture.proofs.words.push_words.Given as goal

-- the words so far are appended
abbrev pub invariant-loop-word : goal.invariant-loop-word
invariant-loop-word l =
    (l.head.items ≡ l.initial.head.items ++ octets_of_words (take l.word-index l.words))
    × (length l.head.items ≡ length l.initial.head.items + 2 * l.word-index)
