use Rattle.std.proofs.Common.{◌≡◌, ◌*◌, ◌≤◌, sum, take}
use Rattle.xp_capture.proofs.words.sum_of_words.Given as goal

-- the words so far are added, none above 65,535
abbrev pub invariant-loop-word : goal.invariant-loop-word
invariant-loop-word l = (l.sum ≡ sum (take l.word-index l.words)) × (l.sum ≤ 65_535 * l.word-index)
