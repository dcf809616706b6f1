use Rattle.std.proofs.Common.{◌≡◌, ◌-◌, take, map}
use Rattle.xp_packets.proofs.digits.Digits.from_text.Given as goal

abbrev pub invariant-loop-character : goal.invariant-loop-character
invariant-loop-character l = l.digits ≡ map (λ character. character - 48) (take l.character-index l.character-items)
