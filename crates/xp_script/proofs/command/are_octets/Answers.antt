use Rattle.std.proofs.Common.{◌≡◌, ◌∙◌, ◌<◌, ◌%◌, [], arith, length, sym}
use Rattle.std.proofs.lemmas.Grind.{common_steps}
use Rattle.xp_script.proofs.DigitLemmas.{octets_of-empty, octets_of-odd, octets_of-pairs}
use Rattle.xp_script.proofs.command.are_octets.Goals as goal
use Rattle.xp_script.proofs.command.are_octets.Goals.{then-not-is_empty, else-not-is_empty}

pub returns-then-text-eq0 : goal.returns-then-text-eq0
returns-then-text-eq0 c = elim c.if-not-is_empty.branch [
  | then-not-is_empty w ↦
      let some : 0 < length c.args.text.now = grind (arith, common_steps) in
      let even : length c.args.text.now % 2 ≡ 0 = grind (arith, common_steps) in
      c.are_digits.ensures ∙ octets_of-pairs c.args.text.now some even
  | else-not-is_empty w ↦ absurd (grind (arith, common_steps))
]

pub returns-else-text-eq0 : goal.returns-else-text-eq0
returns-else-text-eq0 c = elim c.if-not-is_empty.branch [
  | then-not-is_empty w ↦
      let odd : length c.args.text.now % 2 ≡ 1 = grind (arith, common_steps) in
      c.if-text-eq0.false ∙ sym (octets_of-odd c.args.text.now odd)
  | else-not-is_empty w ↦
      let empty : c.args.text.now ≡ [] = grind (arith, common_steps) in
      c.if-text-eq0.false ∙ sym (octets_of-empty c.args.text.now empty)
]
