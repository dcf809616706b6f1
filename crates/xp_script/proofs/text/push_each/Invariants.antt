use Rattle.std.proofs.Common.{◌≡◌, ◌+◌, ◌++◌, take}
use Rattle.std.specs.Vec.{vec_capacity, vec_len}
use Rattle.xp_script.proofs.text.push_each.Given as goal

abbrev pub invariant-loop-octet : goal.invariant-loop-octet
invariant-loop-octet g l =
    (l.text.items ≡ l.fn.text.items ++ take l.octet-index l.octets)
    × (vec_capacity l.text ≡ vec_capacity l.fn.text)
    × (vec_len l.text ≡ vec_len l.fn.text + l.octet-index)
