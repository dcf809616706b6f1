use Rattle.std.proofs.Common.{◌≡◌, ◌++◌, false, map, nat_lt, string_bytes, drop}
use Rattle.serde_json.specs.View.{items_of}
use Rattle.serde_json.specs.Written.{items_text}
use Rattle.xp_console.proofs.json_text.push_array.Given as goal

-- with those that are left it becomes the text of all
abbrev pub invariant-loop-number : goal.invariant-loop-number
invariant-loop-number g l =
    string_bytes l.text ++ items_text (nat_lt 0 l.number) (items_of (map g.T.Item.shown (drop l.number l.items)))
    ≡ string_bytes l.fn.text ++ (l.before ++ items_text false (items_of (map g.T.Item.shown l.fn.items)))
