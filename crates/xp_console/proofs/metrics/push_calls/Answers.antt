use Rattle.std.proofs.Common.{◌≡◌, ◌++◌, arith, codes, length, string_bytes, subst}
use Rattle.xp_console.specs.Metrics.{calls_text, live_text, single_text}
use Rattle.xp_console.proofs.Appends.{then_appended}
use Rattle.xp_console.proofs.metrics.push_calls.Goals as goal

pub returns : goal.returns
unfolding calls_text live_text
returns c =
    let old = string_bytes c.args.text.now in
    let new = string_bytes c.push_single.new.text in
    let live : c.len.result ≡ length c.args.status.now.calls.items = omega arith in
    then_appended c.push_single-2.result _ _ _ _ _
    (subst (λ count. new ≡ old ++ single_text (codes "gonukire_calls_live") (codes "gauge") (codes "Calls that have not ended.") count) live c.in_ok-push_single.ensures)
    c.push_single-2.ensures
