-- The calls of one line more.
use Rattle.std.proofs.Common.{◌≡◌, ◌∙◌, ℕ, suc, ◌+◌, ◌<◌, ◌&&◌, arith, eqb, is_some, ltb, true, Option, Some, List, ◌++◌, ap, sym, slice_get, option_to_list}
use Rattle.std.proofs.lemmas.Bool.{and_parts, ltb-true}
use Rattle.xp_cdr.specs.declared.ended.EndedCall.{EndedCall}
use Rattle.xp_core.specs.declared.call_view.CallView.{CallView}
use Rattle.xp_live.specs.LiveCalls.{is_live, live_call, live_call_at, live_calls_of}
use Rattle.xp_subs.specs.Tables.{Tables}
use Rattle.xp_view.specs.declared.view.LineWithCall.{LineWithCall}

next : (line : ℕ) → suc line ≡ line + 1
next line = omega arith

-- one line more
pub one_more : (tables : Tables) (moment line : ℕ) (seen : List LineWithCall) (at : LineWithCall) (found : Option EndedCall) (calls : List EndedCall)
    → slice_get seen line ≡ Some at → option_to_list found ≡ live_call tables moment line at.call → calls ≡ live_calls_of tables moment seen line
    → calls ++ option_to_list found ≡ live_calls_of tables moment seen (line + 1)
one_more tables moment line seen at found calls at_is found_is are =
    ap (λ all. all ++ option_to_list found) are
    ∙ ap (λ more. live_calls_of tables moment seen line ++ more) (found_is ∙ sym (ap (live_call_at tables moment line) at_is))
    ∙ ap (live_calls_of tables moment seen) (next line)

-- what is known of a live call
pub live_parts : (lines line : ℕ) (call : CallView) → is_live lines line call ≡ true → (call.caller < lines) × (call.called < lines)
live_parts lines line call live =
    let here = is_some call.connected && eqb call.caller line in
    let called = and_parts (here && ltb call.caller lines) (ltb call.called lines) live in
    let caller = and_parts here (ltb call.caller lines) called.0 in
    (ltb-true call.caller lines caller.1, ltb-true call.called lines called.1)
