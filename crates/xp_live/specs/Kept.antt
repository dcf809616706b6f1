-- What a file of live calls holds (`IsKept`): the calls that were seen to be live at one moment.
use Rattle.std.specs.Prelude.{◌≡◌, ◌⊎◌, ℕ, List, []}
use Rattle.std.specs.declared.alloc.Global.{Global as Alloc}
use Rattle.xp_cdr.specs.declared.ended.EndedCall.{EndedCall}
use Rattle.xp_cdr.specs.declared.run.ExchangeRun.{ExchangeRun}
use Rattle.xp_live.specs.LiveCalls.{live_calls}
use Rattle.xp_live.specs.LiveText.{live_text}
use Rattle.xp_sink.specs.Seen.{IsSeenOf}
use Rattle.xp_subs.specs.Tables.{Tables, line_count}
use Rattle.xp_view.specs.declared.view.ExchangeView.{ExchangeView}

-- what keeps live calls: the subscriptions with which the exchange was opened, and those by which it tells them, which have as many
-- lines
pub record Naming : Type 0 where
  pub opening : Tables
  pub names : Tables

-- the live calls of an exchange, as it was seen, cut off at a moment
pub record AreSeen (naming : Naming) (calls : List EndedCall) : Type 0 where
  pub view : ExchangeView Alloc
  pub seen : IsSeenOf naming.opening view
  pub lines : line_count naming.names ≡ line_count naming.opening
  pub moment : ℕ
  pub calls_are : calls ≡ live_calls naming.names moment view.lines.items

-- The text of a file of live calls, of an exchange in a run of it. It has no call where a run begins or has ended.
pub record IsKept (text : List ℕ) : Type 0 where
  pub run : ExchangeRun
  pub calls : List EndedCall
  pub are : (calls ≡ []) ⊎ ((naming : Naming) × AreSeen naming calls)
  pub text_is : text ≡ live_text run calls
