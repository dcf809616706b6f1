-- That no more incoming calls expire than were written.
use Rattle.std.proofs.Common.{◌≡◌, ℕ, ◌+◌, ◌≤◌, ◌==◌, List, [], ◌∷◌, ◌++◌, refl, sym, subst, ap, Bool, true, false, cond, Option, None, Some, arith}
use Rattle.xp_packets.specs.declared.packet.Packet.{Packet}
use Rattle.xp_packets.specs.declared.packet.Packet.TheVariants as packets
use Rattle.xp_step.specs.declared.event.What.{What}
use Rattle.xp_step.specs.declared.output.Outgoing.{Outgoing}
use Rattle.xp_step.specs.declared.output.Put.{Put}
use Rattle.xp_step.specs.declared.output.Put.TheVariants.{Send, Close}
use Rattle.xp_lines.specs.AnswerTimer.{Expires, answered, expiry, has_expired, since_after, since_after_put, since_after_all}
use Rattle.xp_lines.specs.Together.{calls, calls_by, calls_of, expiries, is_no_expiry, waits}
use Rattle.xp_lines.proofs.Sums.{HasNoExpiry}

answered_few : (sent : Bool) (since : Option ℕ) → waits (answered sent since) ≤ waits since
answered_few true since = omega arith
answered_few false since = omega arith

late_few : (A : Type 0) (now : ℕ) (since : Option ℕ) (late : Bool) → late ≡ has_expired now since → expiries {A = A} (expiry late) + waits (answered late since) ≤ waits since
late_few A now None true is = absurd (let both : true ≡ false = is in cc)
late_few A now None false is = omega arith
late_few A now (Some since) true is = omega arith
late_few A now (Some since) false is = omega arith

module _ {A : Type 0} where
  rings_few : (now : ℕ) (since : Option ℕ) (packet : Packet A) → waits (since_after now since packet) ≤ waits since + calls_of packet
  rings_few now since (packets.Call d block) = omega arith
  rings_few now since (packets.Accepted d block) = omega arith
  rings_few now since (packets.Clear cause diagnostic block) = omega arith
  rings_few now since (packets.ClearConfirm block) = omega arith
  rings_few now since (packets.DataPacket q d more ps pr octets) = omega arith
  rings_few now since (packets.Ready pr) = omega arith
  rings_few now since (packets.NotReady pr) = omega arith
  rings_few now since (packets.Reject pr) = omega arith
  rings_few now since (packets.Interrupt octets) = omega arith
  rings_few now since packets.InterruptConfirm = omega arith
  rings_few now since (packets.Reset cause diagnostic) = omega arith
  rings_few now since packets.ResetConfirm = omega arith

  put_few : (now : ℕ) (since : Option ℕ) (put : Put A) → waits (since_after_put now since put) ≤ waits since + calls_by put
  put_few now since (Send identifier packet) = rings_few now since packet
  put_few now since Close = omega arith

  item_few : (own_entries : Bool) (now : ℕ) (since : Option ℕ) (put : Put A) → waits (cond own_entries (since_after_put now since put) since) ≤ waits since + cond own_entries (calls_by put) 0
  item_few true now since put = put_few now since put
  item_few false now since put = omega arith

  -- what is written makes no more calls wait than it has
  pub rung_few : (now connection : ℕ) (since : Option ℕ) (items : List (Outgoing A)) → waits (since_after_all now connection since items) ≤ waits since + calls connection items
  rung_few now connection since [] = omega arith
  rung_few now connection since (item ∷ items) =
      let own_entries : Bool = item.connection == connection in
      let next : Option ℕ = cond own_entries (since_after_put now since item.put) since in
      let one : waits next ≤ waits since + cond own_entries (calls_by item.put) 0 = item_few own_entries now since item.put in
      let rest : waits (since_after_all now connection next items) ≤ waits next + calls connection items = rung_few now connection next items in
      omega (arith, one, rest)

  -- a call that expires waits no more
  pub lapses_few : (now : ℕ) (sent : Bool) (since : Option ℕ) (expired : List (What A)) (after : Option ℕ) → Expires true now (answered sent since) expired after → expiries expired + waits after ≤ waits since
  lapses_few now sent since expired after lapses =
      let told : expiries expired ≡ expiries (expiry {A = A} (has_expired now (answered sent since))) = ap expiries lapses.0 in
      let left : waits after ≡ waits (answered (has_expired now (answered sent since)) (answered sent since)) = ap waits lapses.1 in
      let few = late_few A now (answered sent since) (has_expired now (answered sent since)) refl in
      let fewer = answered_few sent since in
      omega (arith, told, left, few, fewer)

  pub expiries_both : (whats others : List (What A)) → expiries (whats ++ others) ≡ expiries whats + expiries others
  expiries_both [] others = omega arith
  expiries_both (what ∷ whats) others =
      let rest : expiries (whats ++ others) ≡ expiries whats + expiries others = expiries_both whats others in omega (arith, rest)

  pub calls_both : (connection : ℕ) (items others : List (Outgoing A)) → calls connection (items ++ others) ≡ calls connection items + calls connection others
  calls_both connection [] others = omega arith
  calls_both connection (item ∷ items) others =
      let rest : calls connection (items ++ others) ≡ calls connection items + calls connection others = calls_both connection items others in omega (arith, rest)

  pub no_expiries : (whats : List (What A)) → HasNoExpiry whats → expiries whats ≡ 0
  no_expiries [] none = refl
  no_expiries (what ∷ whats) none =
      let one : ◌≡◌ {A = ℕ} (cond (is_no_expiry what) 0 1) 0 = subst (λ is. ◌≡◌ {A = ℕ} (cond is 0 1) 0) (sym none.0) refl in
      let rest : expiries whats ≡ 0 = no_expiries whats none.1 in
      omega (arith, one, rest)
