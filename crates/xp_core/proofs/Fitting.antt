-- What is put out can be written: identifiers have twelve bits, and fields and user data are short.
use Rattle.std.proofs.Common.{◌≡◌, ℕ, ◌<◌, ◌≤◌, Bool, true, false, cond, ltb, Option, Some, None, List, [], ◌∷◌, ◌++◌, All, get_or, set, length, refl, ap, sym, subst, arith}
use Rattle.std.proofs.lemmas.Bool.{le-ltb, ltb-false}
use Rattle.std.proofs.lemmas.List.Elements.{All-nil, All-pop, All-push, All-weaker}
use Rattle.std.specs.List.{AllByRecursion}
use Rattle.xp_answer.proofs.Informing.{cleared_information, confirmed_information}
use Rattle.xp_answer.proofs.Sent.{carried_on_sent, connected_sent, incoming_call_sent}
use Rattle.xp_answer.specs.Blocks.{user_in}
use Rattle.xp_answer.specs.Fields.{CanBeSent}
use Rattle.xp_decide.proofs.Written.{told_can_be_written}
use Rattle.xp_packets.specs.declared.block.Block.{Block}
use Rattle.xp_packets.specs.declared.fault.Malformed.TheVariants.{Format, Facilities, Long}
use Rattle.xp_packets.specs.declared.modulus.Modulus.{Modulus}
use Rattle.xp_packets.specs.declared.modulus.Modulus.TheVariants.{Long as Wide}
use Rattle.xp_packets.specs.declared.packet.Packet.{Packet}
use Rattle.xp_packets.specs.declared.packet.Packet.TheVariants as packets
use Rattle.xp_packets.specs.Encodability.{encoding_fault}
use Rattle.xp_subs.specs.Sound.{IsSound}
use Rattle.xp_subs.specs.Tables.{Tables, address_of, line_count, modulus_of}
use Rattle.xp_step.specs.declared.entry.Entry.{Entry}
use Rattle.xp_step.specs.declared.event.What.{What}
use Rattle.xp_step.specs.declared.output.Output.{Output}
use Rattle.xp_machine.specs.World.{line_states, Line, World, far_end, line_at, off_line, opening}
use Rattle.xp_machine.specs.CallEnds.{line_at_end}
use Rattle.xp_machine.specs.Changes.{Change, all_changed, changed}
use Rattle.xp_step.specs.Exchange.{IsReadable}
use Rattle.xp_step.specs.Run.{Run}
use Rattle.xp_step.specs.StepContext.{StepContext, step_context}
use Rattle.xp_step.specs.Step.{Step}
use Rattle.xp_step.specs.Effects.{changes_of}
use Rattle.xp_step.specs.Table.{CallAccepted, CallRequest, ClearRequest, accepted_in, action_at, clear_in, request_in}
use Rattle.xp_step.specs.EventOutputs.{clear_indication, outputs_of, send, send_as}
use Rattle.xp_core.specs.Writable.{AreWritable, IsWritable}
use Rattle.xp_core.specs.steps.Writable.{AreReadable}
use Rattle.xp_core.proofs.Handed.{move_can}
use Rattle.xp_machine.proofs.Lines.{get_or-set, line_at-opening}
use Rattle.xp_step.proofs.Origins.{ComesOf, IsAsked, IsSent, all_come, all_sent, closing, confirming, clearing, refusing, clearing_far, carrying_on, connecting, ringing, carrying}
use Rattle.xp_step.specs.InForce.{in_force}
use Rattle.xp_step.proofs.InForce.{step_sound}
use Rattle.xp_step.proofs.RunLemmas.{run_keeps}

abbrev IsNarrow : World → Type 0
IsNarrow world = (line : ℕ) → (line_at world line).identifier < 4096

passed : {X : Type 0} (b : Bool) (x : X) (rest : Option X) → cond b (Some x) rest ≡ None → (b ≡ false) × (rest ≡ None)
passed true x rest is = absurd (cc)
passed false x rest is = (refl, is)

set_narrow : (lines : List Line) (at : ℕ) (becomes : Line) (line : ℕ) → becomes.identifier < 4096 → (get_or lines line off_line).identifier < 4096
    → (get_or (set lines at becomes) line off_line).identifier < 4096
set_narrow lines at becomes line new old = get_or-set (λ l. l.identifier < 4096) lines at becomes line off_line new old

clear_fits : (A : Type 0) (modulus : Modulus) (identifier cause diagnostic : ℕ) → identifier < 4096 → encoding_fault {A = A} modulus identifier (clear_indication cause diagnostic) ≡ None
clear_fits A modulus identifier cause diagnostic narrow = ap (λ b. cond b (Some Format) None) (le-ltb 4095 identifier (omega (arith, narrow)))

module _ {A : Type 0} where
  -- ---- what was read

  -- a call request, an answer or a clear request with a block
  block_short : (identifier : ℕ) (block : Block A)
      → cond (ltb 4095 identifier) (Some Format) (cond (ltb 109 (length block.facilities)) (Some Facilities) (cond (ltb 128 (length block.user)) (Some Long) None)) ≡ None
      → (identifier < 4096) × (length block.user ≤ 128)
  block_short identifier block fit = grind (arith, ltb-false, passed)

  request_short : (what : What A) (request : CallRequest A) → request_in what ≡ Some request → IsReadable what
      → (request.identifier < 4096) × (length request.block.user ≤ 128)
  request_short what request is readable = grind (arith, block_short)

  -- and it dials few digits
  pub request_few : (what : What A) (request : CallRequest A) → request_in what ≡ Some request → IsReadable what → length request.block.called ≤ 15
  request_few what request is readable = grind arith

  accepted_user : (identifier : ℕ) (d : Bool) (block : Option (Block A)) → encoding_fault Wide identifier (packets.Accepted d block) ≡ None → length (user_in block) ≤ 128
  accepted_user identifier d block fit = grind (arith, block_short)

  answer_short : (what : What A) (answer : CallAccepted A) → accepted_in what ≡ Some answer → IsReadable what → length (user_in answer.block) ≤ 128
  answer_short what answer is readable = grind (arith, accepted_user)

  cleared_user : (identifier cause : ℕ) (diagnostic : Option ℕ) (block : Option (Block A)) → encoding_fault Wide identifier (packets.Clear cause diagnostic block) ≡ None
      → length (user_in block) ≤ 128
  cleared_user identifier cause diagnostic block fit = grind (arith, block_short)

  clear_short : (what : What A) (clear : ClearRequest A) → clear_in what ≡ Some clear → IsReadable what → length (user_in clear.block) ≤ 128
  clear_short what clear is readable = grind (arith, cleared_user)

  -- ---- what is put out

  module _ (at : StepContext A) (what : What A) (sound : IsSound at.force) (readable : IsReadable what) (narrow : IsNarrow at.world)
      (before : AreReadable at.before) where
    abbrev Written : Output A → Type 0
    Written output = IsWritable (modulus_of at.tables output.line) output.outgoing.put

    sent_as : (line identifier : ℕ) (packet : Packet A) (output : Output A) → output ≡ send_as at.world line identifier packet → encoding_fault (modulus_of at.tables line) identifier packet ≡ None → Written output
    sent_as line identifier packet output is fit = let W : Output A → Type 0 = λ o. Written o in subst W (sym is) fit

    sent : (line : ℕ) (packet : Packet A) (output : Output A) → output ≡ send at.world line packet → CanBeSent packet → Written output
    sent line packet output is can = sent_as line _ packet output is (can.fit (modulus_of at.tables line) (line_at at.world line).identifier (omega (arith, narrow line)))

    sent_fits : (output : Output A) → IsSent at what output → Written output
    sent_fits output (closing is) = let W : Output A → Type 0 = λ o. Written o in subst W (sym is) tt
    sent_fits output (confirming information is) = sent at.line _ output is (confirmed_information A information)
    sent_fits output (clearing cause diagnostic information is) = sent at.line _ output is (cleared_information A cause diagnostic information)
    sent_fits output (refusing request why asks is) = grind (arith, clear_fits, request_short, sent_as)
    sent_fits output (clearing_far found cause diagnostic information live is) =
        sent (far_end found.1 at.line) _ output is (cleared_information A cause diagnostic information)
    sent_fits output (carrying_on found clear information packet live clears carried is) =
        sent (far_end found.1 at.line) packet output is
        (carried_on_sent found.1.setup.fast clear.cause clear.diagnostic clear.block information packet (clear_short what clear clears readable) carried)
    sent_fits output (connecting found answer connection live accepts answered is) =
        sent found.1.caller connection.packet output is
        (connected_sent found.1.setup (address_of at.force at.line) found.1.dialled answer.d answer.block answered.0 connection (answer_short what answer accepts readable) answered.2)
    sent_fits output (ringing request ring packet asks decided incoming is) =
        let written = told_can_be_written at.force (line_states at.world) at.line request.block sound (request_few what request asks readable) ring decided in
        let can = incoming_call_sent ring (address_of at.force ring.line) (address_of at.force at.line) request.d request.block packet written
        (request_short what request asks readable).1 incoming in
        sent_as ring.line 1 packet output is (can.fit (modulus_of at.tables ring.line) 1 (omega arith))
    sent_fits output (carrying carried move by in_it is) =
        let line : ℕ = line_at_end carried.call move.side in
        sent_as line _ move.packet output is (move_can at what carried move before readable by in_it (line_at at.world line).identifier (narrow line))

  -- ---- identifiers

  module _ (at : StepContext A) (what : What A) (readable : IsReadable what) where
    asked_narrow : (line identifier : ℕ) (dialled : List ℕ) → IsAsked at what line identifier dialled → identifier < 4096
    asked_narrow line identifier dialled asked = omega (arith, asked.identifier_is, (request_short what asked.request asked.asks readable).0)

    changed_narrow : (change : Change) (world : World) → ComesOf at what change → IsNarrow world → IsNarrow (changed change world)
    changed_narrow change world from narrow = grind (arith, asked_narrow, set_narrow)

    all_changed_narrow : (changes : List Change) (world : World) → AllByRecursion (ComesOf at what) changes → IsNarrow world → IsNarrow (all_changed changes world)
    all_changed_narrow [] world from narrow = narrow
    all_changed_narrow (change ∷ changes) world from narrow =
        all_changed_narrow changes (changed change world) from.1 (changed_narrow change world from.0 narrow)

  -- ---- along a run

  abbrev Fits : Tables → List (Entry A) → World → Type 0
  Fits tables before world = IsSound (in_force tables before) × (AreReadable before → IsNarrow world × All (λ entry. AreWritable tables entry.outputs) before)

  step_fits : (tables : Tables) (before : List (Entry A)) (world : World) (entry : Entry A) (next : World)
      → Fits tables before world → Step tables before world entry next → Fits tables (before ++ entry ∷ []) next
  step_fits tables before world entry next fits step = (
    step_sound tables before world entry next fits.0 step,
    λ readable.
        let at : StepContext A = step_context tables before world entry.event.line entry.event.moment in
        let parts = All-pop (λ e. IsReadable e.event.what) (before ++ entry ∷ []) before (Some entry) refl readable in
        let old : IsNarrow world × All (λ e. AreWritable tables e.outputs) before = fits.1 parts.0 in
        let N : World → Type 0 = λ w. IsNarrow w in
        let W : List (Output A) → Type 0 = λ outputs. AreWritable tables outputs in
        let from = all_come at entry.event.what (action_at world entry.event) entry.outcome step.told step.acts in
        let narrow : IsNarrow next = subst N (sym step.leads)
        (all_changed_narrow at entry.event.what parts.1 (changes_of tables before world entry) world from old.0) in
        let writable : AreWritable tables entry.outputs = subst W (sym step.outputs)
        (All-weaker (IsSent at entry.event.what) (λ output. IsWritable (modulus_of tables output.line) output.outgoing.put)
        (sent_fits at entry.event.what fits.0 parts.1 old.0 parts.0) (outputs_of step.told)
        (all_sent at entry.event.what (action_at world entry.event) entry.outcome step.told step.acts)) in
        (narrow, All-push (λ e. AreWritable tables e.outputs) before entry old.1 writable),
  )

  run_keeps_fit : (tables : Tables) (history : List (Entry A)) (world : World) → IsSound tables → Run tables history world → Fits tables history world
  run_keeps_fit tables history world sound run =
      run_keeps (Fits tables) tables (step_fits tables) [] (opening (line_count tables)) history world (
        sound,
        λ readable. (
          λ line. omega (arith, ap (λ l. l.identifier) (line_at-opening (line_count tables) line)),
          All-nil (λ entry. AreWritable tables entry.outputs),
        ),
      ) run

  pub run_fits : (tables : Tables) (history : List (Entry A)) (world : World) → IsSound tables → Run tables history world → AreReadable history
      → All (λ entry. AreWritable tables entry.outputs) history
  run_fits tables history world sound run readable = ((run_keeps_fit tables history world sound run).1 readable).1

  pub run_narrow : (tables : Tables) (history : List (Entry A)) (world : World) → IsSound tables → Run tables history world → AreReadable history → IsNarrow world
  run_narrow tables history world sound run readable = ((run_keeps_fit tables history world sound run).1 readable).0
