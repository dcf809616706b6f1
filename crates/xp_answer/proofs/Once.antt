-- An answer has one outcome, and a clear request one indication.
use Rattle.std.proofs.Common.{◌≡◌, ℕ, Bool, true, List, [], Option, Some, sym, ◌∙◌, ap, subst, inl, inr}
use Rattle.std.proofs.lemmas.Bool.{false≢true}
use Rattle.xp_causes.specs.Indicated.{indicated_cause, indicated_diagnostic}
use Rattle.xp_decide.specs.declared.verdict.IncomingCall.{IncomingCall}
use Rattle.xp_facilities.proofs.OneReading.{Means-unique, Means-faultless, IsFaulty-unique}
use Rattle.xp_facilities.specs.Indicated.{Indicates}
use Rattle.xp_facilities.specs.declared.requested.RequestedFacilities.{RequestedFacilities}
use Rattle.xp_facilities.specs.declared.fast_select.FastSelect.{FastSelect}
use Rattle.xp_facilities.specs.declared.fault.FacilityFault.{FacilityFault}
use Rattle.xp_facilities.specs.declared.fault.FacilityFault.TheVariants.{Length, Code, Param, Memory}
use Rattle.xp_facilities.specs.declared.redirection.Reason.{Reason}
use Rattle.xp_facilities.specs.declared.charging_information.ChargingInformation.{ChargingInformation}
use Rattle.xp_packets.specs.declared.block.Block.{Block}
use Rattle.xp_packets.specs.declared.packet.Packet.{Packet}
use Rattle.xp_packets.specs.declared.packet.Packet.TheVariants.{Call, Accepted, Clear}
use Rattle.xp_answer.proofs.Sent.{tells_same}
use Rattle.xp_answer.specs.Answered.{Names, IsDiagnosedBy, MayCarry, MayNotCarry, Accepts, Declines, Connects, Answered, outputs_of_answer}
use Rattle.xp_answer.specs.Answered as answered
use Rattle.xp_answer.specs.Blocks.{facilities_in, user_in}
use Rattle.xp_answer.specs.ForwardedClear.{ForwardedClear, Carries, TakesOver, told_cleared, block_with}
use Rattle.xp_answer.specs.ForwardedClear as carried
use Rattle.xp_answer.specs.Incoming.{IsIncomingCall}
use Rattle.xp_answer.specs.Terms.{are_offered}
use Rattle.xp_answer.specs.declared.answer.Answer.{Answer}
use Rattle.xp_answer.specs.declared.answer.Answer.TheVariants.{Connected, Refused}
use Rattle.xp_answer.specs.declared.connection.Connection.{Connection}
use Rattle.xp_answer.specs.declared.setup.Setup.{Setup}

-- ---- what is told of the called line

names_same : (address dialled : List ℕ) (reason : Option Reason) (called other : List ℕ) (modified why : Option Reason)
    → Names address dialled reason called modified → Names address dialled reason other why → (called ≡ other) × (modified ≡ why)
names_same address dialled reason called other modified why (answered.as_dialled _ a b) (answered.as_dialled _ c d) = (a ∙ sym c, b ∙ sym d)
names_same address dialled reason called other modified why (answered.as_dialled same _ _) (answered.another differs _ _) = absurd (differs same)
names_same address dialled reason called other modified why (answered.another differs _ _) (answered.as_dialled same _ _) = absurd (differs same)
names_same address dialled reason called other modified why (answered.another _ a b) (answered.another _ c d) = (a ∙ sym c, b ∙ sym d)

diagnosed_same : (fault : FacilityFault) (one other : ℕ) → IsDiagnosedBy fault one → IsDiagnosedBy fault other → one ≡ other
diagnosed_same Length one other first second = first ∙ sym second
diagnosed_same Code one other first second = first ∙ sym second
diagnosed_same Param one other first second = first ∙ sym second
diagnosed_same Memory one other first second = absurd first

module _ {A : Type 0} where
  carry_or_not : (fast : FastSelect) (block : Option (Block A)) → MayCarry fast block → MayNotCarry fast block → ⊥
  carry_or_not fast block (inl none) not = not.0 none
  carry_or_not fast block (inr selected) not = false≢true (sym not.1 ∙ selected)

  accepted_or_declined : (setup : Setup) (block : Option (Block A)) (asked : RequestedFacilities A) (diagnostic : ℕ)
      → Accepts setup block asked → Declines setup block diagnostic → ⊥
  accepted_or_declined setup block asked diagnostic accepts (answered.restricted is _) = accepts.unrestricted is
  accepted_or_declined setup block asked diagnostic accepts (answered.faulty fault _ faulty _) =
      Means-faultless (facilities_in block) asked fault accepts.means faulty
  accepted_or_declined setup block asked diagnostic accepts (answered.user_data _ _ _ not _) = carry_or_not setup.fast block accepts.carries not
  accepted_or_declined setup block asked diagnostic accepts (answered.not_offered other _ means _ not _) =
      let same = Means-unique (facilities_in block) asked other accepts.means means in
      false≢true (sym not ∙ subst (λ a. are_offered setup.indicated a ≡ true) same accepts.offered)

  declines_same : (setup : Setup) (block : Option (Block A)) (one other : ℕ) → Declines setup block one → Declines setup block other → one ≡ other
  declines_same setup block one other (answered.restricted _ a) (answered.restricted _ b) = a ∙ sym b
  declines_same setup block one other (answered.restricted is _) (answered.faulty _ not _ _) = absurd (not is)
  declines_same setup block one other (answered.restricted is _) (answered.user_data _ not _ _ _) = absurd (not is)
  declines_same setup block one other (answered.restricted is _) (answered.not_offered _ not _ _ _ _) = absurd (not is)
  declines_same setup block one other (answered.faulty _ not _ _) (answered.restricted is _) = absurd (not is)
  declines_same setup block one other (answered.faulty fault _ first a) (answered.faulty fault' _ second b) =
      let same = IsFaulty-unique (facilities_in block) fault fault' first second in
      diagnosed_same fault' one other (subst (λ f. IsDiagnosedBy f one) same a) b
  declines_same setup block one other (answered.faulty fault _ faulty _) (answered.user_data asked _ means _ _) =
      absurd (Means-faultless (facilities_in block) asked fault means faulty)
  declines_same setup block one other (answered.faulty fault _ faulty _) (answered.not_offered asked _ means _ _ _) =
      absurd (Means-faultless (facilities_in block) asked fault means faulty)
  declines_same setup block one other (answered.user_data _ not _ _ _) (answered.restricted is _) = absurd (not is)
  declines_same setup block one other (answered.user_data asked _ means _ _) (answered.faulty fault _ faulty _) =
      absurd (Means-faultless (facilities_in block) asked fault means faulty)
  declines_same setup block one other (answered.user_data _ _ _ _ a) (answered.user_data _ _ _ _ b) = a ∙ sym b
  declines_same setup block one other (answered.user_data _ _ _ not _) (answered.not_offered _ _ _ may _ _) = absurd (carry_or_not setup.fast block may not)
  declines_same setup block one other (answered.not_offered _ not _ _ _ _) (answered.restricted is _) = absurd (not is)
  declines_same setup block one other (answered.not_offered asked _ means _ _ _) (answered.faulty fault _ faulty _) =
      absurd (Means-faultless (facilities_in block) asked fault means faulty)
  declines_same setup block one other (answered.not_offered _ _ _ may _ _) (answered.user_data _ _ _ not _) = absurd (carry_or_not setup.fast block may not)
  declines_same setup block one other (answered.not_offered _ _ _ _ _ a) (answered.not_offered _ _ _ _ _ b) = a ∙ sym b

  same_connection : (one other : Connection A) → one.packet ≡ other.packet → one.terms ≡ other.terms → one.charging ≡ other.charging → one ≡ other
  same_connection one other p t c = λ i. record { packet = p i; terms = t i; charging = c i }

  connects_same : (setup : Setup) (address dialled : List ℕ) (d : Bool) (block : Option (Block A)) (asked : RequestedFacilities A) (one other : Connection A)
      → Connects setup address dialled d block asked one → Connects setup address dialled d block asked other → one ≡ other
  connects_same setup address dialled d block asked one other first second =
      let names = names_same address dialled setup.reason first.called second.called first.modified second.modified first.names second.names in
      let tells = subst (λ modified. Indicates (outputs_of_answer setup modified asked) first.field) names.1 first.tells in
      let field = tells_same (outputs_of_answer setup second.modified asked) first.field second.field tells second.tells in
      let packet : List ℕ → List ℕ → Packet A = λ called field. Accepted d (Some (record { called = called; calling = []; facilities = field; user = user_in block })) in
      same_connection one other
      (first.packet ∙ ap (λ called. packet called first.field) names.0 ∙ ap (λ field. packet second.called field) field ∙ sym second.packet)
      (first.terms ∙ sym second.terms)
      (first.charging ∙ sym second.charging)

  pub answers_same : (setup : Setup) (address dialled : List ℕ) (d : Bool) (block : Option (Block A)) (one other : Answer A)
      → Answered setup address dialled d block one → Answered setup address dialled d block other → one ≡ other
  answers_same setup address dialled d block (Connected one) (Connected other) (asked, accepts, connects) (asked', accepts', connects') =
      let same = Means-unique (facilities_in block) asked asked' accepts.means accepts'.means in
      ap Connected (connects_same setup address dialled d block asked' one other
      (subst (λ a. Connects setup address dialled d block a one) same connects) connects')
  answers_same setup address dialled d block (Connected one) (Refused other) (asked, accepts, connects) declines =
      absurd (accepted_or_declined setup block asked other accepts declines)
  answers_same setup address dialled d block (Refused one) (Connected other) declines (asked, accepts, connects) =
      absurd (accepted_or_declined setup block asked one accepts declines)
  answers_same setup address dialled d block (Refused one) (Refused other) first second = ap Refused (declines_same setup block one other first second)

  pub incoming_call_same : (ring : IncomingCall A) (called calling : List ℕ) (d : Bool) (block : Block A) (one other : Packet A)
      → IsIncomingCall ring called calling d block one → IsIncomingCall ring called calling d block other → one ≡ other
  incoming_call_same ring called calling d block one other first second =
      let field = tells_same ring.told first.field second.field first.tells second.tells in
      let packet : List ℕ → Packet A = λ field. Call d (record { called = called; calling = calling; facilities = field; user = block.user }) in
      first.whole ∙ ap packet field ∙ sym second.whole

-- ---- what goes on of a clear request

taken_over_same : (A : Type 0) (field one other : List ℕ) → TakesOver A field one → TakesOver A field other → one ≡ other
taken_over_same A field one other (carried.read asked means a) (carried.read asked' means' b) =
    a ∙ ap (λ x. x.dte) (Means-unique field asked asked' means means') ∙ sym b
taken_over_same A field one other (carried.read asked means _) (carried.faulty fault faulty _) = absurd (Means-faultless field asked fault means faulty)
taken_over_same A field one other (carried.faulty fault faulty _) (carried.read asked means _) = absurd (Means-faultless field asked fault means faulty)
taken_over_same A field one other (carried.faulty _ _ a) (carried.faulty _ _ b) = a ∙ sym b

module _ {A : Type 0} where
  carries_same : (fast : FastSelect) (block : Option (Block A)) (user user' dte dte' : List ℕ)
      → Carries fast block user dte → Carries fast block user' dte' → (user ≡ user') × (dte ≡ dte')
  carries_same fast block user user' dte dte' (carried.nothing _ a b) (carried.nothing _ c d) = (a ∙ sym c, b ∙ sym d)
  carries_same fast block user user' dte dte' (carried.nothing not _ _) (carried.both selected _ _) = absurd (false≢true (sym not ∙ selected))
  carries_same fast block user user' dte dte' (carried.both selected _ _) (carried.nothing not _ _) = absurd (false≢true (sym not ∙ selected))
  carries_same fast block user user' dte dte' (carried.both _ a b) (carried.both _ c d) =
      (a ∙ sym c, taken_over_same A (facilities_in block) dte dte' b d)

  pub indications_same : (fast : FastSelect) (cause : ℕ) (diagnostic : Option ℕ) (block : Option (Block A)) (charging : Option ChargingInformation) (one other : Packet A)
      → ForwardedClear fast cause diagnostic block charging one → ForwardedClear fast cause diagnostic block charging other → one ≡ other
  indications_same fast cause diagnostic block charging one other first second =
      let same = carries_same fast block first.user second.user first.dte second.dte first.carries second.carries in
      let tells = subst (λ dte. Indicates (told_cleared {A = A} charging dte) first.field) same.1 first.tells in
      let field = tells_same (told_cleared {A = A} charging second.dte) first.field second.field tells second.tells in
      let packet : List ℕ → List ℕ → Packet A = λ field user. Clear (indicated_cause cause) (Some (indicated_diagnostic diagnostic)) (block_with field user) in
      first.whole ∙ ap (λ field. packet field first.user) field ∙ ap (λ user. packet second.field user) same.0 ∙ sym second.whole
