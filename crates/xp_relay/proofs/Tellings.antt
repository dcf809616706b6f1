-- What moves tell an end of flow control, and the interrupts that they bring to it.
use Rattle.std.proofs.Common.{◌≡◌, ℕ, suc, Bool, true, false, not, ◌&&◌, cond, List, [], ◌∷◌, ◌++◌, append_assoc, All, drop, map, option_to_list, Option, Some, None, refl, sym, ap, ◌∙◌}
use Rattle.std.proofs.lemmas.Bool.{and_from, cond_both, cond-true, not_from_false}
use Rattle.std.proofs.lemmas.List.Elements.{All-append, All-cons, All-nil, All-same}
use Rattle.xp_packets.specs.Numbers.{numbers}
use Rattle.xp_packets.specs.declared.end.End.{End}
use Rattle.xp_packets.specs.declared.packet.Packet.{Packet}
use Rattle.xp_packets.specs.declared.packet.Packet.TheVariants.{DataPacket, Ready, NotReady, Interrupt}
use Rattle.xp_relay.specs.declared.data.Data.{Data}
use Rattle.xp_relay.specs.declared.moves.Move.{Move}
use Rattle.xp_relay.specs.Contents.{interrupt_in, interrupts_to, last_count, numbers_in, numbers_to, ready_after, ready_told, same_end}
use Rattle.xp_relay.specs.Direction.{Direction, far, is_open, numbered, received_number, released, to}
use Rattle.xp_relay.specs.Turns.{flow_notice, flow_packet, indicating, indication, interrupts, not_ready_notice}
use Rattle.xp_relay.proofs.Runs.{same_self}

pub last_count-append : (count : ℕ) (xs ys : List (ℕ × ℕ)) → last_count count (xs ++ ys) ≡ last_count (last_count count xs) ys
last_count-append count [] ys = refl
last_count-append count (told ∷ xs) ys = last_count-append told.1 xs ys

-- after some P(R) that are told with one count, that is the last
pub last_told : (count before number : ℕ) (more : List ℕ) → last_count before (map (λ n. (n, count)) (number ∷ more)) ≡ count
last_told count before number [] = refl
last_told count before number (next ∷ more) = last_told count count next more

pub append_none : {X : Type 0} (xs ys : List X) → xs ++ ys ≡ [] → (xs ≡ []) × (ys ≡ [])
append_none [] ys e = (refl, e)
append_none (x ∷ xs) ys e = absurd (cc)

abbrev Is : ℕ → ℕ → Type 0
Is number n = n ≡ number

numbers_interrupting : (A : Type 0) (e side : End) (octets : Option (List ℕ)) → numbers_to e (interrupts {A = A} side octets) ≡ []
numbers_interrupting A e side None = refl
numbers_interrupting A e side (Some octets) = refl

pub ready_interrupting : (A : Type 0) (e side : End) (octets : Option (List ℕ)) (b : Bool) → ready_told e (interrupts {A = A} side octets) b ≡ b
ready_interrupting A e side None b = refl
ready_interrupting A e side (Some octets) b = refl

pub ready_flow : (A : Type 0) (side : End) (ready : Bool) (number : ℕ) (b : Bool) → ready_told {A = A} side (to side (flow_packet ready number) ∷ []) b ≡ ready
ready_flow A side true number b = ap (λ mine. cond mine true b) (same_self side)
ready_flow A side false number b = ap (λ mine. cond mine false b) (same_self side)

pub numbers_flow : (A : Type 0) (side : End) (ready : Bool) (number : ℕ) → numbers_to {A = A} side (to side (flow_packet ready number) ∷ []) ≡ number ∷ []
numbers_flow A side true number = ap (λ mine. cond mine (number ∷ []) [] ++ []) (same_self side)
numbers_flow A side false number = ap (λ mine. cond mine (number ∷ []) [] ++ []) (same_self side)

-- the octets of an interrupt that goes to its end
pub interrupts_here : (A : Type 0) (side : End) (octets : Option (List ℕ)) → interrupts_to {A = A} side (interrupts side octets) ≡ option_to_list octets
interrupts_here A side None = refl
interrupts_here A side (Some octets) = ap (λ mine. cond mine (octets ∷ []) [] ++ []) (same_self side)

one_number : (mine : Bool) (number : ℕ) → All (Is number) (cond mine (number ∷ []) [] ++ [])
one_number true number = All-cons (Is number) number [] refl (All-nil (Is number))
one_number false number = All-nil (Is number)

pub tells_interrupting : (A : Type 0) (e side : End) (number : ℕ) (octets : Option (List ℕ)) → All (Is number) (numbers_to e (interrupts {A = A} side octets))
tells_interrupting A e side number octets = All-same (Is number) _ [] (numbers_interrupting A e side octets) (All-nil (Is number))

module _ {A : Type 0} where
  pub numbers_none : (packet : Packet A) → numbers_in false packet ≡ []
  numbers_none (DataPacket q d more ps pr octets) = refl
  numbers_none (Ready pr) = refl
  numbers_none (NotReady pr) = refl
  numbers_none _ = refl

  pub ready_still : (packet : Packet A) (ready : Bool) → ready_after false packet ready ≡ ready
  ready_still (Ready pr) ready = refl
  ready_still (NotReady pr) ready = refl
  ready_still _ ready = refl

  pub interrupt_none : (packet : Packet A) → interrupt_in false packet ≡ []
  interrupt_none (Interrupt octets) = refl
  interrupt_none _ = refl

  pub numbers_to-append : (e : End) (xs ys : List (Move A)) → numbers_to e (xs ++ ys) ≡ numbers_to e xs ++ numbers_to e ys
  numbers_to-append e [] ys = refl
  numbers_to-append e (m ∷ xs) ys =
      ap (λ others. numbers_in (same_end e m.side) m.packet ++ others) (numbers_to-append e xs ys)
      ∙ sym (append_assoc (numbers_in (same_end e m.side) m.packet) (numbers_to e xs) (numbers_to e ys))

  pub interrupts_to-append : (e : End) (xs ys : List (Move A)) → interrupts_to e (xs ++ ys) ≡ interrupts_to e xs ++ interrupts_to e ys
  interrupts_to-append e [] ys = refl
  interrupts_to-append e (m ∷ xs) ys =
      ap (λ others. interrupt_in (same_end e m.side) m.packet ++ others) (interrupts_to-append e xs ys)
      ∙ sym (append_assoc (interrupt_in (same_end e m.side) m.packet) (interrupts_to e xs) (interrupts_to e ys))

  pub ready_told-append : (e : End) (xs ys : List (Move A)) (ready : Bool) → ready_told e (xs ++ ys) ready ≡ ready_told e ys (ready_told e xs ready)
  ready_told-append e [] ys ready = refl
  ready_told-append e (m ∷ xs) ys ready = ready_told-append e xs ys (ready_after (same_end e m.side) m.packet ready)

  -- ---- moves that tell an end nothing, and bring it no interrupt

  pub record IsSilent (e : End) (made : List (Move A)) : Type 0 where
    pub untold : numbers_to e made ≡ []
    pub ready : (b : Bool) → ready_told e made b ≡ b
    pub interrupts : interrupts_to e made ≡ []

  pub silent_none : (e : End) → IsSilent e []
  silent_none e = record { untold = refl; ready = λ b. refl; interrupts = refl }

  pub silent-append : (e : End) (xs ys : List (Move A)) → IsSilent e xs → IsSilent e ys → IsSilent e (xs ++ ys)
  silent-append e xs ys h k = record {
    untold = numbers_to-append e xs ys ∙ ap (λ ns. ns ++ numbers_to e ys) h.untold ∙ k.untold;
    ready = λ b. ready_told-append e xs ys b ∙ k.ready (ready_told e xs b) ∙ h.ready b;
    interrupts = interrupts_to-append e xs ys ∙ ap (λ is. is ++ interrupts_to e ys) h.interrupts ∙ k.interrupts;
  }

  -- a packet for the other end
  silent_other : (e side : End) (packet : Packet A) → same_end e side ≡ false → IsSilent e (to side packet ∷ [])
  silent_other e side packet other = record {
    untold = ap (λ mine. numbers_in mine packet ++ []) other ∙ ap (λ ns. ns ++ []) (numbers_none packet);
    ready = λ b. ap (λ mine. ready_after mine packet b) other ∙ ready_still packet b;
    interrupts = ap (λ mine. interrupt_in mine packet ++ []) other ∙ ap (λ is. is ++ []) (interrupt_none packet);
  }

  silent_numbered : (e side : End) (m pr count : ℕ) (xs : List (Data A)) → same_end e side ≡ false → IsSilent e (numbered side m pr count xs)
  silent_numbered e side m pr count [] other = silent_none e
  silent_numbered e side m pr count (x ∷ xs) other =
      silent-append e (to side _ ∷ []) (numbered side m pr (suc count) xs) (silent_other e side _ other) (silent_numbered e side m pr (suc count) xs other)

  pub silent_released : (e side : End) (pr : ℕ) (d : Direction A) → same_end e side ≡ false → IsSilent e (released side pr d)
  silent_released e side pr d other =
      cond_both (is_open d) _ _ (λ made. IsSilent e made) (λ _. silent_numbered e side _ pr d.put _ other) (λ _. silent_none e)

  pub silent_notice : (e here : End) (changed : Bool) (s r : Direction A) → same_end e (far here) ≡ false → IsSilent e (flow_notice here changed s r)
  silent_notice e here changed s r other =
      cond_both (changed && not s.owes) _ _ (λ made. IsSilent e made) (λ _. silent_other e (far here) _ other) (λ _. silent_none e)

  pub silent_interrupts : (e side : End) (octets : Option (List ℕ)) → same_end e side ≡ false → IsSilent e (interrupts side octets)
  silent_interrupts e side None other = silent_none e
  silent_interrupts e side (Some octets) other = silent_other e side (Interrupt octets) other

  pub silent_not_ready : (e here : End) (s : Direction A) → same_end e here ≡ false → IsSilent e (not_ready_notice here s)
  silent_not_ready e here s other =
      cond_both s.ready _ _ (λ made. IsSilent e made) (λ _. silent_none e) (λ _. silent_other e here _ other)

  -- reset indications
  pub silent_indicating : (e here : End) (cause diagnostic : ℕ) (s : Direction A) → IsSilent e (indicating here cause diagnostic s)
  silent_indicating e here cause diagnostic s =
      cond_both s.owes [] (indication (far here) cause diagnostic ∷ []) (λ made. IsSilent e made) (λ _. silent_none e)
      (λ _. record { untold = refl; ready = λ b. refl; interrupts = refl })

  -- ---- data, RR and RNR

  -- moves that tell an end no other P(R) than this, and bring it no interrupt
  pub record Tells (e : End) (number : ℕ) (made : List (Move A)) : Type 0 where
    pub told : All (λ n. n ≡ number) (numbers_to e made)
    pub interrupts : (side : End) → interrupts_to side made ≡ []

  pub tells_none : (e : End) (number : ℕ) → Tells e number []
  tells_none e number = record { told = All-nil (Is number); interrupts = λ side. refl }

  pub tells-append : (e : End) (number : ℕ) (xs ys : List (Move A)) → Tells e number xs → Tells e number ys → Tells e number (xs ++ ys)
  tells-append e number xs ys h k = record {
    told = All-same (Is number) (numbers_to e (xs ++ ys)) (numbers_to e xs ++ numbers_to e ys) (numbers_to-append e xs ys)
        (All-append (Is number) (numbers_to e xs) (numbers_to e ys) h.told k.told);
    interrupts = λ side. interrupts_to-append side xs ys ∙ ap (λ is. is ++ interrupts_to side ys) (h.interrupts side) ∙ k.interrupts side;
  }

  tells_flow : (e side : End) (ready : Bool) (number : ℕ) → Tells e number (to side (flow_packet ready number) ∷ [])
  tells_flow e side true number = record { told = one_number (same_end e side) number; interrupts = λ other. refl }
  tells_flow e side false number = record { told = one_number (same_end e side) number; interrupts = λ other. refl }

  tells_numbered : (e side : End) (m number count : ℕ) (xs : List (Data A)) → Tells e number (numbered side m number count xs)
  tells_numbered e side m number count [] = tells_none e number
  tells_numbered e side m number count (x ∷ xs) =
      tells-append e number (to side (DataPacket x.q x.d x.more _ number x.octets) ∷ []) (numbered side m number (suc count) xs)
      (record { told = one_number (same_end e side) number; interrupts = λ other. refl })
      (tells_numbered e side m number (suc count) xs)

  pub tells_released : (e side : End) (number : ℕ) (d : Direction A) → Tells e number (released side number d)
  tells_released e side number d =
      cond_both (is_open d) _ _ (λ made. Tells e number made) (λ _. tells_numbered e side _ number d.put _) (λ _. tells_none e number)

  pub tells_notice : (e here : End) (changed : Bool) (s r : Direction A) → Tells e (received_number r) (flow_notice here changed s r)
  tells_notice e here changed s r =
      cond_both (changed && not s.owes) _ _ (λ made. Tells e (received_number r) made) (λ _. tells_flow e (far here) r.ready (received_number r))
      (λ _. tells_none e (received_number r))

  pub tells_not_ready : (e here : End) (s : Direction A) → Tells e (received_number s) (not_ready_notice here s)
  tells_not_ready e here s =
      cond_both s.ready _ _ (λ made. Tells e (received_number s) made) (λ _. tells_none e (received_number s)) (λ _. tells_flow e here false (received_number s))

  -- data says nothing of readiness
  ready_numbered : (e side : End) (m pr count : ℕ) (xs : List (Data A)) (b : Bool) → ready_told e (numbered side m pr count xs) b ≡ b
  ready_numbered e side m pr count [] b = refl
  ready_numbered e side m pr count (x ∷ xs) b = ready_numbered e side m pr (suc count) xs b

  pub ready_released : (e side : End) (pr : ℕ) (d : Direction A) (b : Bool) → ready_told e (released side pr d) b ≡ b
  ready_released e side pr d b =
      cond_both (is_open d) _ _ (λ made. ready_told e made b ≡ b) (λ _. ready_numbered e side (numbers d.terms.receiver) pr d.put (drop d.put d.accepted) b) (λ _. refl)

  pub ready_not_ready : (here : End) (s : Direction A) → ready_told here (not_ready_notice here s) true ≡ s.ready
  ready_not_ready here s =
      cond_both s.ready [] (to here (NotReady (received_number s)) ∷ []) (λ made. ready_told here made true ≡ s.ready)
      (λ ready. sym ready) (λ closed. ready_flow A here false (received_number s) true ∙ sym closed)

  pub notice_given : (here : End) (changed : Bool) (s r : Direction A) → changed ≡ true → s.owes ≡ false
      → flow_notice here changed s r ≡ to (far here) (flow_packet r.ready (received_number r)) ∷ []
  notice_given here changed s r news free = cond-true (changed && not s.owes) _ _ (and_from changed (not s.owes) news (not_from_false s.owes free))

  -- data that is sent has a P(R)
  pub numbered_tells : (side : End) (m pr count : ℕ) (xs : List (Data A)) → numbers_to side (numbered side m pr count xs) ≡ [] → xs ≡ []
  numbered_tells side m pr count [] e = refl
  numbered_tells side m pr count (x ∷ xs) e =
      let some : pr ∷ numbers_to side (numbered side m pr (suc count) xs) ≡ [] =
      sym (ap (λ mine. cond mine (pr ∷ []) [] ++ numbers_to side (numbered side m pr (suc count) xs)) (same_self side)) ∙ e in
      absurd (cc)
