-- Each packet that a call sends to an end can be encoded by the modulus of that end's line, where each packet that came
-- in can be encoded.
use Rattle.std.specs.Prelude.{ℕ, ◌≤◌, List, All}
use Rattle.xp_packets.specs.declared.modulus.Modulus.TheVariants.{Long}
use Rattle.xp_packets.specs.Encodability.{CanBeEncoded}
use Rattle.xp_relay.specs.declared.terms.Terms.{Terms}
use Rattle.xp_relay.specs.Coupled.{coupled}
use Rattle.xp_relay.specs.Runs.{Arrival, run, turn_on}
use Rattle.xp_relay.specs.Terms.{modulus_at}

-- The packet can be encoded modulo 128 under some logical channel identifier. This holds for each packet that was
-- decoded, by either modulus.
abbrev pub CameEncoded : {A : Type 0} → Arrival A → Type 0
CameEncoded arrival = (identifier : ℕ) × CanBeEncoded Long identifier arrival.packet

-- after any such packets, all that one more of them leads to can be encoded under each identifier of 12 bits, by the
-- modulus of the line that it goes to
abbrev pub PutsOutEncodable : (A : Type 0) → Type 0
PutsOutEncodable A =
    (terms : Terms) → (arrivals : List (Arrival A)) (arrival : Arrival A) →
    All CameEncoded arrivals → CameEncoded arrival → (identifier : ℕ) → identifier ≤ 4095 →
    All (λ move. CanBeEncoded (modulus_at move.side terms) identifier move.packet) (turn_on (run (coupled {A = A} terms) arrivals) arrival).moves
