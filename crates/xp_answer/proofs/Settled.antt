-- The sizes of a connected call.
use Rattle.std.proofs.Common.{◌≡◌, ℕ, ◌≤◌, ◌&&◌, leb, min, max, Bool, true, List, Option, None, Some, sym, subst, arith, ◌⊎◌, inl, inr}
use Rattle.std.specs.Prelude.{unwrap_or}
use Rattle.std.proofs.lemmas.Bool.{and_parts, or_cases, leb-true}
use Rattle.xp_decide.specs.Indicated.{largest_window_on}
use Rattle.xp_decide.specs.IncomingCalls.{default_packet_sizes, default_window_sizes}
use Rattle.xp_facilities.specs.declared.requested.RequestedFacilities.{RequestedFacilities}
use Rattle.xp_facilities.specs.declared.direction_sizes.DirectionSizes.{DirectionSizes}
use Rattle.xp_packets.specs.declared.block.Block.{Block}
use Rattle.xp_packets.specs.declared.modulus.Modulus.{Modulus}
use Rattle.xp_packets.specs.declared.modulus.Modulus.TheVariants.{Eight, Long}
use Rattle.xp_answer.specs.Answered.{Accepts, Connects}
use Rattle.xp_answer.specs.Terms.{AreBetween, AreTerms, AreSettled, AreWithin, AreWithinIndicated, IsWithin, is_between, is_offered, are_offered, settled}
use Rattle.xp_answer.specs.declared.connection.Connection.{Connection}
use Rattle.xp_answer.specs.declared.setup.Setup.{Setup}
use Rattle.xp_answer.specs.declared.terms.Terms.{Terms}

between_within : (one other size : ℕ) → is_between one other size ≡ true → IsWithin one other size
between_within one other size between = by_order (or_cases _ _ between) where
  by_order : ((leb one size && leb size other) ≡ true) ⊎ ((leb other size && leb size one) ≡ true) → IsWithin one other size
  by_order (inl rising) =
      let parts = and_parts _ _ rising in
      let low : one ≤ size = leb-true one size parts.0 in
      let high : size ≤ other = leb-true size other parts.1 in
      (omega (arith, low, high), omega (arith, low, high))
  by_order (inr falling) =
      let parts = and_parts _ _ falling in
      let low : other ≤ size = leb-true other size parts.0 in
      let high : size ≤ one = leb-true size one parts.1 in
      (omega (arith, low, high), omega (arith, low, high))

-- what was indicated is within itself and the usual size
indicated_within : (one other : ℕ) → IsWithin one other one
indicated_within one other = (omega arith, omega arith)

offered_within : (indicated usual : DirectionSizes) (asked : Option DirectionSizes) → is_offered indicated usual asked ≡ true → AreWithin indicated usual (unwrap_or asked indicated)
offered_within indicated usual None offered = record {
  from_called = indicated_within indicated.from_called usual.from_called;
  from_calling = indicated_within indicated.from_calling usual.from_calling;
}
offered_within indicated usual (Some asked) offered =
    let parts = and_parts _ _ offered in
    record {
      from_called = between_within indicated.from_called usual.from_called asked.from_called parts.0;
      from_calling = between_within indicated.from_calling usual.from_calling asked.from_calling parts.1;
    }

-- a size between two that fit
kept_within : (least most one other size : ℕ) → least ≤ one → one ≤ most → least ≤ other → other ≤ most
    → IsWithin one other size → (least ≤ size) × (size ≤ most)
kept_within least most one other size a b c d within = bounded within.0 within.1 where
  bounded : min one other ≤ size → size ≤ max one other → (least ≤ size) × (size ≤ most)
  bounded low high = (omega (arith, a, c, low), omega (arith, b, d, high))

pair_within : (least most : ℕ) (indicated usual sizes : DirectionSizes) → AreBetween least most indicated → AreBetween least most usual
    → AreWithin indicated usual sizes → AreBetween least most sizes
pair_within least most indicated usual sizes first second within =
    let called = kept_within least most indicated.from_called usual.from_called sizes.from_called
    first.called_least first.called_most second.called_least second.called_most within.from_called in
    let calling = kept_within least most indicated.from_calling usual.from_calling sizes.from_calling
    first.calling_least first.calling_most second.calling_least second.calling_most within.from_calling in
    record { called_least = called.0; called_most = called.1; calling_least = calling.0; calling_most = calling.1 }

usual_packet : AreBetween 4 10 default_packet_sizes
usual_packet = record { called_least = omega arith; called_most = omega arith; calling_least = omega arith; calling_most = omega arith }

-- every line may have the usual windows
usual_window : (modulus : Modulus) → AreBetween 1 (largest_window_on modulus) default_window_sizes
usual_window Eight = record { called_least = omega arith; called_most = omega arith; calling_least = omega arith; calling_most = omega arith }
usual_window Long = record { called_least = omega arith; called_most = omega arith; calling_least = omega arith; calling_most = omega arith }

module _ {A : Type 0} where
  settled_within : (indicated : Terms) (asked : RequestedFacilities A) → are_offered indicated asked ≡ true → AreWithinIndicated indicated (settled indicated asked)
  settled_within indicated asked offered =
      let parts = and_parts _ _ offered in
      record {
        packet = offered_within indicated.packet default_packet_sizes asked.packet parts.0;
        window = offered_within indicated.window default_window_sizes asked.window parts.1;
      }

  settled_terms : (modulus : Modulus) (indicated : Terms) (asked : RequestedFacilities A) → AreTerms modulus indicated → are_offered indicated asked ≡ true
      → AreSettled modulus indicated (settled indicated asked)
  settled_terms modulus indicated asked terms offered =
      let within = settled_within indicated asked offered in
      record {
        sizes = record {
          packet = pair_within 4 10 indicated.packet default_packet_sizes (settled indicated asked).packet terms.packet usual_packet within.packet;
          window = pair_within 1 (largest_window_on modulus) indicated.window default_window_sizes (settled indicated asked).window terms.window (usual_window modulus) within.window;
        };
        within = within;
      }

  pub connection_settled : (modulus : Modulus) (setup : Setup) (address dialled : List ℕ) (d : Bool) (block : Option (Block A)) (asked : RequestedFacilities A) (connection : Connection A)
      → AreTerms modulus setup.indicated → Accepts setup block asked → Connects setup address dialled d block asked connection
      → AreSettled modulus setup.indicated connection.terms
  connection_settled modulus setup address dialled d block asked connection terms accepts connects =
      subst (AreSettled modulus setup.indicated) (sym connects.terms) (settled_terms modulus setup.indicated asked terms accepts.offered)
