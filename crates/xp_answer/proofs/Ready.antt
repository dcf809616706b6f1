-- The sizes that an incoming call indicates are those of a call.
use Rattle.std.proofs.Common.{ℕ, Option, sym, subst}
use Rattle.std.specs.Prelude.{unwrap_or}
use Rattle.xp_decide.specs.Indicated.{TellsWithin, IndicatesSizes, largest_window_on}
use Rattle.xp_decide.specs.IncomingCalls.{default_packet_sizes, default_window_sizes}
use Rattle.xp_facilities.specs.declared.direction_sizes.DirectionSizes.{DirectionSizes}
use Rattle.xp_facilities.specs.declared.indicated.IndicatedFacilities.{IndicatedFacilities}
use Rattle.xp_packets.specs.declared.modulus.Modulus.{Modulus}
use Rattle.xp_answer.specs.Terms.{AreBetween, AreTerms, indicated_by}

between : (least most : ℕ) (told : Option DirectionSizes) (usual : DirectionSizes) → TellsWithin least most told → AreBetween least most (unwrap_or told usual)
between least most told usual within =
    subst (λ t. AreBetween least most (unwrap_or t usual)) (sym within.told_are) (record {
      called_least = within.called_least;
      called_most = within.called_most;
      calling_least = within.calling_least;
      calling_most = within.calling_most;
    })

pub indicated_terms : {A : Type 0} (modulus : Modulus) (told : IndicatedFacilities A) → IndicatesSizes modulus told → AreTerms modulus (indicated_by told)
indicated_terms modulus told indicates = record {
  packet = between 4 10 told.packet default_packet_sizes indicates.packet;
  window = between 1 (largest_window_on modulus) told.window default_window_sizes indicates.window;
}
