-- What connected calls accept is delivered.
use Rattle.std.proofs.Common.{arith, ◌≡◌, ℕ, Some, List, subst, sym}
use Rattle.xp_answer.specs.Terms.{AreTerms}
use Rattle.xp_packets.specs.declared.modulus.Modulus.{Modulus}
use Rattle.xp_relay.proofs.Observations.{everything_is_delivered, interrupts_are_delivered, senders_are_told}
use Rattle.xp_relay.specs.Observed.{AreInterruptsDelivered, IsDelivered, IsTold}
use Rattle.xp_relay.specs.Runs.{Arrival}
use Rattle.xp_relay.specs.Terms.{IsWithinTerms}
use Rattle.xp_relay.specs.declared.terms.Terms.{Terms}
use Rattle.xp_subs.specs.Tables.{Tables, modulus_of}
use Rattle.xp_step.specs.declared.entry.Entry.{Entry}
use Rattle.xp_machine.specs.declared.agreement.Agreement.{Agreement}
use Rattle.xp_step.specs.Agreed.{AllHaveTerms, HasTerms}
use Rattle.xp_step.specs.RelayedPackets.{arrivals, directions, relay_terms}
use Rattle.xp_core.specs.Delivered.{AreDelivered}
use Rattle.xp_step.specs.Run.{Run}
use Rattle.xp_machine.specs.World.{Call, World, call_numbered}
use Rattle.xp_step.proofs.Agreed.{run_agreed}
use Rattle.xp_core.proofs.Observed.{IsSeen, run_seen}
use Rattle.xp_machine.proofs.Terms.{terms_within}

-- the terms of a connected call
agreed_terms : (modulus : Modulus) (call : Call) (agreement : Agreement) → call.agreed ≡ Some agreement → HasTerms modulus call → AreTerms modulus agreement.terms
agreed_terms modulus call agreement is has = grind arith

-- its relay can be set up
pub relay_within : (tables : Tables) (world : World) (number : ℕ) (call : Call) (agreement : Agreement) → AllHaveTerms tables world → call_numbered world number ≡ Some call
    → call.agreed ≡ Some agreement → IsWithinTerms (relay_terms tables call agreement)
relay_within tables world number call agreement terms live is =
    let both = terms number call live in
    terms_within agreement (modulus_of tables call.caller) (modulus_of tables call.called)
    (agreed_terms (modulus_of tables call.caller) call agreement is both.0) (agreed_terms (modulus_of tables call.called) call agreement is both.1)

pub run_delivered : {A : Type 0} (tables : Tables) (history : List (Entry A)) (world : World) → Run tables history world → AreDelivered tables history world
run_delivered {A} tables history world run number call agreement live is =
    let terms : Terms = relay_terms tables call agreement in
    let within : IsWithinTerms terms = relay_within tables world number call agreement (run_agreed tables history world run) live is in
    let it : IsSeen tables history number call agreement = run_seen tables history world run number call agreement live is in
    let came : List (Arrival A) = arrivals tables history number in
    record {
      connecting = it.connecting;
      connects = it.connects;
      delivered = λ sender.
          subst (λ seen. IsDelivered terms sender (directions tables history number call agreement) seen) (sym (it.seen sender)) (everything_is_delivered terms within came sender);
      told = λ sender. subst (λ seen. IsTold terms sender seen) (sym (it.seen sender)) (senders_are_told terms within came sender);
      interrupts = λ sender. subst (λ seen. AreInterruptsDelivered seen) (sym (it.seen sender)) (interrupts_are_delivered terms within came sender);
    }
