-- What was agreed for the data of a call.
use Rattle.xp_packets.specs.declared.modulus.Modulus.{Modulus}
use Rattle.xp_relay.specs.declared.terms.Terms.{Terms}
use Rattle.xp_machine.specs.declared.agreement.Agreement.{Agreement}

-- what was agreed for the data of each end, where the lines of the caller and of the called station have these moduli
abbrev pub terms_of : Agreement → Modulus → Modulus → Terms
terms_of agreement caller called = record {
  from_caller = record { size = agreement.terms.packet.from_calling; window = agreement.terms.window.from_calling };
  from_called = record { size = agreement.terms.packet.from_called; window = agreement.terms.window.from_called };
  caller = caller;
  called = called;
}
