-- What the exchange stores of the set-up of a call.
use Rattle.std.specs.Prelude.{Bool, if◌then◌else◌}
use Rattle.xp_decide.specs.declared.verdict.IncomingCall.{IncomingCall}
use Rattle.xp_packets.specs.declared.end.End.{End}
use Rattle.xp_packets.specs.declared.end.End.TheVariants.{Caller, Called}
use Rattle.xp_answer.specs.Terms.{indicated_by}
use Rattle.xp_answer.specs.declared.setup.Setup.{Setup}

-- the called line pays for a call with reverse charging, the caller for every other call (X.25 clause 6.18)
abbrev pub payer_of : Bool → End
payer_of reverse = if reverse then Called else Caller

module _ {A : Type 0} where
  abbrev pub setup_of : IncomingCall A → Setup
  setup_of ring = record {
    indicated = indicated_by ring.told;
    fast = ring.asked.fast;
    throughput = ring.asked.throughput;
    reason = ring.reason;
    payer = payer_of ring.asked.reverse;
    charging = ring.asked.charging;
  }
