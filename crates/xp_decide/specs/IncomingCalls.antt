-- The facilities that an incoming call indicates to the called station (X.25 clauses 6 and 7.2).
use Rattle.std.specs.Prelude.{ℕ, List, Option, None, Some, min, unwrap_or}
use Rattle.xp_facilities.specs.declared.requested.RequestedFacilities.{RequestedFacilities}
use Rattle.xp_facilities.specs.declared.direction_sizes.DirectionSizes.{DirectionSizes}
use Rattle.xp_facilities.specs.declared.redirection.Reason.{Reason}
use Rattle.xp_facilities.specs.declared.redirection.RedirectionNotification.{RedirectionNotification}
use Rattle.xp_facilities.specs.declared.indicated.IndicatedFacilities.{IndicatedFacilities}
use Rattle.xp_groups.specs.declared.admission.Admission.{Admission}
use Rattle.xp_packets.specs.declared.modulus.Modulus.{Modulus}
use Rattle.xp_decide.specs.Indicated.{largest_window_on}
use Rattle.xp_decide.specs.declared.route.Destination.{Destination}
use Rattle.xp_decide.specs.declared.verdict.IncomingCall.{IncomingCall}

-- packets of 128 octets and windows of 2, if the call requests nothing else
abbrev pub default_packet_sizes : DirectionSizes
default_packet_sizes = record { from_called = 7; from_calling = 7 }

abbrev pub default_window_sizes : DirectionSizes
default_window_sizes = record { from_called = 2; from_calling = 2 }

-- both sizes, each reduced to at most `most`
abbrev pub reduced_to : ℕ → DirectionSizes → DirectionSizes
reduced_to most sizes = record { from_called = min sizes.from_called most; from_calling = min sizes.from_calling most }

-- packets of at most 1,024 octets
abbrev pub indicated_packet : Option DirectionSizes → DirectionSizes
indicated_packet asked = reduced_to 10 (unwrap_or asked default_packet_sizes)

-- windows of at most the largest of a line with this modulus
abbrev pub indicated_window : Modulus → Option DirectionSizes → DirectionSizes
indicated_window modulus asked = reduced_to (largest_window_on modulus) (unwrap_or asked default_window_sizes)

-- the notification of a redirection: the first reason and the dialled address
abbrev pub notified : Option Reason → List ℕ → Option RedirectionNotification
notified None dialled = None
notified (Some reason) dialled = Some (record { reason = reason; dialled = dialled })

module _ {A : Type 0} where
  -- what a line with this modulus is told, and the incoming call
  abbrev pub told_of : Modulus → RequestedFacilities A → Admission → Option Reason → List ℕ → IndicatedFacilities A
  told_of modulus asked admission reason dialled = record {
    selection = admission.indicated;
    fast = asked.fast;
    reverse = asked.reverse;
    throughput = asked.throughput;
    modified = None;
    packet = Some (indicated_packet asked.packet);
    window = Some (indicated_window modulus asked.window);
    redirected = notified reason dialled;
    duration = None;
    segments = None;
    dte = asked.dte;
  }

  abbrev pub incoming_call_of : Modulus → RequestedFacilities A → Destination → List ℕ → IncomingCall A
  incoming_call_of modulus asked reached dialled = record {
    line = reached.line;
    told = told_of modulus asked reached.admission reached.reason dialled;
    asked = asked;
    reason = reached.reason;
  }
