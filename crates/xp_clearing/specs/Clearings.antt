-- How a call is cleared by the packets that pass (X.25 clause 4.1.7).
use Rattle.std.specs.Prelude.{ℕ, Bool, true, false, ◌==◌, ◌&&◌, ◌||◌, if◌then◌else◌}
use Rattle.xp_clearing.specs.declared.clearing.Clearing.{Clearing}
use Rattle.xp_clearing.specs.declared.clearing.Clearing.TheVariants.{Done, Indicated, NotBegun, Requested, RequestedOddly, Unclear}
use Rattle.xp_clearing.specs.declared.frame_watch.PassedFrame.{PassedFrame}
use Rattle.xp_clearing.specs.Frames.{format_of, is_clear, is_confirmation, is_plain}

-- how far the clearing is after a packet to the router
abbrev pub after_sent : Clearing → PassedFrame → Clearing
after_sent NotBegun frame = if is_clear frame then Indicated (format_of frame) else NotBegun
after_sent (Indicated format) frame = if is_clear frame then Indicated (format_of frame) else Indicated format
after_sent (Requested format) frame =
    if is_confirmation frame then Done
    else if is_clear frame then (if format == format_of frame then Done else Unclear) else Requested format
after_sent RequestedOddly frame = if is_confirmation frame then Done else if is_clear frame then Unclear else RequestedOddly
after_sent Done frame = Done
after_sent Unclear frame = Unclear

-- how far it is after a packet from the router
abbrev pub after_received : Clearing → PassedFrame → Clearing
after_received NotBegun frame =
    if is_clear frame then (if is_plain frame then Requested (format_of frame) else RequestedOddly) else NotBegun
after_received (Indicated format) frame =
    if is_clear frame || is_confirmation frame
    then (if is_plain frame && format == format_of frame then Done else Unclear)
    else Indicated format
after_received (Requested format) frame = Requested format
after_received RequestedOddly frame = RequestedOddly
after_received Done frame = Done
after_received Unclear frame = Unclear

-- the router has cleared, or both sides have
abbrev pub takes_no_more : Clearing → Bool
takes_no_more NotBegun = false
takes_no_more (Indicated format) = false
takes_no_more (Requested format) = true
takes_no_more RequestedOddly = true
takes_no_more Done = true
takes_no_more Unclear = true

-- both sides have cleared
abbrev pub is_settled : Clearing → Bool
is_settled NotBegun = false
is_settled (Indicated format) = false
is_settled (Requested format) = false
is_settled RequestedOddly = false
is_settled Done = true
is_settled Unclear = true
