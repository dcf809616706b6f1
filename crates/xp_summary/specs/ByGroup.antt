-- Who may call whom, by closed user group (X.301). What a station may do in a group is its own right and its membership's.
use Rattle.std.specs.Prelude.{Bool, not, ◌&&◌, ◌||◌, ◌==◌, length}
use Rattle.xp_subs.specs.declared.station.Membership.{Membership}
use Rattle.xp_subs.specs.declared.station.Station.{Station}

-- the station makes calls within the group
abbrev pub makes_calls : Station → Membership → Bool
makes_calls station held = not station.facilities.outgoing_barred && not held.outgoing_barred

-- the station takes calls within the group
abbrev pub takes_calls : Station → Membership → Bool
takes_calls station held = not station.facilities.incoming_barred && not held.incoming_barred

abbrev pub has_no_groups : Station → Bool
has_no_groups station = length station.memberships.items == 0

-- the station calls those outside its groups, or it has none
abbrev pub calls_outside : Station → Bool
calls_outside station = not station.facilities.outgoing_barred && (has_no_groups station || station.facilities.outgoing_access)

-- the station takes calls from outside its groups, or it has none
abbrev pub is_called_from_outside : Station → Bool
is_called_from_outside station = not station.facilities.incoming_barred && (has_no_groups station || station.facilities.incoming_access)
