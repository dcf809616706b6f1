-- How the private functions collect the values that a subscription file uses, and find the first that is used twice.
use Rattle.std.specs.Prelude.{ℕ, ◌+◌, List, [], ◌∷◌, ◌++◌, Option, None, Some, Result, Ok, Err, length, nat_eq, is_some, if◌then◌else◌}
use Rattle.std.specs.List.{list_any}
use Rattle.std.specs.Map.{lookup}
use Rattle.xp_file.specs.declared.entry.Access.{Access}
use Rattle.xp_file.specs.declared.entry.Access.TheVariants.{Port, Router, Spare}
use Rattle.xp_file.specs.declared.entry.LineEntry.{LineEntry}
use Rattle.xp_file.specs.declared.fault.SubscriptionFault.{SubscriptionFault}
use Rattle.xp_file.specs.declared.fault.SubscriptionFault.TheVariants as faults
use Rattle.xp_file.specs.declared.key.Key.TheVariants as keys
use Rattle.xp_file.specs.Entries.{StationData}
use Rattle.xp_file.specs.Name.{same}
use Rattle.xp_file.specs.Reading.{◌>>=◌}
use Rattle.xp_subs.specs.declared.target.Target.{Target}

-- the values used so far: the addresses, each with its target; the names, each with its line; and the ports
pub record Used : Type 0 where
  pub targets : List (List ℕ × Target)
  pub names : List (List ℕ × ℕ)
  pub ports : List ℕ

abbrev pub nothing_used : Used
nothing_used = record { targets = []; names = []; ports = [] }

-- one more value, which must not be used yet
abbrev pub with_address : Target → List ℕ → Used → Result Used SubscriptionFault
with_address target address used =
    if is_some (lookup (same address) used.targets) then Err (faults.TwiceUsed keys.Address)
    else Ok (record used { targets = used.targets ++ (address, target) ∷ [] })

abbrev pub with_name : ℕ → List ℕ → Used → Result Used SubscriptionFault
with_name line name used =
    if is_some (lookup (same name) used.names) then Err (faults.TwiceUsed keys.Name)
    else Ok (record used { names = used.names ++ (name, line) ∷ [] })

abbrev pub with_port : ℕ → Used → Result Used SubscriptionFault
with_port port used =
    if list_any (nat_eq port) used.ports then Err (faults.TwiceUsed keys.Port)
    else Ok (record used { ports = used.ports ++ port ∷ [] })

abbrev pub with_access : Access → Used → Result Used SubscriptionFault
with_access (Port port) used = with_port port used
with_access (Router router) used = Ok used
with_access Spare used = Ok used

-- the values of the lines of a station; the lines are numbered from `line` on
abbrev pub with_names : ℕ → List LineEntry → Used → Result Used SubscriptionFault
with_names line [] used = Ok used
with_names line (first ∷ lines) used = do
  more ← with_name line first.name used
  with_names (line + 1) lines more

abbrev pub with_ports : List LineEntry → Used → Result Used SubscriptionFault
with_ports [] used = Ok used
with_ports (first ∷ lines) used = do
  more ← with_access first.access used
  with_ports lines more

abbrev pub with_own : ℕ → ℕ → Option (List ℕ) → Used → Result Used SubscriptionFault
with_own station line None used = Ok used
with_own station line (Some address) used = with_address (record { station = station; line = Some line }) address used

abbrev pub with_addresses : ℕ → ℕ → List LineEntry → Used → Result Used SubscriptionFault
with_addresses station line [] used = Ok used
with_addresses station line (first ∷ lines) used = do
  more ← with_own station line first.address used
  with_addresses station (line + 1) lines more

-- a station's address, then the names, the ports and the addresses of its lines
unfoldable pub with_station : ℕ → ℕ → StationData → Used → Result Used SubscriptionFault
with_station number line station used = do
  a ← with_address (record { station = number; line = None }) station.address used
  b ← with_names line station.lines a
  c ← with_ports station.lines b
  with_addresses number line station.lines c

-- the stations in order
abbrev pub with_stations : ℕ → ℕ → List StationData → Used → Result Used SubscriptionFault
with_stations number line [] used = Ok used
with_stations number line (station ∷ stations) used = do
  more ← with_station number line station used
  with_stations (number + 1) (line + length station.lines) stations more
