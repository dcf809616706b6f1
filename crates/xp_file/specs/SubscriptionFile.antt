-- The first pass over the subscription file: the value of every key.
use Rattle.std.specs.Prelude.{ℕ, List, [], ◌∷◌, Bool, true, ◌&&◌, Option, None, Some, Result, Ok, Err, codes}
use Rattle.std.specs.List.{list_all}
use Rattle.std.specs.Option.{is_none}
use Rattle.toml.specs.Data.{Data, Members, as_str, as_table, get_member}
use Rattle.toml.specs.Parse.{parse_document}
use Rattle.xp_file.specs.declared.entry.Access.{Access}
use Rattle.xp_file.specs.declared.entry.Access.TheVariants as access
use Rattle.xp_file.specs.declared.entry.Facilities.{Facilities}
use Rattle.xp_file.specs.declared.entry.GroupEntry.{GroupEntry}
use Rattle.xp_file.specs.declared.entry.LineEntry.{LineEntry}
use Rattle.xp_file.specs.declared.fault.SubscriptionFault.{SubscriptionFault}
use Rattle.xp_file.specs.declared.fault.SubscriptionFault.TheVariants as faults
use Rattle.xp_file.specs.declared.key.Key.{Key}
use Rattle.xp_file.specs.declared.key.Key.TheVariants as keys
use Rattle.xp_file.specs.declared.entry.Redirection.{Redirection}
use Rattle.xp_file.specs.Entries.{StationData, no_journal_limit}
use Rattle.xp_file.specs.Keys.{key_text}
use Rattle.xp_file.specs.Routers.{registered_port}
use Rattle.xp_packets.specs.declared.modulus.Modulus.TheVariants.{Eight}
use Rattle.xp_file.specs.Reading.{◌>>=◌, number_in, line_name_in, group_name_in, address_in, modulus_in, router_in, sources_in, tables_in, some_tables_in, required, defaulted, optional, flag, each, examined, has_only, checked}

-- the keys that each table may have
abbrev pub top_keys : List Key
top_keys = keys.SegmentLimit ∷ keys.Journal ∷ keys.Host ∷ keys.XotPort ∷ keys.Name ∷ keys.SpareLines ∷ keys.SpareLines128 ∷ keys.Station ∷ []

abbrev pub station_keys : List Key
station_keys =
    keys.Address ∷ keys.Line ∷ keys.OutgoingBarred ∷ keys.IncomingBarred ∷ keys.ReverseCharging ∷ keys.FastSelect ∷
    keys.OutgoingAccess ∷ keys.IncomingAccess ∷ keys.Preferential ∷ keys.DefaultCaller ∷ keys.Group ∷ keys.Redirect ∷ []

abbrev pub line_keys : List Key
line_keys = keys.Name ∷ keys.Port ∷ keys.Router ∷ keys.Address ∷ keys.Modulus ∷ keys.From ∷ []

abbrev pub group_keys : List Key
group_keys = keys.Name ∷ keys.Index ∷ keys.OutgoingBarred ∷ keys.IncomingBarred ∷ []

abbrev pub redirect_keys : List Key
redirect_keys = keys.To ∷ keys.Systematic ∷ keys.Busy ∷ keys.OutOfOrder ∷ []

unfoldable pub facilities_of : Members → Result Facilities SubscriptionFault
facilities_of table = do
  outgoing_barred ← flag keys.OutgoingBarred table
  incoming_barred ← flag keys.IncomingBarred table
  reverse_charging ← flag keys.ReverseCharging table
  fast_select ← flag keys.FastSelect table
  outgoing_access ← flag keys.OutgoingAccess table
  incoming_access ← flag keys.IncomingAccess table
  Ok (record {
    outgoing_barred = outgoing_barred;
    incoming_barred = incoming_barred;
    reverse_charging = reverse_charging;
    fast_select = fast_select;
    outgoing_access = outgoing_access;
    incoming_access = incoming_access;
  })

-- the port of a line, which may be missing only where the line has the key `router`
abbrev pub port_of : Members → Result (Option ℕ) SubscriptionFault
port_of table = by (get_member (key_text keys.Router) table) where
  by : Option Data → Result (Option ℕ) SubscriptionFault
  by None = required (number_in 1 65535) keys.Port table >>= λ port. Ok (Some port)
  by (Some router) = optional (number_in 1 65535) keys.Port table

-- the router of a line without a port; a line with a port has no router
abbrev pub access_beside : Members → Option ℕ → Result Access SubscriptionFault
access_beside table None = required router_in keys.Router table >>= λ router. Ok (access.Router router)
access_beside table (Some port) =
    checked (is_none (get_member (key_text keys.Router) table)) (faults.Field keys.Router) (Ok (access.Port port))

-- the port or the router of a line, which has one of them alone
abbrev pub access_of : Members → Result Access SubscriptionFault
access_of table = port_of table >>= access_beside table

-- a line, and a group
unfoldable pub line_of : Members → Result LineEntry SubscriptionFault
line_of table = do
  name ← required line_name_in keys.Name table
  access ← access_of table
  address ← optional address_in keys.Address table
  modulus ← defaulted modulus_in Eight keys.Modulus table
  from ← defaulted sources_in [] keys.From table
  Ok (record { name = name; access = access; address = address; modulus = modulus; from = from })

unfoldable pub group_of : Members → Result GroupEntry SubscriptionFault
group_of table = do
  name ← required group_name_in keys.Name table
  index ← required (number_in 0 9999) keys.Index table
  outgoing_barred ← flag keys.OutgoingBarred table
  incoming_barred ← flag keys.IncomingBarred table
  Ok (record { name = name; index = index; outgoing_barred = outgoing_barred; incoming_barred = incoming_barred })

-- All lines. Each key is checked in all of them before the next key; the last key is checked while the lines are
-- read.
unfoldable pub lines_of : List Members → Result (List LineEntry) SubscriptionFault
lines_of tables = do
  names ← examined (required line_name_in keys.Name) tables
  ports ← examined port_of tables
  accesses ← examined access_of tables
  addresses ← examined (optional address_in keys.Address) tables
  moduli ← examined (defaulted modulus_in Eight keys.Modulus) tables
  each line_of tables

-- all groups
unfoldable pub groups_of : List Members → Result (List GroupEntry) SubscriptionFault
groups_of tables = do
  names ← examined (required group_name_in keys.Name) tables
  indexes ← examined (required (number_in 0 9999) keys.Index) tables
  outgoing ← examined (flag keys.OutgoingBarred) tables
  each group_of tables

unfoldable pub redirection_of : Option Members → Result (Option Redirection) SubscriptionFault
redirection_of None = Ok None
redirection_of (Some table) = do
  to ← required address_in keys.To table
  systematic ← flag keys.Systematic table
  busy ← flag keys.Busy table
  out_of_order ← flag keys.OutOfOrder table
  Ok (Some (record { to = to; systematic = systematic; busy = busy; out_of_order = out_of_order }))

-- none of the station's tables has other keys
abbrev pub are_listed : Members → List Members → List Members → Option Members → Bool
are_listed table lines groups redirect =
    ((has_only station_keys table && list_all (has_only line_keys) lines) && list_all (has_only group_keys) groups) && one redirect where
      one : Option Members → Bool
      one None = true
      one (Some table) = has_only redirect_keys table

-- A station. Reads its own keys, then those of its lines, of its groups and of its redirection, then checks for keys
-- that are not listed.
unfoldable pub entry_of : Members → Result StationData SubscriptionFault
entry_of table = do
  address ← required address_in keys.Address table
  line_tables ← required some_tables_in keys.Line table
  facilities ← facilities_of table
  preferential ← optional (number_in 0 9999) keys.Preferential table
  default_caller ← flag keys.DefaultCaller table
  group_tables ← defaulted tables_in [] keys.Group table
  redirect_table ← optional as_table keys.Redirect table
  lines ← lines_of line_tables
  groups ← groups_of group_tables
  redirect ← redirection_of redirect_table
  checked (are_listed table line_tables group_tables redirect_table) (faults.Field keys.Other) (Ok (record {
    address = address;
    facilities = facilities;
    preferential = preferential;
    default_caller = default_caller;
    lines = lines;
    groups = groups;
    redirect = redirect;
  }))

pub record FileData : Type 0 where
  pub segment_limit : ℕ
  pub journal : ℕ
  pub host : List ℕ
  pub xot_port : ℕ
  -- the name of the exchange
  pub name : Option (List ℕ)
  -- how many places are reserved for further lines, of modulo 8 and of modulo 128
  pub spare_lines : ℕ
  pub spare_lines_128 : ℕ
  pub stations : List StationData

-- The file. Reads its top keys, checks for keys that are not listed, then reads the stations in order.
unfoldable pub file_of : Members → Result FileData SubscriptionFault
file_of table = do
  segment_limit ← defaulted (number_in 1 99999999) 99999999 keys.SegmentLimit table
  journal ← defaulted (number_in 4 10000000) no_journal_limit keys.Journal table
  host ← defaulted as_str (codes "127.0.0.1") keys.Host table
  xot_port ← defaulted (number_in 1 65535) registered_port keys.XotPort table
  name ← optional group_name_in keys.Name table
  spare_lines ← defaulted (number_in 0 4096) 0 keys.SpareLines table
  spare_lines_128 ← defaulted (number_in 0 4096) 0 keys.SpareLines128 table
  tables ← required some_tables_in keys.Station table
  stations ← checked (has_only top_keys table) (faults.Field keys.Other) (each entry_of tables)
  Ok (record {
    segment_limit = segment_limit;
    journal = journal;
    host = host;
    xot_port = xot_port;
    name = name;
    spare_lines = spare_lines;
    spare_lines_128 = spare_lines_128;
    stations = stations;
  })

-- the file that a text contains
abbrev pub file_in : List ℕ → Result FileData SubscriptionFault
file_in text = table (parse_document text) where
  table : Option Members → Result FileData SubscriptionFault
  table None = Err faults.Toml
  table (Some members) = file_of members
