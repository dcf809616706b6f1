-- What is shown of the lines of an exchange.
use Rattle.std.specs.Prelude.{◌≡◌, ◌==◌, ℕ, List, Bool, not, count_by, filter, length, map, string_bytes, unwrap_or}
use Rattle.std.specs.List.{AllZip, zip}
use Rattle.std.specs.declared.alloc.Global.{Global as Alloc}
use Rattle.xp_channel.specs.declared.channel.Channel.{Channel}
use Rattle.xp_channel.specs.declared.channel.Channel.TheVariants.{Off, P1, P2, P3, P4, P7}
use Rattle.xp_console.specs.declared.status.ExchangeStatus.{ExchangeStatus}
use Rattle.xp_console.specs.declared.status.LineState.{LineState}
use Rattle.xp_console.specs.declared.status.LineState.TheVariants.{OutOfService, Ready, DteWaiting, DceWaiting, DataTransfer, DceClearIndication}
use Rattle.xp_console.specs.declared.status.LineStatus.{LineStatus}
use Rattle.xp_machine.specs.declared.view.LineView.{LineView}
use Rattle.xp_observer.specs.declared.lines.NamedLine.{NamedLine}
use Rattle.xp_packets.specs.Digits.{text_of}
use Rattle.xp_sink.specs.Seen.{IsSeenOf}
use Rattle.xp_step.specs.InForce.{in_force}
use Rattle.xp_step.specs.Run.{Run}
use Rattle.xp_step.specs.Worlds.{world_after}
use Rattle.xp_step.specs.declared.entry.Entry.{Entry}
use Rattle.xp_subs.specs.Tables.{Tables, station_at}
use Rattle.xp_subs.specs.declared.line.Line.{Line}
use Rattle.xp_view.specs.declared.view.ExchangeView.{ExchangeView}
use Rattle.xp_view.specs.declared.view.LineWithCall.{LineWithCall}

-- how a line is named: its name, the digits of its address, and those of its station's
pub record LineNames : Type 0 where
  pub name : List ℕ
  pub address : List ℕ
  pub station : List ℕ

-- how a line is named that is kept
abbrev pub names_in : NamedLine → LineNames
names_in line = record { name = line.name; address = line.address; station = line.station }

-- a line's address is its own if it has one, otherwise its station's
abbrev pub names_at : Tables → Line → LineNames
names_at tables line = record {
  name = line.name;
  address = unwrap_or line.address (station_at tables line.station).address;
  station = (station_at tables line.station).address;
}

-- how the lines are named, in order
abbrev pub names_of : Tables → List LineNames
names_of tables = map (names_at tables) tables.lines

-- the state of a logical channel, in the words of X.25 Annex B
abbrev pub state_of : Channel → LineState
state_of Off = OutOfService
state_of P1 = Ready
state_of P2 = DteWaiting
state_of P3 = DceWaiting
state_of P4 = DataTransfer
state_of P7 = DceClearIndication

-- a line is shown by its name and addresses, in the state and the call in which it is seen
pub record IsShownAs (names : LineNames) (seen : LineView) (shown : LineStatus) : Type 0 where
  pub name_is : string_bytes shown.name ≡ names.name
  pub address_is : string_bytes shown.address ≡ text_of names.address
  pub station_is : string_bytes shown.station ≡ text_of names.station
  pub state_is : shown.state ≡ state_of seen.channel
  pub call_is : shown.call ≡ seen.call

-- a spare place has no name
abbrev pub has_no_name : LineNames → Bool
has_no_name names = length names.name == 0

-- the places that have a line, each with how it is named and seen
abbrev pub places_of : List LineNames → List LineWithCall → List (LineNames × LineWithCall)
places_of names seen = filter (λ place. not (has_no_name place.0)) (zip names seen)

-- lines that are named so are shown as they are seen, in order, and nothing is shown of spare places
abbrev pub AreShown : List LineNames → List LineWithCall → List LineStatus → Type 0
AreShown names seen shown = AllZip (λ place status. IsShownAs place.0 place.1.line status) (places_of names seen) shown

-- this status shows lines that are named so as they are seen in this view, how many places are spare, and as many events and stalls as
-- the view has
pub record IsStatusOf (names : List LineNames) (view : ExchangeView Alloc) (status : ExchangeStatus) : Type 0 where
  pub lines_are : AreShown names view.lines.items status.lines.items
  pub spare_are : status.spare_lines ≡ count_by has_no_name names
  pub events_are : status.totals.events ≡ view.entries
  pub stalls_are : status.totals.stalls ≡ view.stalls

-- These subscriptions have been in force: a history of an exchange that was opened with the first ones leads to them.
abbrev pub HasBeenInForce : Tables → Tables → Type 0
HasBeenInForce tables force =
    (history : List (Entry Alloc)) × Run tables history (world_after tables history) × (in_force tables history ≡ force)

-- lines are named so by subscriptions that have been in force
abbrev pub AreNamesInForce : Tables → List LineNames → Type 0
AreNamesInForce tables names = (force : Tables) × HasBeenInForce tables force × (names ≡ names_of force)

-- this status shows what is seen in this view, the lines as subscriptions name them that have been in force
abbrev pub IsNamedStatusOf : Tables → ExchangeView Alloc → ExchangeStatus → Type 0
IsNamedStatusOf tables view status = (names : List LineNames) × AreNamesInForce tables names × IsStatusOf names view status

-- This status shows an exchange that was opened with these subscriptions: each line by its own name and by addresses that it has had,
-- as it is seen in the state to which a history of the exchange leads.
pub record IsStatusOfExchange (tables : Tables) (status : ExchangeStatus) : Type 0 where
  pub view : ExchangeView Alloc
  pub seen : IsSeenOf tables view
  pub shows : IsNamedStatusOf tables view status
