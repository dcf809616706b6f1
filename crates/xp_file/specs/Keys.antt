-- The keys of the subscription file.
use Rattle.std.specs.Prelude.{ℕ, List, codes}
use Rattle.xp_file.specs.declared.key.Key.{Key}
use Rattle.xp_file.specs.declared.key.Key.TheVariants as keys

-- a key as it is written in the file
abbrev pub key_text : Key → List ℕ
key_text keys.SegmentLimit = codes "segment_limit"
key_text keys.Journal = codes "journal"
key_text keys.Host = codes "host"
key_text keys.XotPort = codes "xot_port"
key_text keys.SpareLines = codes "spare_lines"
key_text keys.SpareLines128 = codes "spare_lines_128"
key_text keys.Station = codes "station"
key_text keys.Address = codes "address"
key_text keys.Line = codes "line"
key_text keys.OutgoingBarred = codes "outgoing_barred"
key_text keys.IncomingBarred = codes "incoming_barred"
key_text keys.ReverseCharging = codes "reverse_charging"
key_text keys.FastSelect = codes "fast_select"
key_text keys.OutgoingAccess = codes "outgoing_access"
key_text keys.IncomingAccess = codes "incoming_access"
key_text keys.Preferential = codes "preferential"
key_text keys.DefaultCaller = codes "default_caller"
key_text keys.Group = codes "group"
key_text keys.Redirect = codes "redirect"
key_text keys.Name = codes "name"
key_text keys.Port = codes "port"
key_text keys.Router = codes "router"
key_text keys.Modulus = codes "modulus"
key_text keys.From = codes "from"
key_text keys.Index = codes "index"
key_text keys.To = codes "to"
key_text keys.Systematic = codes "systematic"
key_text keys.Busy = codes "busy"
key_text keys.OutOfOrder = codes "out_of_order"
key_text keys.Other = codes "other"
