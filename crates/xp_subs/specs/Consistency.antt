-- The content of a `Subs`: its tables, an index of addresses and an index of names.
use Rattle.std.specs.Prelude.{string_bytes}
use Rattle.xp_subs.specs.declared.subs.Subs.TheInside.{Inside}
use Rattle.xp_subs.specs.Tables.{Tables}

abbrev pub tables : Inside → Tables
tables inside = record {
  stations = inside.stations.items;
  lines = inside.lines.items;
  groups = inside.groups.keys;
  segment_limit = inside.segment_limit;
  journal = inside.journal;
  host = string_bytes inside.host;
  xot_port = inside.xot_port;
  name = inside.name;
}
