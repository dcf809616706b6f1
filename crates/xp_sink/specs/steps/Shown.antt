-- The subscriptions of the name that stands for no exchange.
use Rattle.std.specs.Prelude.{[], None}
use Rattle.xp_subs.specs.Tables.{Tables}

-- no subscriptions
abbrev pub no_tables : Tables
no_tables = record { stations = []; lines = []; groups = []; segment_limit = 0; journal = 0; host = []; xot_port = 0; name = None }
