use denote.Exit.{yes}
use denote.Param.{param}
use denote.Param.Send.{arg_send, param_send}
use Rattle.xp_keeping.proofs.Sends.{details_send}
use Rattle.xp_keeping.specs.contracts.details.DetailKeeper as DetailKeeper
use Rattle.xp_keeping.proofs.starting.start_details.Goals as goal
use Rattle.xp_keeping.proofs.starting.start_details.Lts.{arg-0-0}

pub start-requires-send-K : goal.start-requires-send-K
start-requires-send-K g c κs within =
    param_send _
    (arg-0-0 g.row.F g.row.L g.row.R g.F.laws g.L.laws g.R.laws g.R.copy g.F.RecordFile g.F.RecordFile-dict g.L.Log g.L.Log-dict
    g.R.Threads g.R.Threads-dict g.R.Wait g.R.Wait-dict g.R.Clone g.R.Clone-dict g.F.Destruct-dict g.L.Destruct-dict κs)
    (arg_send _ yes (DetailKeeper.the_row (param 0 g.row.F) (param 1 g.row.L) g.F.RecordFile g.L.Log)
    (details_send (param 0 g.row.F) (param 1 g.row.L) g.F.RecordFile g.L.Log c.type_bounds.send-F c.type_bounds.send-L))
