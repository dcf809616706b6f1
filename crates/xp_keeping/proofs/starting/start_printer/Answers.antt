use denote.Exit.{yes}
use denote.Param.{param}
use denote.Param.Send.{arg_send, param_send}
use Rattle.xp_keeping.proofs.Sends.{printer_send}
use Rattle.xp_keeping.specs.contracts.printing.RecordPrinter as RecordPrinter
use Rattle.xp_keeping.proofs.starting.start_printer.Goals as goal
use Rattle.xp_keeping.proofs.starting.start_printer.Lts.{arg-0-0}

pub start-requires-send-K : goal.start-requires-send-K
start-requires-send-K g c κs within =
    param_send _
    (arg-0-0 g.row.W g.row.R g.W.laws g.R.laws g.R.copy g.W.Write g.W.Write-dict g.R.Threads g.R.Threads-dict g.R.Wait g.R.Wait-dict g.R.Clone g.R.Clone-dict g.W.Destruct-dict κs)
    (arg_send _ yes (RecordPrinter.the_row (param 0 g.row.W) g.W.Write) (printer_send (param 0 g.row.W) g.W.Write c.type_bounds.send-W))
