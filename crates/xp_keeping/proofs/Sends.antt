-- A keeper may go to another thread, field by field: one search over all fields takes too many steps.
use denote.RattleType.{RattleType}
use denote.Param.Send.{IsSend, recorded_send, sendable, struct_send}
use denote.Struct.Declared as declared
use denote.Struct.Record as recorded
use denote.Struct.Struct.{Struct}
use Rattle.std.below.std_heap.proofs.GlobalAllocator.TheSendSync as global
use Rattle.std.proofs.vec.Vec.TheSendSync as vec
use Rattle.std.specs.contracts.snapshot.Snapshot as Snapshot
use Rattle.xp_cdr.proofs.writer.DetailWriter.TheSendSync as writer
use Rattle.xp_clock.proofs.wall_clock.WallClock.TheSendSync as clock
use Rattle.xp_keeping.proofs.operator_log.OperatorLog.TheSendSync as operator
use Rattle.xp_keeping.specs.contracts.details.DetailKeeper as DetailKeeper
use Rattle.xp_keeping.specs.contracts.details.DetailKeeper.TheInside as details
use Rattle.xp_keeping.specs.contracts.printing.RecordPrinter as RecordPrinter
use Rattle.xp_keeping.specs.contracts.printing.RecordPrinter.TheInside as printer
use Rattle.xp_past.proofs.past.Past.TheSendSync as past

-- it owns nothing
snapshot_send : (Y : RattleType) → IsSend (Snapshot.the_row Y)
snapshot_send Y = record { owned = λ d vs. ((λ vss. (tt, ((λ uss. (tt, tt)), tt))), tt); leaving = λ k f vs. tt }

ruleset parts = (sendable, vec.the_send, global.the_frees, snapshot_send, past.the_send)

pub printer_send : (W : RattleType) (write : _) → IsSend W → IsSend (RecordPrinter.the_row W write)
printer_send W write may =
    let T = recorded.declared (printer.struct W write) (printer.the_propositions W.Denot) in
    let all : IsSend (declared.row T) = recorded_send (Struct (declared.shape T)) T.D T.to T.to_one
    (struct_send (declared.shape T) (may, (search parts depth 20, (search parts depth 20, (search parts depth 20, (snapshot_send W, (past.the_send _, tt))))))) in
    record { owned = λ d vs x. (all.owned x.0 vs, tt); leaving = λ k d w. tt }

pub details_send : (F L : RattleType) (file : _) (log : _) → IsSend F → IsSend L → IsSend (DetailKeeper.the_row F L file log)
details_send F L file log file_may log_may =
    let T = recorded.declared (details.struct F L file log) (details.the_propositions F.Denot L.Denot) in
    let all : IsSend (declared.row T) = recorded_send (Struct (declared.shape T)) T.D T.to T.to_one
    (struct_send (declared.shape T) (
      search (writer.the_send) depth 9,
      (
        search (sendable, clock.the_field_send) depth 9,
        (
          search (sendable, operator.the_field_send) depth 9,
          (search parts depth 20, (search parts depth 20, (search parts depth 20, (search parts depth 20, (past.the_send _, tt))))),
        ),
      ),
    )) in
    record { owned = λ d vs x. (all.owned x.0 vs, tt); leaving = λ k d w. tt }
