-- What the code reads from a packet, in the terms of the definitions.
use Rattle.xp_answer.specs.declared.answer.CallAccepted.{CallAccepted as KeptAnswer}
use Rattle.xp_step.specs.declared.plan.received_packets.CallRequest.{CallRequest as KeptRequest}
use Rattle.xp_step.specs.declared.plan.received_packets.ClearRequest.{ClearRequest as KeptClear}
use Rattle.xp_step.specs.Table.{CallAccepted, CallRequest, ClearRequest}

module _ {A : Type 0} where
  abbrev pub request_of : KeptRequest A → CallRequest A
  request_of kept = record { identifier = kept.identifier; d = kept.d; block = kept.block.now }

  abbrev pub answer_of : KeptAnswer A → CallAccepted A
  answer_of kept = record { d = kept.d; block = kept.block.now }

  abbrev pub clear_of : KeptClear A → ClearRequest A
  clear_of kept = record { cause = kept.cause; diagnostic = kept.diagnostic; block = kept.block.now }
