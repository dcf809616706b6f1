-- The result of examining an answer: the facilities that it requests, or its first fault.
use Rattle.std.specs.Prelude.{Option, Result, Ok, Err}
use Rattle.xp_causes.specs.declared.diagnostic.TheConstants.{INVALID_FACILITY_LENGTH, FACILITY_CODE_NOT_ALLOWED, FACILITY_PARAMETER_NOT_ALLOWED}
use Rattle.xp_facilities.specs.declared.requested.RequestedFacilities.{RequestedFacilities}
use Rattle.xp_facilities.specs.declared.fault.FacilityFault.{FacilityFault}
use Rattle.xp_facilities.specs.declared.fault.FacilityFault.TheVariants.{Length, Code, Param, Memory}
use Rattle.xp_packets.specs.declared.block.Block.{Block}
use Rattle.xp_answer.specs.Answered.{Accepts, Declines}
use Rattle.xp_answer.specs.declared.fault.AnswerFault.{AnswerFault}
use Rattle.xp_answer.specs.declared.fault.AnswerFault.TheVariants as faults
use Rattle.xp_answer.specs.declared.setup.Setup.{Setup}

-- the error for each fault of the facility field
abbrev pub fault_of : FacilityFault → AnswerFault
fault_of Length = faults.Refused INVALID_FACILITY_LENGTH
fault_of Code = faults.Refused FACILITY_CODE_NOT_ALLOWED
fault_of Param = faults.Refused FACILITY_PARAMETER_NOT_ALLOWED
fault_of Memory = faults.Memory

-- the facilities that the answer requests, or its first fault
abbrev pub Examines : {A : Type 0} → Setup → Option (Block A) → Result (RequestedFacilities A) AnswerFault → Type 0
Examines setup block (Ok asked) = Accepts setup block asked
Examines setup block (Err (faults.Refused diagnostic)) = Declines setup block diagnostic
Examines setup block (Err faults.Memory) = Unit {0}
