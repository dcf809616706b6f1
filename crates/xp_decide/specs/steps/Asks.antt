-- The error of reading a call request for each fault of its facilities.
use Rattle.xp_facilities.specs.declared.fault.FacilityFault.{FacilityFault}
use Rattle.xp_facilities.specs.declared.fault.FacilityFault.TheVariants.{Length, Code, Param, Memory}
use Rattle.xp_causes.specs.declared.refusal.TheConstants.Refusal.{FACILITY_LENGTH, FACILITY_NOT_ALLOWED, FACILITY_PARAMETER}
use Rattle.xp_decide.specs.declared.fault.CallFault.{CallFault}
use Rattle.xp_decide.specs.declared.fault.CallFault.TheVariants as faults

-- the error for each fault of the facilities
abbrev pub fault_of : FacilityFault → CallFault
fault_of Length = faults.Refused FACILITY_LENGTH
fault_of Code = faults.Refused FACILITY_NOT_ALLOWED
fault_of Param = faults.Refused FACILITY_PARAMETER
fault_of Memory = faults.Memory
