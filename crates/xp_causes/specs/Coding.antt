-- The codes of causes, diagnostics and refusals.
use Rattle.std.specs.Prelude.{◌≡◌, ℕ}
use Rattle.xp_causes.specs.declared.clearing_cause.TheConstants as clearing
use Rattle.xp_causes.specs.declared.diagnostic.TheConstants as diagnostic
use Rattle.xp_causes.specs.declared.dte.TheConstants.{DTE_ORIGINATED, FIRST_DTE_CAUSE}
use Rattle.xp_causes.specs.declared.refusal.Refusal.{Refusal}
use Rattle.xp_causes.specs.declared.refusal.TheConstants.Refusal as refusal
use Rattle.xp_causes.specs.declared.resetting_cause.TheConstants as resetting

-- the clearing causes of X.25 clause 5.2.4
pub record ClearingCausesAreCoded : Type 0 where
  pub number_busy : clearing.NUMBER_BUSY ≡ 0x01
  pub invalid_facility_request : clearing.INVALID_FACILITY_REQUEST ≡ 0x03
  pub network_congestion : clearing.NETWORK_CONGESTION ≡ 0x05
  pub out_of_order : clearing.OUT_OF_ORDER ≡ 0x09
  pub access_barred : clearing.ACCESS_BARRED ≡ 0x0b
  pub not_obtainable : clearing.NOT_OBTAINABLE ≡ 0x0d
  pub remote_procedure_error : clearing.REMOTE_PROCEDURE_ERROR ≡ 0x11
  pub local_procedure_error : clearing.LOCAL_PROCEDURE_ERROR ≡ 0x13
  pub reverse_charging_not_subscribed : clearing.REVERSE_CHARGING_NOT_SUBSCRIBED ≡ 0x19
  pub fast_select_not_subscribed : clearing.FAST_SELECT_NOT_SUBSCRIBED ≡ 0x29

-- the resetting causes of X.25 clause 5.4.3
pub record ResettingCausesAreCoded : Type 0 where
  pub remote_procedure_error : resetting.REMOTE_PROCEDURE_ERROR ≡ 0x03
  pub local_procedure_error : resetting.LOCAL_PROCEDURE_ERROR ≡ 0x05

-- the causes that come from a DTE, of clears and of resets
pub record DteCausesAreCoded : Type 0 where
  pub dte_originated : DTE_ORIGINATED ≡ 0x00
  pub first_of_dte : FIRST_DTE_CAUSE ≡ 0x80

abbrev pub CausesAreCoded : Type 0
CausesAreCoded = ClearingCausesAreCoded × ResettingCausesAreCoded × DteCausesAreCoded

-- the diagnostic codes of X.25 Annex E
pub record DiagnosticsAreCoded : Type 0 where
  pub no_additional_information : diagnostic.NO_ADDITIONAL_INFORMATION ≡ 0
  pub invalid_send_number : diagnostic.INVALID_SEND_NUMBER ≡ 1
  pub invalid_receive_number : diagnostic.INVALID_RECEIVE_NUMBER ≡ 2
  pub invalid_in_p1 : diagnostic.INVALID_IN_P1 ≡ 20
  pub invalid_in_p2 : diagnostic.INVALID_IN_P2 ≡ 21
  pub invalid_in_p3 : diagnostic.INVALID_IN_P3 ≡ 22
  pub invalid_in_p4 : diagnostic.INVALID_IN_P4 ≡ 23
  pub invalid_in_p5 : diagnostic.INVALID_IN_P5 ≡ 24
  pub invalid_in_p6 : diagnostic.INVALID_IN_P6 ≡ 25
  pub invalid_in_p7 : diagnostic.INVALID_IN_P7 ≡ 26
  pub invalid_in_d1 : diagnostic.INVALID_IN_D1 ≡ 27
  pub invalid_in_d2 : diagnostic.INVALID_IN_D2 ≡ 28
  pub invalid_in_d3 : diagnostic.INVALID_IN_D3 ≡ 29
  pub unidentifiable_packet : diagnostic.UNIDENTIFIABLE_PACKET ≡ 33
  pub reject_not_subscribed : diagnostic.REJECT_NOT_SUBSCRIBED ≡ 37
  pub packet_too_short : diagnostic.PACKET_TOO_SHORT ≡ 38
  pub packet_too_long : diagnostic.PACKET_TOO_LONG ≡ 39
  pub invalid_format_identifier : diagnostic.INVALID_FORMAT_IDENTIFIER ≡ 40
  pub not_compatible_with_facility : diagnostic.NOT_COMPATIBLE_WITH_FACILITY ≡ 42
  pub unauthorized_interrupt_confirmation : diagnostic.UNAUTHORIZED_INTERRUPT_CONFIRMATION ≡ 43
  pub unauthorized_interrupt : diagnostic.UNAUTHORIZED_INTERRUPT ≡ 44
  pub timer_expired_for_incoming_call : diagnostic.TIMER_EXPIRED_FOR_INCOMING_CALL ≡ 49
  pub facility_code_not_allowed : diagnostic.FACILITY_CODE_NOT_ALLOWED ≡ 65
  pub facility_parameter_not_allowed : diagnostic.FACILITY_PARAMETER_NOT_ALLOWED ≡ 66
  pub invalid_called_address : diagnostic.INVALID_CALLED_ADDRESS ≡ 67
  pub invalid_calling_address : diagnostic.INVALID_CALLING_ADDRESS ≡ 68
  pub invalid_facility_length : diagnostic.INVALID_FACILITY_LENGTH ≡ 69
  pub incoming_call_barred : diagnostic.INCOMING_CALL_BARRED ≡ 70
  pub no_logical_channel_available : diagnostic.NO_LOGICAL_CHANNEL_AVAILABLE ≡ 71
  pub call_collision : diagnostic.CALL_COLLISION ≡ 72
  pub too_many_redirections : diagnostic.TOO_MANY_REDIRECTIONS ≡ 78

-- the cause and the diagnostic of the clear indication for a refusal
abbrev pub indicated : Refusal → ℕ × ℕ
indicated refused = (refused.cause, refused.diagnostic)

pub record RefusalsAreCoded : Type 0 where
  pub facility_length : indicated refusal.FACILITY_LENGTH ≡ (0x13, 69)
  pub facility_not_allowed : indicated refusal.FACILITY_NOT_ALLOWED ≡ (0x03, 65)
  pub facility_parameter : indicated refusal.FACILITY_PARAMETER ≡ (0x03, 66)
  pub user_data_too_long : indicated refusal.USER_DATA_TOO_LONG ≡ (0x13, 39)
  pub access_barred : indicated refusal.ACCESS_BARRED ≡ (0x0b, 0)
  pub group_not_known : indicated refusal.GROUP_NOT_KNOWN ≡ (0x0b, 66)
  pub address_not_known : indicated refusal.ADDRESS_NOT_KNOWN ≡ (0x0d, 67)
  pub caller_not_known : indicated refusal.CALLER_NOT_KNOWN ≡ (0x0b, 68)
  pub incoming_calls_barred : indicated refusal.INCOMING_CALLS_BARRED ≡ (0x0b, 70)
  pub reverse_charging_not_accepted : indicated refusal.REVERSE_CHARGING_NOT_ACCEPTED ≡ (0x19, 0)
  pub fast_select_not_accepted : indicated refusal.FAST_SELECT_NOT_ACCEPTED ≡ (0x29, 0)
  pub out_of_order : indicated refusal.OUT_OF_ORDER ≡ (0x09, 0)
  pub number_busy : indicated refusal.NUMBER_BUSY ≡ (0x01, 71)
  pub too_many_redirections : indicated refusal.TOO_MANY_REDIRECTIONS ≡ (0x0d, 78)
