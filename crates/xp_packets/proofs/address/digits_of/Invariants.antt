use Rattle.std.proofs.Common.{◌≡◌, true, take, drop, length}
use Rattle.std.specs.List.{list_all}
use Rattle.xp_packets.specs.Digits.{half_octets}
use Rattle.xp_packets.proofs.HalfOctets.{is_digit}
use Rattle.xp_packets.proofs.address.digits_of.Given as goal

-- the digits so far are the half-octets so far, and each is a digit
abbrev pub invariant-loop-place : goal.invariant-loop-place
invariant-loop-place l = record {
  front : l.digits ≡ take l.place (drop l.from (half_octets l.octets));
  count : length l.digits ≡ l.place;
  are : list_all is_digit (take l.place (drop l.from (half_octets l.octets))) ≡ true;
}
