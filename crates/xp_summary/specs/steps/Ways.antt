-- What lets calls from one station to another through, as the private functions look for it.
use Rattle.std.specs.Prelude.{◌≡◌, ℕ, true, false, not, Ok, ◌⊎◌, nat_eq, Bool, List}
use Rattle.std.specs.List.{list_any, Any}
use Rattle.xp_facilities.specs.declared.selection.Selection.{Selection}
use Rattle.xp_facilities.specs.declared.selection.Selection.TheVariants.{Closed, WithOutsideAccess}
use Rattle.xp_groups.specs.Admits.{Admits}
use Rattle.xp_groups.specs.Intends.{Intends}
use Rattle.xp_groups.specs.declared.admission.Admission.{Admission}
use Rattle.xp_groups.specs.declared.intention.Intent.{Intent}
use Rattle.xp_subs.specs.declared.station.Membership.{Membership}
use Rattle.xp_subs.specs.declared.station.Station.{Station}

-- one of the lines is another one than `line`
abbrev pub has_besides : List ℕ → ℕ → Bool
has_besides lines line = list_any (λ own. not (nat_eq own line)) lines

-- a line of the caller, and another one of the called station
abbrev pub has_two_ends : Station → Station → Bool
has_two_ends caller called = list_any (has_besides called.lines.items) caller.lines.items

-- the one makes calls, the other takes them, and there is a line for either end
pub record IsOpen (caller called : Station) : Type 0 where
  pub outgoing : caller.facilities.outgoing_barred ≡ false
  pub incoming : called.facilities.incoming_barred ≡ false
  pub ends : has_two_ends caller called ≡ true

-- closed user groups let a call with this selection through
pub record LetsThrough (caller called : Station) (selection : Selection) : Type 0 where
  pub intent : Intent
  pub admission : Admission
  pub intends : Intends caller selection (Ok intent)
  pub admits : Admits intent called (Ok admission)

-- they let one through that selects this group of the caller's
abbrev pub LetsThroughIn : Station → Station → Membership → Type 0
LetsThroughIn caller called held =
    LetsThrough caller called (Closed held.index) ⊎ LetsThrough caller called (WithOutsideAccess held.index)

abbrev pub LetsThroughInSome : Station → Station → Type 0
LetsThroughInSome caller called = Any (LetsThroughIn caller called) caller.memberships.items
