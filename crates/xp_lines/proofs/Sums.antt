-- Events that octets tell, and expiries, which none do.
use Rattle.std.proofs.Common.{◌≡◌, ℕ, List, [], ◌∷◌, ◌++◌, refl, ap, ◌∙◌, Bool, true, false, cond, Option}
use Rattle.std.specs.List.{AllByRecursion}
use Rattle.xp_packets.specs.declared.modulus.Modulus.{Modulus}
use Rattle.xp_step.specs.declared.event.What.{What}
use Rattle.xp_step.specs.declared.event.What.TheVariants.{Up, Down, Frame, WrongFrame, Expire, Stall, Reload}
use Rattle.xp_lines.specs.FrameEvents.{AreReadAs, IsReadAs}
use Rattle.xp_lines.specs.AnswerTimer.{Expires, expiry, has_expired}
use Rattle.xp_lines.specs.Together.{but_expiries, is_no_expiry}

module _ {A : Type 0} where
  abbrev pub HasNoExpiry : List (What A) → Type 0
  HasNoExpiry whats = AllByRecursion (λ (what : What A). is_no_expiry what ≡ true) whats

  one_of_read : (modulus : Modulus) (packet : List ℕ) (what : What A) → IsReadAs modulus packet what → is_no_expiry what ≡ true
  one_of_read modulus packet (Frame identifier read) is = refl
  one_of_read modulus packet (WrongFrame wrong) is = refl
  one_of_read modulus packet Up is = refl
  one_of_read modulus packet Down is = refl
  one_of_read modulus packet Expire is = absurd is
  one_of_read modulus packet Stall is = refl
  one_of_read modulus packet Reload is = refl

  pub none_of_read : (modulus : Modulus) (packets : List (List ℕ)) (read : List (What A)) → AreReadAs modulus packets read → HasNoExpiry read
  none_of_read modulus [] [] are = tt
  none_of_read modulus [] (what ∷ read) are = elim are [ ]
  none_of_read modulus (packet ∷ packets) [] are = elim are [ ]
  none_of_read modulus (packet ∷ packets) (what ∷ read) are = (one_of_read modulus packet what are.0, none_of_read modulus packets read are.1)

  pub none_both : (whats others : List (What A)) → HasNoExpiry whats → HasNoExpiry others → HasNoExpiry (whats ++ others)
  none_both [] others none all = all
  none_both (what ∷ whats) others none all = (none.0, none_both whats others none.1 all)

  pub none_front : (whats others : List (What A)) → HasNoExpiry (whats ++ others) → HasNoExpiry whats
  none_front [] others none = tt
  none_front (what ∷ whats) others none = (none.0, none_front whats others none.1)

  pub none_behind : (whats others : List (What A)) → HasNoExpiry (whats ++ others) → HasNoExpiry others
  none_behind [] others none = none
  none_behind (what ∷ whats) others none = none_behind whats others none.1

  pub all_without : (whats : List (What A)) → HasNoExpiry whats → but_expiries whats ≡ whats
  all_without [] none = refl
  all_without (what ∷ whats) none =
      ap (λ is. cond is (what ∷ but_expiries whats) (but_expiries whats)) none.0 ∙ ap (λ rest. what ∷ rest) (all_without whats none.1)

  none_of_expiry : (late : Bool) → but_expiries {A = A} (expiry late) ≡ []
  none_of_expiry true = refl
  none_of_expiry false = refl

  pub none_left : (linked : Bool) (now : ℕ) (since : Option ℕ) (expired : List (What A)) (after : Option ℕ) → Expires linked now since expired after → but_expiries expired ≡ []
  none_left true now since expired after lapses = ap but_expiries lapses.0 ∙ none_of_expiry (has_expired now since)
  none_left false now since expired after lapses = ap but_expiries lapses
