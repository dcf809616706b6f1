-- What a take shows a pass.
use Rattle.std.proofs.Common.{arith, ◌≡◌, ◌≢◌, ℕ, true, false, true≢false, cond, eqb, not, List, [], ◌∷◌, ◌++◌, sym, refl, ap, ◌∙◌, subst, eq-eqb}
use Rattle.std.proofs.lemmas.Bool.{ne_eqb}
use Rattle.std.proofs.lemmas.List.Elements.{All-cons, All-head, All-nil, All-tail}
use Rattle.std.specs.Prelude.{◌&&◌, All}
use Rattle.xp_subs.specs.Tables.{Tables}
use Rattle.xp_step.specs.declared.entry.Entry.{Entry}
use Rattle.xp_step.specs.declared.event.Event.{Event}
use Rattle.xp_step.specs.declared.event.What.{What}
use Rattle.xp_step.specs.declared.event.What.TheVariants as events
use Rattle.xp_machine.specs.World.{World}
use Rattle.xp_lock.specs.declared.receipt.Receipt.{Receipt}
use Rattle.xp_lock.specs.Forced.{Stalls}
use Rattle.xp_lock.specs.Histories.{Forcing, IsForcing, entries_of}
use Rattle.xp_seats.specs.Handed.{handed, is_raised, is_stall}
use Rattle.xp_lock.specs.Passes.{GainsEvent, IsLegal, Pass}
use Rattle.xp_lock.specs.Locked.{Locked, Takes}
use Rattle.xp_seats.specs.Views.{StartsWith}
use Rattle.xp_seats.proofs.Lists.{handed-append}

-- the exchange raises stalls
raised_stall : {A : Type 0} (what : What A) → is_stall what ≡ true → is_raised what ≡ true
raised_stall events.Stall is = refl
raised_stall what is = absurd (true≢false (sym is))

-- what no line raises is no stall
pub not_stall : {A : Type 0} (what : What A) → is_raised what ≡ false → is_stall what ≡ false
not_stall events.Stall is = absurd (true≢false is)
not_stall what is = refl

module _ {A : Type 0} where
  abbrev IsStall : Entry A → Type 0
  IsStall entry = is_stall entry.event.what ≡ true

  -- all these entries are stalls
  abbrev AreStalls : List (Entry A) → Type 0
  AreStalls entries = All IsStall entries

  all_stalls : (subs : Tables) (before : List (Entry A)) (world : World) (places : ℕ → ℕ) (entries stalls : List (Entry A)) (last : World)
      → Stalls subs before world places entries stalls last → AreStalls stalls
  all_stalls subs before world places entries [] last same = All-nil IsStall
  all_stalls subs before world places entries (stall ∷ stalls) last h =
      All-cons IsStall stall stalls (ap is_stall h.1) (all_stalls subs before h.0 places (entries ++ stall ∷ []) stalls last h.4)

  -- no line hands in stalls
  handed_stalls : (line : ℕ) (stalls : List (Entry A)) → AreStalls stalls → handed line stalls ≡ []
  handed_stalls line [] h = refl
  handed_stalls line (stall ∷ stalls) h =
      let rest = handed line stalls in
      ap (λ b. cond (eqb stall.event.line line && not b) (stall ∷ rest) rest) (raised_stall stall.event.what (All-head IsStall stall stalls h)) ∙ neither (eqb stall.event.line line) ∙ handed_stalls line stalls (All-tail IsStall stall stalls h)
    where
      neither : (b : _) → cond (b && false) (stall ∷ handed line stalls) (handed line stalls) ≡ handed line stalls
      neither true = refl
      neither false = refl

  module _ (subs : Tables) (before : List (Entry A)) (forcing : Forcing A) (is : IsForcing subs before forcing) where
    abbrev entry : Entry A
    entry = forcing.entry

    none_handed : (line : ℕ) → handed line forcing.stalls ≡ []
    none_handed line = grind (arith, all_stalls, handed_stalls)

    -- an event that the exchange itself raised, and its stalls, are no line's
    pub raised_handed : (line : ℕ) → is_raised entry.event.what ≡ true → handed line (entries_of forcing) ≡ []
    raised_handed line raised = grind (arith, none_handed)

    -- an event of another line, and its stalls
    pub handed_other : (line : ℕ) → entry.event.line ≢ line → handed line (entries_of forcing) ≡ []
    handed_other line other = grind (arith, ne_eqb, none_handed)

    -- an event that this line offered, and its stalls
    pub handed_own : (line : ℕ) → entry.event.line ≡ line → is_raised entry.event.what ≡ false → handed line (entries_of forcing) ≡ entry ∷ []
    handed_own line own kind = grind (arith, eq-eqb, none_handed)

  -- the line saw a front of the history with all entries of its own
  pub gains : (old : Locked A) (event : Event A) (done : Receipt) (new : Locked A) → Takes old event done new → (pass : Pass A) → is_raised event.what ≡ false → event.line ≡ pass.line
      → StartsWith old.history pass.seen → handed pass.line old.history ≡ handed pass.line pass.seen → IsLegal old.subs new.history
      → GainsEvent old.subs pass event done (record pass { seen = new.history })
  gains old event done new takes pass kind own front all legal =
      let entered = takes.entered in
      let forcing = entered.forcing in
      let one = handed_own old.subs old.history forcing entered.forced pass.line (ap (λ e. e.line) entered.event_is ∙ own) (ap (λ e. is_raised e.what) entered.event_is ∙ kind) in
      record {
        line = refl;
        taken = refl;
        between = front.0;
        entered = record {
          forcing = forcing;
          event_is = entered.event_is;
          forced = subst (λ before. IsForcing old.subs before forcing) front.1 entered.forced;
          history = entered.history ∙ ap (λ before. before ++ entries_of forcing) front.1;
          number = entered.number;
          records = entered.records;
          connection = entered.connection;
          given = entered.given;
        };
        own_entries_are = ap (handed pass.line) entered.history ∙ handed-append pass.line old.history (entries_of forcing)
            ∙ (λ i. all i ++ one i);
        legal = legal;
      }
