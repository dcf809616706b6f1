-- A piece of a script, one line after the other.
use Rattle.std.proofs.Common.{◌≡◌, ℕ, zero, suc, ◌+◌, ◌≤◌, List, [], ◌∷◌, ◌++◌, length, length-append, take, drop, get_or, refl, sym, ap, ◌∙◌, append_assoc, append-nil, subst, arith, Option, None, Some, Result, Ok, Err, OnOk, IfErr}
use Rattle.std.proofs.lemmas.Bool.{eq-eqb, eqb-true}
use Rattle.std.proofs.lemmas.List.{drop_more, take-append-drop, take_all}
use Rattle.std.specs.Io.KnownBytes.{Appends}
use Rattle.memchr.specs.Find.{IsFirstByte, Nowhere, Passes, is_byte}
use Rattle.xp_exchange.specs.declared.fault.ReplayFault.{ReplayFault}
use Rattle.xp_exchange.specs.steps.Replaying.{Progress, TakesIn, Took, Ended, Overflows}
use Rattle.xp_exchange.specs.WholeScript.{Stops}
use Rattle.xp_exchange.specs.Splitting.{line_feed, HasNoFeed}
use Rattle.xp_writing.proofs.Bytes.{appends_nothing, appends_both}
use Rattle.xp_exchange.proofs.Lines.{no_feed_both, took_none, took_octets, took_line, took_stops, took_overflows}

no_feed_front : (octets : List ℕ) (count : ℕ) → Nowhere (Passes (is_byte line_feed) octets) 0 count → HasNoFeed (take count octets)
no_feed_front octets zero none = tt
no_feed_front [] (suc count) none = tt
no_feed_front (octet ∷ octets) (suc count) none = (
  λ is. none 0 (omega arith) (omega arith) (eq-eqb octet line_feed is),
  no_feed_front octets count (λ place low below passes. none (suc place) (omega arith) (omega (arith, below)) passes),
)

-- The first line feed of octets stands at this place.
pub record Found (octets : List ℕ) (place : ℕ) : Type 0 where
  pub clean : HasNoFeed (take place octets)
  pub parts : octets ≡ take place octets ++ (line_feed ∷ drop (place + 1) octets)

pub found_at : (octets : List ℕ) (place : ℕ) → IsFirstByte (is_byte line_feed) octets (Some place) → Found octets place
found_at octets place is = record {
  clean = no_feed_front octets place is.0.before;
  parts = sym (take-append-drop place octets)
      ∙ ap (λ rest. take place octets ++ rest) (drop_more octets place 0 is.0.high)
      ∙ ap (λ octet. take place octets ++ (octet ∷ drop (place + 1) octets)) (eqb-true (get_or octets place 0) line_feed is.1);
}

pub found_none : (octets : List ℕ) → IsFirstByte (is_byte line_feed) octets None → HasNoFeed octets
found_none octets is = subst HasNoFeed (take_all (length octets) octets (omega arith)) (no_feed_front octets (length octets) is)

-- what was taken, then octets of the line, then the others
onward : (octets front rest some more others : List ℕ) → octets ≡ front ++ rest → rest ≡ some ++ more → octets ++ others ≡ front ++ (some ++ (more ++ others))
onward octets front rest some more others whole parts =
    ap (λ all. all ++ others) (whole ∙ ap (λ all. front ++ all) parts)
    ∙ append_assoc front (some ++ more) others
    ∙ ap (λ all. front ++ all) (append_assoc some more others)

module _ {A : Type 0} where
  -- The octets before the rest were taken.
  pub record Taken (first : Progress A) (octets rest : List ℕ) (now : Progress A) (old new : Option (List ℕ)) : Type 0 where
    pub front : List ℕ
    pub parts : octets ≡ front ++ rest
    pub text : List ℕ
    pub wrote : Appends old new text
    pub took : TakesIn first front now text
    pub number : now.number ≤ first.number + length front
    pub line : HasNoFeed now.line

  pub taken_none : (first : Progress A) (octets : List ℕ) (known : Option (List ℕ)) → HasNoFeed first.line → Taken first octets octets first known known
  taken_none first octets known clean = record {
    front = [];
    parts = refl;
    text = [];
    wrote = appends_nothing known;
    took = took_none first;
    number = omega arith;
    line = clean;
  }

  pub taken_line : (first before full now : Progress A) (octets rest : List ℕ) (end : ℕ) (old between new : Option (List ℕ)) → Taken first octets rest before old between → Found rest end
      → full ≡ record before { line = before.line ++ take end rest } → (text : List ℕ) × Appends between new text × Ended full (Ok tt) now text
      → Taken first octets (drop (end + 1) rest) now old new
  taken_line first before full now octets rest end old between new taken found added ended =
      let front = taken.front ++ take end rest in
      let took = took_octets first before full taken.front (take end rest) taken.text taken.took added in
      let clean = subst HasNoFeed (sym (ap (λ progress. progress.line) added)) (no_feed_both before.line (take end rest) taken.line found.clean) in
      let same : full.number ≡ before.number = ap (λ progress. progress.number) added in
      let whole = taken.parts ∙ ap (λ all. taken.front ++ all) found.parts ∙ sym (append_assoc taken.front (take end rest) (line_feed ∷ drop (end + 1) rest))
      ∙ sym (append_assoc front (line_feed ∷ []) (drop (end + 1) rest)) in
      record {
        front = front ++ line_feed ∷ [];
        parts = whole;
        text = taken.text ++ ended.0;
        wrote = appends_both old between new taken.text ended.0 taken.wrote ended.1;
        took = took_line first full now front line_feed taken.text ended.0 took refl clean ended.2.0 ended.2.1 ended.2.2;
        number = omega (arith, taken.number, same, ended.2.2, length-append taken.front (take end rest), length-append front (line_feed ∷ []));
        line = subst HasNoFeed (sym ended.2.1) tt;
      }

  -- it stops at a line feed
  pub taken_stops : (fault : ReplayFault) (first before full now : Progress A) (octets rest : List ℕ) (end : ℕ) (old between new : Option (List ℕ)) → Taken first octets rest before old between → Found rest end
      → full ≡ record before { line = before.line ++ take end rest } → (text : List ℕ) × Appends between new text × Ended full (Err fault) now text
      → (text : List ℕ) × Appends old new text × Took first octets (Err fault) now text
  taken_stops fault first before full now octets rest end old between new taken found added ended =
      let front = taken.front ++ take end rest in
      let took = took_octets first before full taken.front (take end rest) taken.text taken.took added in
      let clean = subst HasNoFeed (sym (ap (λ progress. progress.line) added)) (no_feed_both before.line (take end rest) taken.line found.clean) in (
        taken.text ++ ended.0,
        appends_both old between new taken.text ended.0 taken.wrote ended.1,
        λ more left. subst (λ whole. Stops first.state first.number (first.line ++ whole) fault left now.state.exchange (taken.text ++ ended.0))
            (append_assoc taken.front (take end rest) (line_feed ∷ (drop (end + 1) rest ++ more)) ∙ sym (onward octets taken.front rest (take end rest) (line_feed ∷ drop (end + 1) rest) more taken.parts found.parts))
            (took_stops fault first full now.state front (line_feed ∷ (drop (end + 1) rest ++ more)) left taken.text ended.0 took refl clean ended.2),
      )

  -- it stops in the midst of a line
  pub taken_overflows : (fault : ReplayFault) (first before now : Progress A) (octets rest some tail : List ℕ) (old new : Option (List ℕ)) → Taken first octets rest before old new → rest ≡ some ++ tail → HasNoFeed some
      → Overflows before some fault → now.state ≡ before.state
      → (text : List ℕ) × Appends old new text × Took first octets (Err fault) now text
  taken_overflows fault first before now octets rest some tail old new taken parts other over kept = (
    taken.text,
    taken.wrote,
    λ more left. subst (λ whole. Stops first.state first.number (first.line ++ whole) fault left now.state.exchange taken.text) (sym (onward octets taken.front rest some tail more taken.parts parts))
        (subst (λ state. Stops first.state first.number (first.line ++ (taken.front ++ (some ++ (tail ++ more)))) fault left state.exchange taken.text) (sym kept)
        (took_overflows fault first before taken.front some (tail ++ more) left taken.text taken.took other taken.line over)),
  )

  -- the rest is the beginning of a line
  pub taken_rest : (result : Result (Unit {0}) ReplayFault) (first before now : Progress A) (octets rest : List ℕ) (old new : Option (List ℕ)) → Taken first octets rest before old new → HasNoFeed rest
      → OnOk result (now ≡ record before { line = before.line ++ rest }) → IfErr result (λ fault. Overflows before rest fault) → now.state ≡ before.state
      → (text : List ℕ) × Appends old new text × Took first octets result now text
  taken_rest (Ok done) first before now octets rest old new taken clean added over kept = (
    taken.text,
    taken.wrote,
    subst (λ front. TakesIn first front now taken.text) (sym taken.parts) (took_octets first before now taken.front rest taken.text taken.took added),
  )
  taken_rest (Err fault) first before now octets rest old new taken clean added over kept =
      taken_overflows fault first before now octets rest rest [] old new taken (sym (append-nil rest)) clean over kept
