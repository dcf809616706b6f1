-- Records that a printer is given, some after the others.
use Rattle.std.proofs.Common.{◌≡◌, ℕ, ◌+◌, ◌≤◌, List, [], ◌++◌, Option, Result, Ok, Err, true, false, ap, append-nil, append_assoc, arith, flat_map, is_ok, length, length-append, refl, subst, sym, ◌∙◌}
use Rattle.std.proofs.lemmas.Grind.{flat_map-append}
use Rattle.std.specs.Io.KnownBytes.{Appends}
use Rattle.xp_cdr.specs.RecordLine.{record_line}
use Rattle.xp_cdr.specs.declared.ended.EndedCall.{EndedCall}
use Rattle.xp_writing.proofs.Bytes.{appends_both, appends_nothing}
use Rattle.xp_keeping.proofs.Fronts.{front_after}
use Rattle.xp_keeping.specs.Printing.{HasPrinted, IsFront, IsPrinted, Printer, Prints}
use Rattle.xp_keeping.specs.declared.keep_fault.KeepFault.{KeepFault}
use Rattle.xp_keeping.specs.steps.Printing.{PrintsOn}

-- a front of the first of two texts
front_before : (front first second : List ℕ) → IsFront front first → IsFront front (first ++ second)
front_before front first second is = (is.0 ++ second, ap (λ text. text ++ second) is.1 ∙ append_assoc front is.0 second)

-- a text, and then another
pub prints_both : (before between after : Option (List ℕ)) (first second : List ℕ) (so_far result : Result (Unit {0}) KeepFault)
    → Prints before between first so_far → PrintsOn so_far between after second result → Prints before after (first ++ second) result
prints_both before between after first second (Ok done) (Ok also) printed more = appends_both before between after first second printed more
prints_both before between after first second (Ok done) (Err fault) printed more =
    (first ++ more.0, appends_both before between after first more.0 printed more.1, front_after first more.0 second more.2)
prints_both before between after first second (Err fault) result printed more =
    subst (Prints before after (first ++ second)) (sym more.1)
    (printed.0, subst (λ known. Appends before known printed.0) (sym more.0) printed.1, front_before printed.0 first second printed.2)

-- the records that it was given, and then these
pub printed_more : (given records : List EndedCall) (before between after : Option (List ℕ)) (so_far result : Result (Unit {0}) KeepFault)
    → Prints before between (flat_map record_line given) so_far → PrintsOn so_far between after (flat_map record_line records) result
    → Prints before after (flat_map record_line (given ++ records)) result
printed_more given records before between after so_far result printed more =
    subst (λ whole. Prints before after whole result) (sym (flat_map-append record_line given records))
    (prints_both before between after (flat_map record_line given) (flat_map record_line records) so_far result printed more)

-- what was written
text_written : (old new : Option (List ℕ)) (whole : List ℕ) (so_far result : Result (Unit {0}) KeepFault) → PrintsOn so_far old new whole result
    → (text : List ℕ) × Appends old new text
text_written old new whole (Ok done) (Ok also) more = (whole, more)
text_written old new whole (Ok done) (Err fault) more = (more.0, more.1)
text_written old new whole (Err fault) result more = ([], subst (λ known. Appends old known []) (sym more.0) (appends_nothing old))

-- what was printed stays so
printed_still : (given records : List EndedCall) (before between after : Option (List ℕ)) (so_far result : Result (Unit {0}) KeepFault) (count : ℕ)
    → HasPrinted (record { given = given; before = before; contents = between; outcome = so_far }) count
    → PrintsOn so_far between after (flat_map record_line records) result
    → HasPrinted (record { given = given ++ records; before = before; contents = after; outcome = result }) count
printed_still given records before between after so_far result count has more =
    let wrote = text_written between after (flat_map record_line records) so_far result more in
    let text = flat_map record_line has.kept in
    record {
      kept = has.kept;
      rest = has.rest ++ records;
      given_are = ap (λ first. first ++ records) has.given_are ∙ append_assoc has.kept has.rest records;
      within = has.within;
      more = has.more ++ wrote.0;
      written = subst (Appends before after) (append_assoc text has.more wrote.0)
          (appends_both before between after (text ++ has.more) wrote.0 has.written wrote.1);
    }

-- all are printed
printed_all : (printer : Printer) (count : ℕ) → printer.outcome ≡ Ok tt → IsPrinted printer → count ≤ length printer.given → HasPrinted printer count
printed_all printer count fine printed within =
    let text = flat_map record_line printer.given in
    record {
      kept = printer.given;
      rest = [];
      given_are = sym (append-nil printer.given);
      within = within;
      more = [];
      written = subst (Appends printer.before printer.contents) (sym (append-nil text))
          (subst (λ outcome. Prints printer.before printer.contents text outcome) fine printed);
    }

at_most : (count next : ℕ) (kept rest given records : List EndedCall) → given ≡ kept ++ rest → count ≤ length kept → next ≤ count + length records → next ≤ length (given ++ records)
at_most count next kept rest given records is within more =
    omega (arith, length-append given records, length-append kept rest, ap length is, within, more)

-- more are printed, or a fault is told
pub printed_on : (given records : List EndedCall) (before between after : Option (List ℕ)) (so_far result : Result (Unit {0}) KeepFault) (count next : ℕ)
    → IsPrinted (record { given = given ++ records; before = before; contents = after; outcome = result })
    → HasPrinted (record { given = given; before = before; contents = between; outcome = so_far }) count
    → PrintsOn so_far between after (flat_map record_line records) result
    → (is_ok result ≡ true → next ≤ count + length records) → (is_ok result ≡ false → next ≡ count)
    → HasPrinted (record { given = given ++ records; before = before; contents = after; outcome = result }) next
printed_on given records before between after so_far (Ok done) count next printed has writes more same =
    printed_all (record { given = given ++ records; before = before; contents = after; outcome = Ok done }) next refl printed
    (at_most count next has.kept has.rest given records has.given_are has.within (more refl))
printed_on given records before between after so_far (Err fault) count next printed has writes more same =
    subst (HasPrinted (record { given = given ++ records; before = before; contents = after; outcome = Err fault })) (sym (same refl))
    (printed_still given records before between after so_far (Err fault) count has writes)
