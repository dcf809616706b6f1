-- A field tells one value.
use Rattle.std.proofs.Common.{◌≡◌, ℕ, ◌+◌, ◌*◌, ◌/◌, ◌%◌, ◌<◌, ◌≤◌, true, cond, eqb, List, [], ◌∷◌, length, take, Option, Some, None, refl, sym, ap, ◌∙◌, arith}
use Rattle.std.specs.Prelude.{IfSome}
use Rattle.std.proofs.lemmas.Bool.{and_parts, leb-true}
use Rattle.std.proofs.lemmas.Option.{same_Some}
use Rattle.std.proofs.Math.Seq.{take-append_seam}
use Rattle.xp_packets.specs.Digits.{AreDigits, half_octets, filling}
use Rattle.xp_packets.specs.Writing.{packed}
use Rattle.xp_packets.proofs.HalfOctets.{half_octets-packed}
use Rattle.xp_facilities.specs.Requested.{chosen, last_of, sizes_within, octet_of, fast_of, first_bit, dte_of, before_marker}
use Rattle.xp_facilities.specs.Laws.{HasDigits, IndicatesOnlyThis}
use Rattle.xp_facilities.specs.Octets.{reason_octet}
use Rattle.xp_facilities.specs.Indicated.{decimal_octet, duration_octets, eight_digits, modified, duration, counts, redirection, table, duration_fits, counts_fit, indicated_items, Indicates}
use Rattle.xp_facilities.specs.declared.redirection.Reason.{Reason}
use Rattle.xp_facilities.specs.declared.redirection.Reason.TheVariants.{Busy, Distribution, OutOfOrder, Systematic}
use Rattle.xp_facilities.specs.declared.redirection.RedirectionNotification.{RedirectionNotification}
use Rattle.xp_facilities.specs.declared.segment_counts.SegmentCounts.{SegmentCounts}
use Rattle.xp_facilities.specs.declared.indicated.IndicatedFacilities.{IndicatedFacilities}
use Rattle.xp_facilities.proofs.Bounds.{told_field}
use Rattle.xp_facilities.proofs.Reading.{IsField-unique}
use Rattle.xp_facilities.proofs.ReadBack.{found, found-told, in_range, selection-back, fast-back, reverse-back, throughput-back, sizes-back, dte-back}

-- ---- what is told alone, read back

abbrev reason_of : ℕ → Reason
reason_of octet = cond (eqb octet 0x01) Busy (cond (eqb octet 0x07) Distribution (cond (eqb octet 0x09) OutOfOrder Systematic))

reason-back : (reason : Reason) → reason ≡ reason_of (reason_octet reason)
reason-back Busy = refl
reason-back Distribution = refl
reason-back OutOfOrder = refl
reason-back Systematic = refl

abbrev modified_in : Option (List ℕ) → Option Reason
modified_in None = None
modified_in (Some []) = None
modified_in (Some (octet ∷ octets)) = Some (reason_of octet)

modified-back : (reason : Option Reason) → reason ≡ modified_in (modified reason)
unfolding modified
modified-back None = refl
modified-back (Some reason) = ap (λ (r : Reason). Some r) (reason-back reason)

abbrev two_of : ℕ → ℕ
two_of octet = 10 * (octet / 16) + octet % 16

two-back : (number : ℕ) → number < 100 → two_of (decimal_octet number) ≡ number
unfolding decimal_octet
two-back number below =
    let high : (16 * (number / 10) + number % 10) / 16 ≡ number / 10 = omega (arith, below) in
    let low : (16 * (number / 10) + number % 10) % 16 ≡ number % 10 = omega (arith, below) in
    rw (high, low) (omega arith)

abbrev eight_of : ℕ → ℕ → ℕ → ℕ → ℕ
eight_of a b c d = 1_000_000 * two_of a + 10_000 * two_of b + 100 * two_of c + two_of d

eight-back : (number : ℕ) → number ≤ 99_999_999
    → eight_of (decimal_octet (number / 1_000_000 % 100)) (decimal_octet (number / 10_000 % 100)) (decimal_octet (number / 100 % 100)) (decimal_octet (number % 100)) ≡ number
eight-back number few =
    let a = two-back (number / 1_000_000 % 100) (omega arith) in
    let b = two-back (number / 10_000 % 100) (omega arith) in
    let c = two-back (number / 100 % 100) (omega arith) in
    let d = two-back (number % 100) (omega arith) in
    rw (a, b, c, d) (sum number few)
  where
    sum : (n : ℕ) → n ≤ 99_999_999 → 1_000_000 * (n / 1_000_000 % 100) + 10_000 * (n / 10_000 % 100) + 100 * (n / 100 % 100) + n % 100 ≡ n
    sum n few =
        let thousands : n / 10_000 ≡ n / 100 / 100 = omega arith in
        let millions : n / 1_000_000 ≡ n / 100 / 100 / 100 = omega arith in
        rw (thousands, millions) (omega (arith, few))

abbrev time_of : ℕ → ℕ → ℕ → ℕ → ℕ
time_of days hours minutes seconds = 86_400 * two_of days + 3_600 * two_of hours + 60 * two_of minutes + two_of seconds

time-back : (n : ℕ) → n ≤ 8_639_999
    → time_of (decimal_octet (n / 86_400 % 100)) (decimal_octet (n / 3_600 % 24)) (decimal_octet (n / 60 % 60)) (decimal_octet (n % 60)) ≡ n
time-back n few =
    let a = two-back (n / 86_400 % 100) (omega arith) in
    let b = two-back (n / 3_600 % 24) (omega arith) in
    let c = two-back (n / 60 % 60) (omega arith) in
    let d = two-back (n % 60) (omega arith) in
    rw (a, b, c, d) (sum n few)
  where
    sum : (n : ℕ) → n ≤ 8_639_999 → 86_400 * (n / 86_400 % 100) + 3_600 * (n / 3_600 % 24) + 60 * (n / 60 % 60) + n % 60 ≡ n
    sum n few =
        let hours : n / 3_600 ≡ n / 60 / 60 = omega arith in
        let days : n / 86_400 ≡ n / 60 / 60 / 24 = omega arith in
        rw (hours, days) (omega (arith, few))

abbrev duration_in : Option (List ℕ) → Option ℕ
duration_in (Some (days ∷ hours ∷ minutes ∷ seconds ∷ octets)) = Some (time_of days hours minutes seconds)
duration_in octets = None

duration-back : (seconds : Option ℕ) → duration_fits seconds ≡ true → seconds ≡ duration_in (duration seconds)
unfolding duration_fits duration duration_octets
duration-back None fit = refl
duration-back (Some n) fit = ap (λ (x : ℕ). Some x) (sym (time-back n (leb-true n 8_639_999 fit)))

abbrev segments_in : Option (List ℕ) → Option SegmentCounts
segments_in (Some (a ∷ b ∷ c ∷ d ∷ e ∷ f ∷ g ∷ h ∷ octets)) = Some (record { sent = eight_of a b c d; received = eight_of e f g h })
segments_in octets = None

segments-back : (segments : Option SegmentCounts) → counts_fit segments ≡ true → segments ≡ segments_in (counts segments)
unfolding counts_fit counts eight_digits
segments-back None fit = refl
segments-back (Some s) fit =
    let sent = eight-back s.sent (leb-true s.sent 99_999_999 (and_parts _ _ fit).0) in
    let received = eight-back s.received (leb-true s.received 99_999_999 (and_parts _ _ fit).1) in
    λ i. Some (record { sent = sym sent i; received = sym received i })

abbrev redirected_in : Option (List ℕ) → Option RedirectionNotification
redirected_in (Some (reason ∷ count ∷ octets)) = Some (record { reason = reason_of reason; dialled = take count (half_octets octets) })
redirected_in octets = None

redirected-back : (redirected : Option RedirectionNotification) → IfSome redirected (λ (r : RedirectionNotification). AreDigits r.dialled) → redirected ≡ redirected_in (redirection redirected)
unfolding redirection
redirected-back None are = refl
redirected-back (Some r) are =
    let dialled : r.dialled ≡ take (length r.dialled) (half_octets (packed r.dialled)) =
    sym (ap (λ x. take (length r.dialled) x) (half_octets-packed r.dialled are) ∙ take-append_seam r.dialled (filling (length r.dialled))) in
    λ i. Some (record { reason = reason-back r.reason i; dialled = dialled i })

-- ---- the whole

same_told : {A : Type 0} (a b : IndicatedFacilities A) → a.selection ≡ b.selection → a.fast ≡ b.fast → a.reverse ≡ b.reverse → a.throughput ≡ b.throughput
    → a.modified ≡ b.modified → a.packet ≡ b.packet → a.window ≡ b.window → a.redirected ≡ b.redirected → a.duration ≡ b.duration → a.segments ≡ b.segments → a.dte ≡ b.dte → a ≡ b
same_told a b s f r t m p w c l n d =
    λ i. record {
      selection = s i;
      fast = f i;
      reverse = r i;
      throughput = t i;
      modified = m i;
      packet = p i;
      window = w i;
      redirected = c i;
      duration = l i;
      segments = n i;
      dte = d i;
    }

pub one_told : {A : Type 0} (told : IndicatedFacilities A) (field : List ℕ) → HasDigits told → Indicates told field → IndicatesOnlyThis told field
one_told told field are tells other are_also also =
    let items : indicated_items other also.carried ≡ indicated_items told tells.carried =
    IsField-unique field _ _ (told_field other field also).items (told_field told field tells).items in
    let within = in_range told tells.in_range in
    let within_also = in_range other also.in_range in
    let same : (which : List ℕ) → found which (table other) ≡ found which (table told) =
    λ which. sym (found-told other also.carried which) ∙ ap (λ x. last_of which (before_marker x)) items ∙ found-told told tells.carried which in
    same_told other told
    (same_Some other.selection told.selection (
    sym (selection-back other.selection within_also.selection)
    ∙ ap (λ x. chosen x (found (0x09 ∷ 0x48 ∷ []) (table other))) (same (0x03 ∷ 0x47 ∷ []))
    ∙ ap (λ x. chosen (found (0x03 ∷ 0x47 ∷ []) (table told)) x) (same (0x09 ∷ 0x48 ∷ []))
    ∙ selection-back told.selection within.selection
    ))
    (fast-back other.fast other.reverse ∙ ap (λ x. fast_of (octet_of x)) (same (0x01 ∷ [])) ∙ sym (fast-back told.fast told.reverse))
    (reverse-back other.fast other.reverse ∙ ap (λ x. first_bit (octet_of x)) (same (0x01 ∷ [])) ∙ sym (reverse-back told.fast told.reverse))
    (throughput-back other.throughput ∙ ap octet_of (same (0x02 ∷ [])) ∙ sym (throughput-back told.throughput))
    (modified-back other.modified ∙ ap modified_in (same (0x08 ∷ [])) ∙ sym (modified-back told.modified))
    (same_Some other.packet told.packet (
    sym (sizes-back 4 12 other.packet within_also.packet) ∙ ap (λ x. sizes_within 4 12 x) (same (0x42 ∷ [])) ∙ sizes-back 4 12 told.packet within.packet
    ))
    (same_Some other.window told.window (
    sym (sizes-back 1 15 other.window within_also.window) ∙ ap (λ x. sizes_within 1 15 x) (same (0x43 ∷ [])) ∙ sizes-back 1 15 told.window within.window
    ))
    (redirected-back other.redirected are_also ∙ ap redirected_in (same (0xc3 ∷ [])) ∙ sym (redirected-back told.redirected are))
    (duration-back other.duration within_also.duration ∙ ap duration_in (same (0xc1 ∷ [])) ∙ sym (duration-back told.duration within.duration))
    (segments-back other.segments within_also.segments ∙ ap segments_in (same (0xc2 ∷ [])) ∙ sym (segments-back told.segments within.segments))
    (same_Some other.dte told.dte (sym (dte-back other field also) ∙ ap dte_of items ∙ dte-back told field tells))
