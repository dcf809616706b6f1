-- A field that tells values is read as those values.
use Rattle.std.proofs.Common.{◌≡◌, ℕ, ◌+◌, ◌*◌, ◌/◌, ◌%◌, ◌<◌, ◌≤◌, Bool, true, false, cond, eqb, ltb, leb, List, [], ◌∷◌, ◌++◌, length, Option, Some, None, refl, sym, ap, ◌∙◌, arith, ◌⊎◌, inl, inr}
use Rattle.std.specs.Prelude.{option_map, option_and_then}
use Rattle.std.specs.List.{AllByRecursion, list_any, list_all}
use Rattle.std.proofs.lemmas.Bool.{and_parts, or_parts, leb-true, ltb-true, lt-ltb, le-leb}
use Rattle.xp_facilities.specs.Items.{Item, octets_of_all}
use Rattle.xp_facilities.specs.Requested.{is_marker, before_marker, has_code, accepted_codes, has_accepted_codes, last_of, decimal, index_of, chosen, selection_of, sizes_within, packet_of, window_of, octet_of, fast_of, first_bit, opens, carried, dte_of}
use Rattle.xp_facilities.specs.Laws.{CanBeRequested, IsReadBack}
use Rattle.xp_facilities.specs.Indicated.{decimal_octet, two_digits, four_digits, fast_bits, options, closed_index, open_index, two_digit_index, four_digit_index, throughput, modified, pair, duration, counts, redirection, optional_item, table, marked, index_fits, sizes_fit, duration_fits, counts_fit, is_in_range, indicated_items, Indicates}
use Rattle.xp_facilities.specs.declared.fast_select.FastSelect.{FastSelect}
use Rattle.xp_facilities.specs.declared.fast_select.FastSelect.TheVariants.{No, Unrestricted, Restricted}
use Rattle.xp_facilities.specs.declared.direction_sizes.DirectionSizes.{DirectionSizes}
use Rattle.xp_facilities.specs.declared.selection.Selection.{Selection}
use Rattle.xp_facilities.specs.declared.selection.Selection.TheVariants.{Nothing, Closed, WithOutsideAccess}
use Rattle.xp_facilities.specs.declared.indicated.IndicatedFacilities.{IndicatedFacilities}
use Rattle.xp_facilities.proofs.Asking.{before_marker-other, carried-outside, carried-inside}
use Rattle.xp_facilities.proofs.Bounds.{told_field, dte-few}
use Rattle.xp_facilities.proofs.Telling.{rows}

-- ---- the parameters of a code among rows

abbrev pub has : List ℕ → ℕ → Bool
has codes code = list_any (λ x. eqb x code) codes

abbrev pub later_or : Option (List ℕ) → Option (List ℕ) → Option (List ℕ)
later_or (Some later) this = Some later
later_or None this = this

abbrev pub found : List ℕ → List (ℕ × Option (List ℕ)) → Option (List ℕ)
found codes [] = None
found codes (entry ∷ entries) = cond (has codes entry.0) (later_or (found codes entries) entry.1) (found codes entries)

either_way : {X : Type 0} (b : Bool) (x : X) → cond b x x ≡ x
either_way true x = refl
either_way false x = refl

pub last_of-rows : (codes : List ℕ) (entries : List (ℕ × Option (List ℕ))) → last_of codes (rows entries) ≡ found codes entries
unfolding last_of optional_item
last_of-rows codes [] = refl
last_of-rows codes (entry ∷ entries) = step codes entry.0 entry.1 (rows entries) (found codes entries) (last_of-rows codes entries)
  where
    step : (codes : List ℕ) (code : ℕ) (parameters : Option (List ℕ)) (items : List Item) (later : Option (List ℕ)) → last_of codes items ≡ later
        → last_of codes (optional_item code parameters ++ items) ≡ cond (has codes code) (later_or later parameters) later
    step codes code None items None e = e ∙ sym (either_way (has codes code) None)
    step codes code None items (Some l) e = e ∙ sym (either_way (has codes code) (Some l))
    step codes code (Some parameters) items None e = rw e refl
    step codes code (Some parameters) items (Some l) e = rw e (sym (either_way (has codes code) (Some l)))

-- ---- what stands before the marker

abbrev pub AreCodes : List (ℕ × Option (List ℕ)) → Type 0
AreCodes entries = AllByRecursion (λ entry. eqb entry.0 0 ≡ false) entries

pub before_marker-rows : (entries : List (ℕ × Option (List ℕ))) (behind : List Item) → AreCodes entries → before_marker (rows entries ++ marked behind) ≡ rows entries
unfolding optional_item marked
before_marker-rows [] [] are = refl
before_marker-rows [] (item ∷ items) are = refl
before_marker-rows (entry ∷ entries) behind are = step entry.0 entry.1 (rows entries) behind are.0 (before_marker-rows entries behind are.1)
  where
    step : (code : ℕ) (parameters : Option (List ℕ)) (items behind : List Item) → eqb code 0 ≡ false → before_marker (items ++ marked behind) ≡ items
        → before_marker ((optional_item code parameters ++ items) ++ marked behind) ≡ optional_item code parameters ++ items
    step code None items behind e same = same
    step code (Some parameters) items behind e same =
        before_marker-other (record { code = code; parameters = parameters }) (items ++ marked behind) e ∙ ap (λ x. record { code = code; parameters = parameters } ∷ x) same

pub carried-rows : (entries : List (ℕ × Option (List ℕ))) (behind : List Item) → AreCodes entries → carried false (rows entries ++ behind) ≡ carried false behind
unfolding optional_item
carried-rows [] behind are = refl
carried-rows (entry ∷ entries) behind are = step entry.0 entry.1 (rows entries) behind are.0 (carried-rows entries behind are.1)
  where
    step : (code : ℕ) (parameters : Option (List ℕ)) (items behind : List Item) → eqb code 0 ≡ false → carried false (items ++ behind) ≡ carried false behind
        → carried false ((optional_item code parameters ++ items) ++ behind) ≡ carried false behind
    step code None items behind e same = same
    step code (Some parameters) items behind e same =
        carried-outside (record { code = code; parameters = parameters }) (items ++ behind) e ∙ same

pub carried-all : (items : List Item) → list_any is_marker items ≡ false → carried true items ≡ Some items
unfolding carried
carried-all [] none = refl
carried-all (item ∷ items) none =
    let parts = or_parts (is_marker item) (list_any is_marker items) none in
    carried-inside item items parts.0 ∙ ap (λ x. option_map (λ others. item ∷ others) x) (carried-all items parts.1)

pub carried-marked : (items : List Item) → list_any is_marker items ≡ false → carried false (marked items) ≡ Some items
unfolding carried marked opens
carried-marked [] none = refl
carried-marked (item ∷ items) none = carried-all (item ∷ items) none

-- ---- decimal digits

pub decimal-octet : (number : ℕ) → number < 100 → decimal (decimal_octet number) ≡ Some number
unfolding decimal decimal_octet
decimal-octet number below =
    let high : (16 * (number / 10) + number % 10) / 16 ≡ number / 10 = omega (arith, below) in
    let low : (16 * (number / 10) + number % 10) % 16 ≡ number % 10 = omega (arith, below) in
    let first : ltb (number / 10) 10 ≡ true = lt-ltb _ _ (omega (arith, below)) in
    let second : ltb (number % 10) 10 ≡ true = lt-ltb _ _ (omega (arith, below)) in
    let whole : 10 * (number / 10) + number % 10 ≡ number = omega arith in
    rw (high, low, first, second) (ap (λ (n : ℕ). Some n) whole)

pub two-digits : (index : ℕ) → ltb index 100 ≡ true → index_of (two_digits index) ≡ Some index
unfolding index_of two_digits
two-digits index small =
    let below : index < 100 = ltb-true index 100 small in
    let same : index % 100 ≡ index = omega (arith, below) in
    rw same (decimal-octet index below)

pub four-digits : (index : ℕ) → index ≤ 9_999 → index_of (four_digits index) ≡ Some index
unfolding index_of four_digits
four-digits index few =
    let high = decimal-octet (index / 100 % 100) (omega arith) in
    let low = decimal-octet (index % 100) (omega arith) in
    let whole : 100 * (index / 100 % 100) + index % 100 ≡ index = omega (arith, few) in
    rw (high, low) (ap (λ (n : ℕ). Some n) whole)

-- ---- each value

pub selection-back : (selection : Selection) → index_fits selection ≡ true
    → chosen (later_or (four_digit_index (closed_index selection)) (two_digit_index (closed_index selection))) (later_or (four_digit_index (open_index selection)) (two_digit_index (open_index selection))) ≡ Some selection
unfolding index_fits chosen four_digit_index two_digit_index closed_index open_index
selection-back Nothing fits = refl
selection-back (Closed index) fits = by_test (ltb index 100) refl
  where
    by_test : (b : Bool) → ltb index 100 ≡ b
        → chosen (later_or (cond b None (Some (four_digits index))) (cond b (Some (two_digits index)) None)) None ≡ Some (Closed index)
    by_test true e = ap (λ x. option_map Closed x) (two-digits index e)
    by_test false e = ap (λ x. option_map Closed x) (four-digits index (leb-true index 9_999 fits))
selection-back (WithOutsideAccess index) fits = by_test (ltb index 100) refl
  where
    by_test : (b : Bool) → ltb index 100 ≡ b
        → chosen None (later_or (cond b None (Some (four_digits index))) (cond b (Some (two_digits index)) None)) ≡ Some (WithOutsideAccess index)
    by_test true e = ap (λ x. option_map WithOutsideAccess x) (two-digits index e)
    by_test false e = ap (λ x. option_map WithOutsideAccess x) (four-digits index (leb-true index 9_999 fits))

pub fast-back : (fast : FastSelect) (reverse : Bool) → fast ≡ fast_of (octet_of (options fast reverse))
unfolding fast_of octet_of options fast_bits
fast-back No false = refl
fast-back No true = refl
fast-back Unrestricted false = refl
fast-back Unrestricted true = refl
fast-back Restricted false = refl
fast-back Restricted true = refl

pub reverse-back : (fast : FastSelect) (reverse : Bool) → reverse ≡ first_bit (octet_of (options fast reverse))
unfolding first_bit octet_of options fast_bits
reverse-back No false = refl
reverse-back No true = refl
reverse-back Unrestricted false = refl
reverse-back Unrestricted true = refl
reverse-back Restricted false = refl
reverse-back Restricted true = refl

pub throughput-back : (class : Option ℕ) → class ≡ octet_of (throughput class)
unfolding octet_of throughput
throughput-back None = refl
throughput-back (Some octet) = refl

pub sizes-back : (least most : ℕ) (sizes : Option DirectionSizes) → sizes_fit least most sizes ≡ true → sizes_within least most (pair sizes) ≡ Some sizes
unfolding sizes_fit sizes_within pair
sizes-back least most None fit = refl
sizes-back least most (Some sizes) fit = rw fit refl

-- ---- the whole

pub codes : {A : Type 0} (told : IndicatedFacilities A) → AreCodes (table told)
codes told = (refl, (refl, (refl, (refl, (refl, (refl, (refl, (refl, (refl, (refl, (refl, (refl, tt))))))))))))

-- what a reader finds for a code
pub found-told : {A : Type 0} (told : IndicatedFacilities A) (behind : List Item) (which : List ℕ) → last_of which (before_marker (indicated_items told behind)) ≡ found which (table told)
found-told told behind which = ap (λ x. last_of which x) (before_marker-rows (table told) behind (codes told)) ∙ last_of-rows which (table told)

pub record InRange {A : Type 0} (told : IndicatedFacilities A) : Type 0 where
  pub selection : index_fits told.selection ≡ true
  pub packet : sizes_fit 4 12 told.packet ≡ true
  pub window : sizes_fit 1 15 told.window ≡ true
  pub duration : duration_fits told.duration ≡ true
  pub segments : counts_fit told.segments ≡ true

pub in_range : {A : Type 0} (told : IndicatedFacilities A) → is_in_range told ≡ true → InRange told
unfolding is_in_range
in_range told e =
    let but_dte = (and_parts _ _ e).0 in
    let but_segments = (and_parts _ _ but_dte).0 in
    let but_duration = (and_parts _ _ but_segments).0 in
    let but_window = (and_parts _ _ but_duration).0 in
    record {
      selection = (and_parts _ _ but_window).0;
      packet = (and_parts _ _ but_window).1;
      window = (and_parts _ _ but_duration).1;
      duration = (and_parts _ _ but_segments).1;
      segments = (and_parts _ _ but_dte).1;
    }

pub dte-back : {A : Type 0} (told : IndicatedFacilities A) (field : List ℕ) (tells : Indicates told field) → dte_of (indicated_items told tells.carried) ≡ Some told.dte
unfolding dte_of
dte-back told field tells =
    let kept : carried false (indicated_items told tells.carried) ≡ Some tells.carried =
    carried-rows (table told) (marked tells.carried) (codes told) ∙ carried-marked tells.carried tells.dte.unmarked in
    let few : leb (length told.dte) 80 ≡ true = le-leb _ _ (dte-few told tells.in_range) in
    ap (λ x. option_and_then (λ all. cond (leb (length (octets_of_all all)) 80) (Some (octets_of_all all)) None) x) kept
    ∙ ap (λ (x : List ℕ). cond (leb (length x) 80) (Some x) None) (sym tells.dte.whole.whole)
    ∙ ap (λ (b : Bool). cond b (Some told.dte) None) few

-- rows of accepted codes, and of others that are not there
rows-accepted : (entries : List (ℕ × Option (List ℕ))) → AllByRecursion (λ entry. (entry.1 ≡ None) ⊎ (has accepted_codes entry.0 ≡ true)) entries
    → list_all (has_code accepted_codes) (rows entries) ≡ true
unfolding optional_item
rows-accepted [] all = refl
rows-accepted (entry ∷ entries) all = step entry.0 entry.1 (rows entries) all.0 (rows-accepted entries all.1)
  where
    step : (code : ℕ) (parameters : Option (List ℕ)) (items : List Item) → (parameters ≡ None) ⊎ (has accepted_codes code ≡ true)
        → list_all (has_code accepted_codes) items ≡ true → list_all (has_code accepted_codes) (optional_item code parameters ++ items) ≡ true
    step code None items either each = each
    step code (Some parameters) items (inl none) each = absurd cc
    step code (Some parameters) items (inr known) each = rw (known, each) refl

accepted-back : {A : Type 0} (told : IndicatedFacilities A) (behind : List Item) → CanBeRequested told → has_accepted_codes (indicated_items told behind) ≡ true
unfolding has_accepted_codes modified duration counts redirection
accepted-back told behind asked =
    ap (λ x. list_all (has_code accepted_codes) x) (before_marker-rows (table told) behind (codes told))
    ∙ rows-accepted (table told) (
      inr refl,
      (
        inr refl,
        (
          inr refl,
          (
            inl (ap modified asked.modified),
            (
              inr refl,
              (
                inr refl,
                (
                  inr refl,
                  (
                    inr refl,
                    (
                      inr refl,
                      (inl (ap duration asked.duration), (inl (ap counts asked.segments), (inl (ap redirection asked.redirected), tt))),
                    ),
                  ),
                ),
              ),
            ),
          ),
        ),
      ),
    )

-- charging information is never told
uncharged : false ≡ first_bit (octet_of None)
unfolding first_bit octet_of
uncharged = refl

pub read_back : {A : Type 0} (told : IndicatedFacilities A) (field : List ℕ) → Indicates told field → IsReadBack told field
unfolding selection_of packet_of window_of
read_back told field tells asked =
    let within = in_range told tells.in_range in
    let found_of = found-told told tells.carried in
    record {
      items = indicated_items told tells.carried;
      whole = (told_field told field tells).items;
      accepted = accepted-back told tells.carried asked;
      selection =
          ap (λ x. chosen x (last_of (0x09 ∷ 0x48 ∷ []) (before_marker (indicated_items told tells.carried)))) (found_of (0x03 ∷ 0x47 ∷ []))
          ∙ ap (λ x. chosen (later_or (four_digit_index (closed_index told.selection)) (two_digit_index (closed_index told.selection))) x) (found_of (0x09 ∷ 0x48 ∷ []))
          ∙ selection-back told.selection within.selection;
      fast = fast-back told.fast told.reverse ∙ ap (λ x. fast_of (octet_of x)) (sym (found_of (0x01 ∷ [])));
      reverse = reverse-back told.fast told.reverse ∙ ap (λ x. first_bit (octet_of x)) (sym (found_of (0x01 ∷ [])));
      throughput = throughput-back told.throughput ∙ ap octet_of (sym (found_of (0x02 ∷ [])));
      charging = uncharged ∙ ap (λ x. first_bit (octet_of x)) (sym (found_of (0x04 ∷ [])));
      packet = ap (λ x. sizes_within 4 12 x) (found_of (0x42 ∷ [])) ∙ sizes-back 4 12 told.packet within.packet;
      window = ap (λ x. sizes_within 1 15 x) (found_of (0x43 ∷ [])) ∙ sizes-back 1 15 told.window within.window;
      dte = dte-back told field tells;
    }
