use Rattle.std.proofs.Common.{◌∷◌, [], sym, ◌∙◌, ap, refl, Some}
use Rattle.std.proofs.lemmas.Result.{err_from_is_err_and}
use Rattle.xp_facilities.specs.Requested.{before_marker, last_of, octet_of, fast_of, first_bit, packet_of, window_of}
use Rattle.xp_facilities.proofs.parser.parse.Goals as goal

pub returns-in_err-dte : goal.returns-in_err-dte
unfolding packet_of window_of
returns-in_err-dte g c =
    let p = err_from_is_err_and c.from_residual-in_err-dte.result c.from_residual-in_err-dte.ensures.1 in
    rw (p.1, p.2) (
      record {
        selection = c.in_ok-selection.selection;
        fast = fast_of (octet_of (last_of (0x01 ∷ []) (before_marker c.in-Some.items)));
        reverse = first_bit (octet_of (last_of (0x01 ∷ []) (before_marker c.in-Some.items)));
        throughput = octet_of (last_of (0x02 ∷ []) (before_marker c.in-Some.items));
        charging = first_bit (octet_of (last_of (0x04 ∷ []) (before_marker c.in-Some.items)));
        packet = c.in_ok-packet.packet;
        window = c.in_ok-window.window;
        dte = c.in_ok-kept.kept.items;
      },
      record {
        items = c.in-Some.items;
        whole = c.in-Some.ensures;
        accepted = sym c.has_accepted_codes.ensures ∙ c.if-not-has_accepted_codes.false;
        selection = c.in_ok-selection.ensures;
        fast = refl;
        reverse = refl;
        throughput = refl;
        charging = refl;
        packet = c.in_ok-packet.ensures;
        window = c.in_ok-window.ensures;
        dte = c.in_ok-kept.ensures;
      },
    )

pub returns : goal.returns
unfolding packet_of window_of
returns g c = record {
  items = c.in-Some.items;
  whole = c.in-Some.ensures;
  accepted = sym c.has_accepted_codes.ensures ∙ c.if-not-has_accepted_codes.false;
  selection = c.in_ok-selection.ensures;
  fast = c.fast_select.ensures ∙ ap fast_of c.octet-options.ensures;
  reverse = c.first_bit.ensures ∙ ap first_bit c.octet-options.ensures;
  throughput = c.octet.ensures;
  charging = c.first_bit-2.ensures ∙ ap first_bit c.octet-2.ensures;
  packet = c.in_ok-packet.ensures;
  window = c.in_ok-window.ensures;
  dte = c.in_ok-kept.ensures ∙ ap Some (sym (c.in_ok-dte.ensures ∙ c.as_slice.ensures.value));
}
