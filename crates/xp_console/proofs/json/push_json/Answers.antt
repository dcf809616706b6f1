use Rattle.std.proofs.Common.{◌≡◌, ◌++◌, codes, false, map, string_bytes, subst}
use Rattle.serde_json.specs.View.{items_of}
use Rattle.serde_json.specs.Written.{items_text}
use Rattle.xp_console.specs.Json.{count_data, ended_data, json_text, line_data, live_data, reloads_data, station_data, totals_data}
use Rattle.xp_console.proofs.Appends.{appended}
use Rattle.xp_console.proofs.Members.{status_written}
use Rattle.xp_console.proofs.json.push_json.Goals as goal

pub returns : goal.returns
unfolding json_text
returns c =
    let r = c.push_str.result in
    let status = c.args.status.now in
    let calls = subst (λ items. string_bytes c.push_array.new.text ≡ string_bytes c.args.text.now ++ (codes "{\"calls\":[" ++ items_text false (items_of (map live_data items))))
    c.deref.ensures.value c.in_ok-push_array.ensures in
    let lines = subst (λ items. string_bytes c.push_array-2.new.text ≡ string_bytes c.push_array.new.text ++ (codes ",\"lines\":[" ++ items_text false (items_of (map line_data items))))
    c.deref-2.ensures.value c.in_ok-push_array-2.ensures in
    let recent = subst (λ items. string_bytes c.push_array-3.new.text ≡ string_bytes c.push_item.new.text ++ (codes ",\"recent\":[" ++ items_text false (items_of (map ended_data items))))
    c.deref-3.ensures.value c.in_ok-push_array-3.ensures in
    let stations = subst (λ items. string_bytes c.push_array-4.new.text ≡ string_bytes c.push_item-3.new.text ++ (codes ",\"stations\":[" ++ items_text false (items_of (map station_data items))))
    c.deref-4.ensures.value c.in_ok-push_array-4.ensures in
    status_written r (string_bytes c.args.text.now) (string_bytes c.push_array.new.text) (string_bytes c.push_array-2.new.text)
    (string_bytes c.push_item.new.text) (string_bytes c.push_array-3.new.text) (string_bytes c.push_item-2.new.text) (string_bytes c.push_item-3.new.text)
    (string_bytes c.push_array-4.new.text) (string_bytes c.push_item-4.new.text) (string_bytes c.push_str.new.self)
    (items_of (map live_data status.calls.items)) (items_of (map line_data status.lines.items)) (items_of (map ended_data status.recent.items))
    (items_of (map station_data status.stations.items)) (count_data status.moment) (reloads_data status.reloads) (count_data status.started) (totals_data status.totals)
    calls lines c.in_ok-push_item.ensures recent c.in_ok-push_item-2.ensures c.in_ok-push_item-3.ensures stations c.in_ok-push_item-4.ensures
    (appended r (string_bytes c.push_item-4.new.text) (string_bytes c.push_str.new.self) (codes "}") c.push_str.ensures.bytes)
