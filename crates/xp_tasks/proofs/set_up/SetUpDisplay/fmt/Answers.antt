use Rattle.std.proofs.Common.{◌≡◌, ◌++◌, ◌∙◌, ◌-◌, ℕ, List, ap, append_assoc, codes, count_by, subst}
use Rattle.std.specs.Fmt.{HasWritten, decimal}
use Rattle.xp_subs.specs.Tables.{group_count, is_spare, line_count, station_count}
use Rattle.xp_tasks.specs.SetUp.{spare_text}
use Rattle.xp_tasks.proofs.set_up.SetUpDisplay.fmt.Goals as goal

-- seven pieces, one behind another
pieces : (a b c d e f g : List ℕ) → a ++ (b ++ (c ++ (d ++ (e ++ (f ++ g))))) ≡ a ++ b ++ c ++ d ++ e ++ f ++ g
pieces a b c d e f g = simp append_assoc

pub returns-clause-writes : goal.returns-clause-writes
returns-clause-writes g c = λ plain ok.
    let subs = c.args.self.now.subs.now in
    let counts = c.counts-stations.ensures in
    let spare : ℕ = count_by is_spare subs.lines in
    let told : ℕ → ℕ → ℕ → ℕ → List ℕ = λ stations lines groups count.
    codes "stations " ++ (decimal stations ++ (codes " lines " ++ (decimal lines ++ (codes " groups " ++ (decimal groups ++ spare_text count))))) in
    let lines = c.saturating_sub-lines.ensures ∙ ap (λ n. n - c.spare_count-count.result) counts.lines ∙ ap (λ n. line_count subs - n) c.spare_count-count.ensures in
    subst (λ text. HasWritten {W = g.row.W.Denot} g.W.Write.write_str_gives c.args.f.now text c.write.new.self)
    (ap (λ n. told n c.saturating_sub-lines.result c.counts-stations.result.groups c.spare_count-count.result) counts.stations
    ∙ ap (λ n. told (station_count subs) n c.counts-stations.result.groups c.spare_count-count.result) lines
    ∙ ap (λ n. told (station_count subs) (line_count subs - spare) n c.spare_count-count.result) counts.groups
    ∙ ap (λ n. told (station_count subs) (line_count subs - spare) (group_count subs) n) c.spare_count-count.ensures
    ∙ pieces (codes "stations ") (decimal (station_count subs)) (codes " lines ") (decimal (line_count subs - spare)) (codes " groups ") (decimal (group_count subs)) (spare_text spare))
    (c.write.ensures.writes plain ok)
