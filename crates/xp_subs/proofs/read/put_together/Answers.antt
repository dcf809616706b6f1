use Rattle.std.proofs.Common.{ap, string_bytes, sym}
use Rattle.xp_file.specs.SubscriptionFile.{FileData}
use Rattle.xp_subs.specs.steps.Passes.{Used}
use Rattle.xp_subs.proofs.BuiltLemmas.{built_keeps, built_tables}
use Rattle.xp_subs.proofs.read.put_together.Goals as goal

pub invariant_of-result : goal.invariant_of-result
invariant_of-result c =
    let built = built_tables c.args.file c.file.inside.segment_limit c.file.inside.journal (string_bytes c.file.inside.host) c.file.inside.xot_port c.file.inside.name c.file.inside.spare_lines c.file.inside.spare_lines_128 c.file.inside.stations.items
    c.args.file.stations c.args.file.stations c.args.file.stations c.args.parts.0.keys c.args.parts.1.items c.args.parts.2.items
    c.file.view_is (sym (ap (λ (file : FileData). file.stations) c.file.view_is)) c.requires.names (sym (ap (λ (file : FileData). file.stations) c.file.view_is)) c.requires.stations (sym (ap (λ (file : FileData). file.stations) c.file.view_is)) c.requires.lines in
    built_keeps _ c.args.file c.args.uses c.requires.fit c.requires.some c.requires.limits c.requires.port c.requires.once c.requires.own c.requires.places built
    (ap (λ (used : Used). used.targets) c.uses.view_is)
    (ap (λ (used : Used). used.names) c.uses.view_is)
    c.nobody.ensures

pub returns : goal.returns
returns c =
    built_tables c.args.file c.file.inside.segment_limit c.file.inside.journal (string_bytes c.file.inside.host) c.file.inside.xot_port c.file.inside.name c.file.inside.spare_lines c.file.inside.spare_lines_128 c.file.inside.stations.items
    c.args.file.stations c.args.file.stations c.args.file.stations c.args.parts.0.keys c.args.parts.1.items c.args.parts.2.items
    c.file.view_is (sym (ap (λ (file : FileData). file.stations) c.file.view_is)) c.requires.names (sym (ap (λ (file : FileData). file.stations) c.file.view_is)) c.requires.stations (sym (ap (λ (file : FileData). file.stations) c.file.view_is)) c.requires.lines
