use Rattle.std.proofs.Common.{◌∙◌, ◌||◌, ◌++◌, ap, map, rules, string_bytes, tests}
use Rattle.std.proofs.lemmas.Iterator.Consumers.{YieldsList-end}
use Rattle.std.proofs.lemmas.Iterator.Splits.{YieldsList-from_slice_split}
use Rattle.std.specs.List.{flat_map, list_any}
use Rattle.grep_cli.specs.Entries.{entry_paths, has_no_path}
use Rattle.grep_cli.proofs.files.walking.push_entries.Goals as goal

pub returns-clause-paths : goal.returns-clause-paths
returns-clause-paths c =
    let names = YieldsList-from_slice_split _ _ c.args.names.now (cc) (cc) (cc) (λ x r q k. search (rules, tests)) in
    let all = YieldsList-end names c.loop-name.yielded _ c.loop-name.yielded_by _ _ c.in-None.is c.next.ensures.steps in
    c.loop-name.invariant.paths
    ∙ ap (λ ls. map string_bytes c.args.paths.now.items ++ flat_map (entry_paths c.args.folder.now) ls) all.0

pub returns-clause-recorded : goal.returns-clause-recorded
returns-clause-recorded c =
    let names = YieldsList-from_slice_split _ _ c.args.names.now (cc) (cc) (cc) (λ x r q k. search (rules, tests)) in
    let all = YieldsList-end names c.loop-name.yielded _ c.loop-name.yielded_by _ _ c.in-None.is c.next.ensures.steps in
    c.loop-name.invariant.recorded ∙ ap (λ ls. c.args.failed.now || list_any has_no_path ls) all.0
