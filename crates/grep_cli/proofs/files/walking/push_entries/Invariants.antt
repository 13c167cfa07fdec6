use Rattle.std.proofs.Common.{◌≡◌, ◌||◌, ◌++◌, map, string_bytes, true}
use Rattle.std.specs.List.{flat_map, list_any}
use Rattle.grep_cli.specs.Entries.{entry_paths, has_no_path}
use Rattle.grep_cli.proofs.files.walking.push_entries.Given as goal

abbrev pub invariant-loop-name : goal.invariant-loop-name
invariant-loop-name l = record {
  kept : l.initial.failed ≡ true → l.failed ≡ true;
  paths : map string_bytes l.paths.items
      ≡ map string_bytes l.initial.paths.items ++ flat_map (entry_paths l.folder) (map (λ x. x.now) l.yielded);
  recorded : l.failed ≡ (l.initial.failed || list_any has_no_path (map (λ x. x.now) l.yielded));
}
