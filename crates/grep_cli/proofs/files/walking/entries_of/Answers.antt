use Rattle.std.proofs.Common.{◌≡◌, ◌∙◌, ◌++◌, ℕ, List, ap, map, string_bytes, subst}
use Rattle.std.proofs.lemmas.List.Sorted.{IsPermutation-map}
use Rattle.std.specs.List.Sorted.{IsPermutation}
use Rattle.grep_cli.specs.Entries.{entries_of}
use Rattle.grep_cli.proofs.files.walking.entries_of.Goals as goal

pub returns-clause-paths : goal.returns-clause-paths
returns-clause-paths c =
    let all : map string_bytes c.push_entries.new.paths.items ≡ entries_of c.args.folder.now c.args.names.now =
    c.in_ok-push_entries.ensures.paths
    ∙ ap (λ xs. map string_bytes xs ++ entries_of c.args.folder.now c.args.names.now) c.new-paths.ensures.items in
    subst (λ (xs : List (List ℕ)). IsPermutation xs (map string_bytes c.sort.new.self.items)) all
    (IsPermutation-map string_bytes _ _ c.sort.ensures.permutation)
