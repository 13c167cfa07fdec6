-- The sequences that continue a path in a trie of ranges.
use Rattle.std.specs.Prelude.{ℕ, ◌+◌, List, ◌++◌, map, Vec}
use Rattle.std.specs.declared.alloc.Global.{Global}
use Rattle.hir_core.specs.declared.utf8_sequences.Utf8Range.{Utf8Range}
use Rattle.hir_core.specs.Sequences.{bytes_of}
use Rattle.thompson_nfa.specs.declared.range_tries.trie_nodes.Next.{Next}
use Rattle.thompson_nfa.specs.declared.range_tries.trie_nodes.Next.TheVariants.{Nothing, End, Node}

-- the ranges of each sequence of a list
abbrev pub paths_of : List (Vec Utf8Range Global) → List (List (ℕ × ℕ))
paths_of paths = map (λ v. map bytes_of v.items) paths

-- the path followed by each of the sequences
abbrev pub path_then : List (ℕ × ℕ) → List (List (ℕ × ℕ)) → List (List (ℕ × ℕ))
path_then path qs = map (λ q. path ++ q) qs

-- how far a node is from the first
abbrev pub depth_of : Next → ℕ
depth_of Nothing = 0
depth_of End = 0
depth_of (Node n) = n + 1
