-- A tree without its looks at words by characters. Automata give up at each byte above ASCII if a tree has such looks. Without them the tree
-- matches more, so a line in which it has no match has none of the tree itself.
use Rattle.std.specs.Prelude.{Bool, true, false, ◌||◌, if◌then◌else◌}
use Rattle.look_core.specs.Codes.{is_word_unicode}
use Rattle.hir_core.specs.Tree.{Tree, empty, literal, byte_class, char_class, look, repetition, capture, nothing, cat, never, alt}

-- the tree with each such look replaced by the empty tree
abbrev pub wordless_tree : Tree → Tree
wordless_tree empty = empty
wordless_tree (literal bytes) = literal bytes
wordless_tree (byte_class ranges) = byte_class ranges
wordless_tree (char_class ranges) = char_class ranges
wordless_tree (look l) = if is_word_unicode l then empty else look l
wordless_tree (repetition min most greedy x) = repetition min most greedy (wordless_tree x)
wordless_tree (capture index name x) = capture index name (wordless_tree x)
wordless_tree nothing = nothing
wordless_tree (cat x y) = cat (wordless_tree x) (wordless_tree y)
wordless_tree never = never
wordless_tree (alt x y) = alt (wordless_tree x) (wordless_tree y)
