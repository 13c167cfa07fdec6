-- Which trees are their own line trees, so that one regex searches lines and blocks of lines.
use Rattle.std.specs.Prelude.{Bool, true, false, ◌||◌}
use Rattle.look_core.specs.declared.look.Look.{Look}
use Rattle.look_core.specs.declared.look.Look.TheVariants.{Start, End, EndLF}
use Rattle.hir_core.specs.Tree.{Tree, empty, literal, byte_class, char_class, look, repetition, capture, nothing, cat, never, alt}

-- Whether the look asks for an edge of the haystack or for the end of a line. In a block of lines another look stands for it.
abbrev pub is_edge : Look → Bool
is_edge Start = true
is_edge End = true
is_edge EndLF = true
is_edge _ = false

-- Whether the tree has such a look.
abbrev pub asks_for_edge : Tree → Bool
asks_for_edge empty = false
asks_for_edge (literal bytes) = false
asks_for_edge (byte_class ranges) = false
asks_for_edge (char_class ranges) = false
asks_for_edge (look l) = is_edge l
asks_for_edge (repetition min most greedy x) = asks_for_edge x
asks_for_edge (capture index name x) = asks_for_edge x
asks_for_edge nothing = false
asks_for_edge (cat x y) = asks_for_edge x || asks_for_edge y
asks_for_edge never = false
asks_for_edge (alt x y) = asks_for_edge x || asks_for_edge y
