-- The tree that the printed lines of a tree make.
use Rattle.std.specs.Prelude.{[], ◌∷◌}
use Rattle.hir_core.specs.Tree.{Tree, empty, literal, byte_class, char_class, look, repetition, capture, nothing, cat, never, alt}
use Rattle.hirscan.specs.Words.{class_ranges, scalar_ranges}

-- A group has no line, so its body stands for it. Nor has a literal without bytes, which is the empty string, or a class without
-- ranges, which matches nothing. The ranges of other classes are those that the notation reads: ranges that touch are one.
abbrev pub printed_tree : Tree → Tree
printed_tree empty = empty
printed_tree (literal []) = empty
printed_tree (literal (b ∷ bytes)) = literal (b ∷ bytes)
printed_tree (byte_class []) = never
printed_tree (byte_class (r ∷ ranges)) = byte_class (class_ranges (r ∷ ranges))
printed_tree (char_class []) = never
printed_tree (char_class (r ∷ ranges)) = char_class (scalar_ranges (r ∷ ranges))
printed_tree (look l) = look l
printed_tree (repetition min most greedy x) = repetition min most greedy (printed_tree x)
printed_tree (capture index name x) = printed_tree x
printed_tree nothing = nothing
printed_tree (cat x y) = cat (printed_tree x) (printed_tree y)
printed_tree never = never
printed_tree (alt x y) = alt (printed_tree x) (printed_tree y)
