-- The tree of one node, with its children as trees: how a caller reads what `kind` returns.
use Rattle.std.specs.Prelude.{option_map, string_bytes}
use Rattle.hir_core.specs.Tree.{Tree, empty, literal, byte_class, char_class, look, repetition, capture, concat, alternation}
use Rattle.hir_core.specs.declared.hir.HirKind.{HirKind}
use Rattle.hir_core.specs.declared.hir.HirKind.TheVariants.{Empty, Literal, Bytes, Chars, Look, Repetition, Capture, Concat, Alternation}

-- one kind of tree for each variant
abbrev pub node : HirKind → Tree
node Empty = empty
node (Literal bytes) = literal bytes.items
node (Bytes ranges) = byte_class ranges.items
node (Chars ranges) = char_class ranges.items
node (Look l) = look l
node (Repetition min max greedy sub) = repetition min max greedy sub.value
node (Capture index name sub) = capture index (option_map string_bytes name) sub.value
node (Concat subs) = concat subs.items
node (Alternation subs) = alternation subs.items
