-- The tree of a parsed pattern, part by part.
use Rattle.std.specs.Prelude.{ℕ, max, List, Option, None, option_map, slice_index_or}
use Rattle.regex_syntax.specs.Grammar.{Names}
use Rattle.regex_hir.specs.declared.hir.Hir.{Hir}
use Rattle.regex_hir.specs.declared.hir.Hir.TheOpen.{Hir-F}
use Rattle.regex_hir.specs.declared.hir.Hir.TheFolds.{fold-Hir}
use Rattle.regex_hir.specs.declared.look.Look.{Look as Assertion}
use Rattle.regex_hir.specs.declared.look.Look.TheVariants as assertion
use Rattle.look_core.specs.declared.look.Look.{Look}
use Rattle.look_core.specs.declared.look.Look.TheVariants.{Start, End, StartLF, EndLF, StartCRLF, EndCRLF, WordAscii, WordAsciiNegate}
use Rattle.look_core.specs.declared.look.Look.TheVariants.{WordUnicode, WordUnicodeNegate, WordStartAscii, WordEndAscii, WordStartUnicode}
use Rattle.look_core.specs.declared.look.Look.TheVariants.{WordEndUnicode, WordStartHalfAscii, WordEndHalfAscii, WordStartHalfUnicode}
use Rattle.look_core.specs.declared.look.Look.TheVariants.{WordEndHalfUnicode}
use Rattle.hir_core.specs.Tree.{Tree, concat, alternation}
use Rattle.hir_core.specs.Tree as tree
use Rattle.pattern_text.specs.Cut.{cut_to_bytes, without_surrogates}

-- the look for an assertion
abbrev pub translated_look : Assertion → Look
translated_look assertion.Start = Start
translated_look assertion.End = End
translated_look assertion.StartLf = StartLF
translated_look assertion.EndLf = EndLF
translated_look assertion.StartCrlf = StartCRLF
translated_look assertion.EndCrlf = EndCRLF
translated_look assertion.WordAscii = WordAscii
translated_look assertion.WordAsciiNegate = WordAsciiNegate
translated_look assertion.WordUnicode = WordUnicode
translated_look assertion.WordUnicodeNegate = WordUnicodeNegate
translated_look assertion.WordStartAscii = WordStartAscii
translated_look assertion.WordEndAscii = WordEndAscii
translated_look assertion.WordStartUnicode = WordStartUnicode
translated_look assertion.WordEndUnicode = WordEndUnicode
translated_look assertion.WordStartHalfAscii = WordStartHalfAscii
translated_look assertion.WordEndHalfAscii = WordEndHalfAscii
translated_look assertion.WordStartHalfUnicode = WordStartHalfUnicode
translated_look assertion.WordEndHalfUnicode = WordEndHalfUnicode

-- the name at the index, if there is one
abbrev pub name_at : Names → ℕ → Option (List ℕ)
name_at names index = slice_index_or names index None

-- one node, with each child replaced by its tree; an upper bound below the minimum number of rounds is raised
-- to that number
abbrev pub node_tree : Names → Hir-F Tree → Tree
node_tree names Hir-F.Empty = tree.empty
node_tree names (Hir-F.Literal bytes) = tree.literal bytes.items
node_tree names (Hir-F.Bytes class) = tree.byte_class (cut_to_bytes class.ranges.items)
node_tree names (Hir-F.Chars class) = tree.char_class (without_surrogates class.ranges.items)
node_tree names (Hir-F.Look l) = tree.look (translated_look l)
node_tree names (Hir-F.Repetition min most greedy sub) = tree.repetition min (option_map (λ n. max n min) most) greedy sub.value
node_tree names (Hir-F.Capture index sub) = tree.capture index (name_at names index) sub.value
node_tree names (Hir-F.Concat subs) = concat subs.items
node_tree names (Hir-F.Alternation subs) = alternation subs.items

-- the tree of the pattern, whose groups have these names, from group 0 on
abbrev pub translated : Names → Hir → Tree
translated names = fold-Hir Tree (node_tree names)
