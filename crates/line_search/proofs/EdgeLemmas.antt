-- A tree that asks for no edge is its own line tree.
use Rattle.std.proofs.Common.{◌≡◌, Bool, false, refl, ap, ap₂}
use Rattle.std.proofs.lemmas.Bool.{or_parts}
use Rattle.look_core.specs.declared.look.Look.{Look}
use Rattle.look_core.specs.declared.look.Look.TheVariants.{Start, End, StartLF, EndLF, StartCRLF, EndCRLF, WordAscii, WordAsciiNegate}
use Rattle.look_core.specs.declared.look.Look.TheVariants.{WordUnicode, WordUnicodeNegate, WordStartAscii, WordEndAscii, WordStartUnicode}
use Rattle.look_core.specs.declared.look.Look.TheVariants.{WordEndUnicode, WordStartHalfAscii, WordEndHalfAscii, WordStartHalfUnicode}
use Rattle.look_core.specs.declared.look.Look.TheVariants.{WordEndHalfUnicode}
use Rattle.hir_core.specs.Tree.{Tree, empty, literal, byte_class, char_class, look, repetition, capture, nothing, cat, never, alt}
use Rattle.line_trees.specs.LineTrees.{line_look, line_tree}
use Rattle.line_search.specs.Edges.{is_edge, asks_for_edge}

look_kept : (crlf : Bool) (l : Look) → is_edge l ≡ false → line_look crlf l ≡ l
look_kept crlf Start none = cc
look_kept crlf End none = cc
look_kept crlf EndLF none = cc
look_kept crlf StartLF none = refl
look_kept crlf StartCRLF none = refl
look_kept crlf EndCRLF none = refl
look_kept crlf WordAscii none = refl
look_kept crlf WordAsciiNegate none = refl
look_kept crlf WordUnicode none = refl
look_kept crlf WordUnicodeNegate none = refl
look_kept crlf WordStartAscii none = refl
look_kept crlf WordEndAscii none = refl
look_kept crlf WordStartUnicode none = refl
look_kept crlf WordEndUnicode none = refl
look_kept crlf WordStartHalfAscii none = refl
look_kept crlf WordEndHalfAscii none = refl
look_kept crlf WordStartHalfUnicode none = refl
look_kept crlf WordEndHalfUnicode none = refl

pub line_tree_kept : (crlf : Bool) (x : Tree) → asks_for_edge x ≡ false → line_tree crlf x ≡ x
line_tree_kept crlf empty none = refl
line_tree_kept crlf (literal bytes) none = refl
line_tree_kept crlf (byte_class ranges) none = refl
line_tree_kept crlf (char_class ranges) none = refl
line_tree_kept crlf (look l) none = ap look (look_kept crlf l none)
line_tree_kept crlf (repetition min most greedy x) none = ap (repetition min most greedy) (line_tree_kept crlf x none)
line_tree_kept crlf (capture index name x) none = ap (capture index name) (line_tree_kept crlf x none)
line_tree_kept crlf nothing none = refl
line_tree_kept crlf (cat x y) none =
    let parts = or_parts (asks_for_edge x) (asks_for_edge y) none in
    ap₂ cat (line_tree_kept crlf x parts.0) (line_tree_kept crlf y parts.1)
line_tree_kept crlf never none = refl
line_tree_kept crlf (alt x y) none =
    let parts = or_parts (asks_for_edge x) (asks_for_edge y) none in
    ap₂ alt (line_tree_kept crlf x parts.0) (line_tree_kept crlf y parts.1)
